-- One turn of reading coefficients: the next word is bad, is the last, or is one of several.
use Rattle.std.specs.Prelude.{Ok, Err}
use mathlib.Core.Path.{◌≡◌, refl, sym, ap, ◌∙◌}
use mathlib.Core.List.{List, [], ◌∷◌, ◌++◌}
use Prim.Native.Nat.{ℕ, ◌+◌, ◌-◌, ◌≤◌}
use native.Mathlib.Omega.{arith}
use lib.ListN.{length, take, drop, length-append}
use Rattle.ratio.specs.declared.Ratio.{Ratio}
use Rattle.ratio.specs.declared.Reason.{Reason}
use Rattle.terms.specs.declared.Poly.{Poly}
use Rattle.terms.specs.Poly.{poly_of}
use Rattle.tokens.specs.Words.{words_of, word_length}
use Rattle.tokens.proofs.Words.{parts_first}
use Rattle.tokens.proofs.Heights.{end-within, words-at, words_last, words_more, word-length}
use Rattle.reading.specs.Numbers.{ratio_from}
use Rattle.reading.specs.Coefficients.{bad_at, top_of, coeffs_from, read_poly}
use Rattle.reading.specs.Held.{Holds}
use Rattle.reading.proofs.Hold.{holds-none}

pub coeffs-bad : (at : ℕ) (l : List Ratio) (w : List ℕ) (ws : List (List ℕ)) {why : Reason} → ratio_from w ≡ Err why → coeffs_from at l (w ∷ ws) ≡ bad_at at
unfolding coeffs_from
coeffs-bad at l w [] e = rw e
coeffs-bad at l w (v ∷ ws) e = rw e

pub coeffs-last : (at : ℕ) (l : List Ratio) (w : List ℕ) {c : Ratio} → ratio_from w ≡ Ok c → coeffs_from at l (w ∷ []) ≡ top_of at l c
unfolding coeffs_from
coeffs-last at l w e = rw e

pub coeffs-more : (at : ℕ) (l : List Ratio) (w t : List ℕ) {c : Ratio} → ratio_from w ≡ Ok c → coeffs_from at l (w ∷ words_of t) ≡ coeffs_from (at + length w + 1) (l ++ (c ∷ [])) (words_of t)
unfolding coeffs_from
coeffs-more at l w t e = rw (parts_first 32 t, e)

-- what the loop keeps: the coefficients of the words before a place, and that the rest decides
pub record Under (s : List ℕ) (at : ℕ) (p : Poly) : Type 0 where
  pub list : List Ratio
  pub holds : Holds list p
  pub inside : at ≤ length s
  pub few : length list ≤ at
  pub left : coeffs_from at list (words_of (drop at s)) ≡ read_poly s

pub under_none : (s : List ℕ) (p : Poly) → p ≡ poly_of [] → Under s 0 p
unfolding read_poly
under_none s p e = record { list = []; holds = rw e holds-none; inside = omega arith; few = omega arith; left = refl }

module _ (s : List ℕ) (at : ℕ) (p : Poly) (u : Under s at p) (end : ℕ) (e : end ≡ at + word_length (drop at s)) where
  pub turn-bad : {why : Reason} → ratio_from (take (end - at) (drop at s)) ≡ Err why → bad_at at ≡ read_poly s
  turn-bad r = sym (coeffs-bad at u.list (take (end - at) (drop at s)) _ r) ∙ ap (coeffs_from at u.list) (sym (words-at s at end u.inside e)) ∙ u.left

  module _ {c : Ratio} (r : ratio_from (take (end - at) (drop at s)) ≡ Ok c) where
    pub turn_end : end ≡ length s → top_of at u.list c ≡ read_poly s
    turn_end z = sym (coeffs-last at u.list (take (end - at) (drop at s)) r) ∙ ap (coeffs_from at u.list) (sym (words_last s at end u.inside e z)) ∙ u.left

    pub turn_more : (end ≡ length s → ⊥) → (q : Poly) → Holds (u.list ++ (c ∷ [])) q → Under s (end + 1) q
    turn_more z q h =
        let n : length (u.list ++ (c ∷ [])) ≡ length u.list + 1 = length-append u.list (c ∷ []) in
        record {
          list = u.list ++ (c ∷ []);
          holds = h;
          inside = omega (arith, end-within s at end u.inside e, z);
          few = omega (arith, u.few);
          left =
              ap (λ n. coeffs_from n (u.list ++ (c ∷ [])) (words_of (drop (end + 1) s))) (sym (word-length s at end u.inside e))
              ∙ sym (coeffs-more at u.list (take (end - at) (drop at s)) (drop (end + 1) s) r)
              ∙ ap (coeffs_from at u.list) (sym (words_more s at end u.inside e z))
              ∙ u.left;
        }

-- The loops over brackets and over roots: what is left of the walk, onto what is found, gives the whole.
use Rattle.std.specs.Prelude.{Option}
use mathlib.Core.Path.{◌≡◌, refl, sym, ap, ◌∙◌}
use mathlib.Core.Bool.{Bool, true, false, cond}
use mathlib.Core.List.{List, [], ◌∷◌, ◌++◌}
use Prim.Native.Nat.{ℕ, zero, suc, ◌+◌, ◌-◌, ◌≤◌}
use native.Mathlib.Omega.{arith}
use lib.Ieee.{Float, binary64, sub, lt}
use lib.ListN.{length, drop, get_or, length-append}
use Rattle.bisect.specs.declared.Bracket.{Bracket}
use Rattle.refine.specs.Refine.{size_of}
use Rattle.refine.specs.Root.{root_of}
use Rattle.isolate.specs.declared.Isolation.{Isolation}
use Rattle.isolate.specs.Answer.{roots_in, holding, Kept}
use Rattle.isolate.specs.Sorted.{placed, roots_onto}
use Rattle.isolate.specs.Apart.{near_last, kept_list, apart_onto}
use Rattle.terms.proofs.Lists.{read-terms}
use Rattle.isolate.proofs.Hold.{roots-of, kept_of, kept-len}
use Rattle.isolate.proofs.Slides.{placed-length}

-- ---- brackets

pub record Gathering (p : List Float) (tol : Float) (l : List Bracket) (i : ℕ) (out : Isolation) : Type 0 where
  pub is : out ≡ holding (roots_in out)
  pub few : length (roots_in out) ≤ i
  pub whole : roots_onto p tol (drop i l) (roots_in out) ≡ roots_onto p tol l []

module _ (p : List Float) (tol : Float) (l : List Bracket) (i : ℕ) (out : Isolation) (g : Gathering p tol l i out) where
  pub gathering-more : (x : Bracket) → drop i l ≡ x ∷ drop (i + 1) l → (r : Option Float) → r ≡ root_of p x tol → (next : Isolation) → next ≡ holding (placed r (roots_in out)) → Gathering p tol l (i + 1) next
  unfolding roots_onto
  gathering-more x d r e next n =
      let q : roots_in next ≡ placed r (roots_in out) = roots-of next (placed r (roots_in out)) n in
      record {
        is = kept_of next (placed r (roots_in out)) n;
        few = omega (arith, ap length q, placed-length r (roots_in out), g.few);
        whole =
            ap (λ (t : List Float). roots_onto p tol (drop (i + 1) l) t) (q ∙ ap (λ (r : Option Float). placed r (roots_in out)) e)
            ∙ ap (λ (t : List Bracket). roots_onto p tol t (roots_in out)) (sym d)
            ∙ g.whole;
      }

  none-gathered : (t : List Bracket) (k : List Float) → length t ≡ 0 → k ≡ roots_onto p tol t k
  unfolding roots_onto
  none-gathered [] k h = refl
  none-gathered (x ∷ t) k h = absurd (omega arith)

  pub gathering-end : length (drop i l) ≡ 0 → out ≡ holding (roots_onto p tol l [])
  gathering-end h = g.is ∙ ap holding (none-gathered (drop i l) (roots_in out) h ∙ g.whole)

-- ---- roots that are too close

-- the last of a list
pub near-at : (tol x : Float) (l : List Float) (k : ℕ) (d : Float) → suc k ≡ length l → near_last tol x l ≡ lt (size_of (sub binary64 x (get_or l k d))) tol
unfolding near_last
near-at tol x [] k d h = absurd (omega arith)
near-at tol x (y ∷ []) zero d h = refl
near-at tol x (y ∷ []) (suc k) d h = absurd (omega arith)
near-at tol x (y ∷ z ∷ l) zero d h = absurd (omega arith)
near-at tol x (y ∷ z ∷ l) (suc k) d h = near-at tol x (z ∷ l) k d (omega arith)

pub near_none : (tol x : Float) (l : List Float) → length l ≡ 0 → near_last tol x l ≡ false
unfolding near_last
near_none tol x [] h = refl
near_none tol x (y ∷ l) h = absurd (omega arith)

-- as the code reads it
pub near-read : (r : Isolation) (tol x d z : Float) → Kept r → 1 ≤ r.len → z ≡ size_of (sub binary64 x (get_or r.roots (r.len - 1) d)) → near_last tol x (roots_in r) ≡ lt z tol
near-read r tol x d z k h e =
    near-at tol x (roots_in r) (r.len - 1) d (omega (arith, kept-len r k))
    ∙ ap (λ (v : Float). lt (size_of (sub binary64 x v)) tol) (sym (read-terms r.len r.roots (r.len - 1) d d (omega (arith, kept-len r k))))
    ∙ ap (λ (v : Float). lt v tol) (sym e)

module _ (tol x : Float) (l : List Float) where
  pub kept_near : near_last tol x l ≡ true → l ≡ kept_list tol x l
  kept_near h = ap (λ (t : Bool). cond t l (l ++ (x ∷ []))) (sym h)

  pub kept-far : near_last tol x l ≡ false → l ++ (x ∷ []) ≡ kept_list tol x l
  kept-far h = ap (λ (t : Bool). cond t l (l ++ (x ∷ []))) (sym h)

kept-length : (t : Bool) (x : Float) (l : List Float) → length (cond t l (l ++ (x ∷ []))) ≤ length l + 1
kept-length true x l = omega arith
kept-length false x l = omega (arith, length-append l (x ∷ []))

pub record Keeping (tol : Float) (l : List Float) (i : ℕ) (out : Isolation) : Type 0 where
  pub is : out ≡ holding (roots_in out)
  pub few : length (roots_in out) ≤ i
  pub whole : apart_onto tol (drop i l) (roots_in out) ≡ apart_onto tol l []

module _ (tol : Float) (l : List Float) (i : ℕ) (out : Isolation) (g : Keeping tol l i out) where
  pub keeping-more : (x : Float) → drop i l ≡ x ∷ drop (i + 1) l → (next : Isolation) → next ≡ holding (kept_list tol x (roots_in out)) → Keeping tol l (i + 1) next
  unfolding apart_onto
  keeping-more x d next n =
      let q : roots_in next ≡ kept_list tol x (roots_in out) = roots-of next (kept_list tol x (roots_in out)) n in
      record {
        is = kept_of next (kept_list tol x (roots_in out)) n;
        few = omega (arith, ap length q, kept-length (near_last tol x (roots_in out)) x (roots_in out), g.few);
        whole =
            ap (λ (t : List Float). apart_onto tol (drop (i + 1) l) t) q
            ∙ ap (λ (t : List Float). apart_onto tol t (roots_in out)) (sym d)
            ∙ g.whole;
      }

  none_kept : (t k : List Float) → length t ≡ 0 → k ≡ apart_onto tol t k
  unfolding apart_onto
  none_kept [] k h = refl
  none_kept (x ∷ t) k h = absurd (omega arith)

  pub keeping-end : length (drop i l) ≡ 0 → out ≡ holding (apart_onto tol l [])
  keeping-end h = g.is ∙ ap holding (none_kept (drop i l) (roots_in out) h ∙ g.whole)

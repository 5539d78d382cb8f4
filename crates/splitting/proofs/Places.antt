-- Laws of the list of factors in its array: one more where there is room.
use Rattle.ratio.specs.Refusal.{no_refusal}
use Rattle.std.specs.Prelude.{Err}
use mathlib.Core.Path.{◌≡◌, sym, ap, ◌∙◌}
use mathlib.Core.List.{List, [], ◌∷◌, ◌++◌}
use Prim.Native.Nat.{ℕ, ◌+◌, ◌<◌, ◌≤◌}
use native.Mathlib.Omega.{arith}
use borrow.Author.Tests.{lt-ltb, le-ltb}
use lib.ListN.{length, set}
use Rattle.ratio.specs.declared.Ratio.{Ratio}
use Rattle.ratio.specs.declared.Reason.{Reason}
use Rattle.terms.specs.declared.Poly.{Poly}
use Rattle.terms.specs.Poly.{terms_of, poly_of}
use Rattle.terms.proofs.Lists.{terms-of-poly}
use Rattle.yun.specs.declared.Piece.{Piece}
use Rattle.yun.specs.declared.Decomposition.{Decomposition}
use Rattle.remainders.proofs.CodeAnswer.{done_refused}
use Rattle.yun.specs.Answer.{pieces_of, found_all, decomposition_of}
use Rattle.yun.specs.Got.{Got, got, none}
use Rattle.yun.proofs.CodeFound.{found-pieces, one_more}
use Rattle.splitting.specs.Peel.{added, added_unless}
use Rattle.splitting.specs.Pair.{Padded}
use Rattle.splitting.specs.Split.{Kept}

pub kept : (l : List Piece) → Kept (found_all l)
kept l = record { is = ap found_all (sym (found-pieces l)) }

pub padded : (l : List Ratio) → Padded (poly_of l)
padded l = record { is = ap poly_of (sym (terms-of-poly l)) }

kept-len : (d : Decomposition) → Kept d → d.len ≡ length (pieces_of d)
kept-len d k = ap (λ (d : Decomposition). d.len) k.is

pub add-full : (d : Decomposition) (p : List Ratio) (times : ℕ) → Kept d → 32 ≤ d.len → d ≡ found_all (added p times (pieces_of d))
unfolding added
add-full d p times k h = rw (le-ltb (length (pieces_of d)) 32 (omega (arith, kept-len d k))) k.is

pub added_full : (d : Decomposition) (p : List Ratio) (times : ℕ) → Kept d → 32 ≤ d.len → added p times (pieces_of d) ≡ pieces_of d
unfolding added
added_full d p times k h = rw (le-ltb (length (pieces_of d)) 32 (omega (arith, kept-len d k)))

pub add_done : (d : Decomposition) (p : Poly) (times : ℕ) → Kept d → Padded p → d.len < 32
    → ◌≡◌ {A = Decomposition} (record { outcome = d.outcome; pieces = set d.pieces d.len (record { poly = p; times = times }); len = d.len + 1 }) (found_all (added (terms_of p) times (pieces_of d)))
unfolding added
add_done d p times k e h =
    let l : length (pieces_of d) < 32 = omega (arith, kept-len d k) in
    let x : Piece = record { poly = p; times = times } in
    rw (lt-ltb (length (pieces_of d)) 32 l)
    (ap {B = Decomposition} (λ (d : Decomposition). record { outcome = d.outcome; pieces = set d.pieces d.len x; len = d.len + 1 }) k.is
    ∙ one_more (pieces_of d) x l
    ∙ ap (λ (q : Poly). found_all (pieces_of d ++ (record { poly = q; times = times } ∷ []))) e.is)

-- a constant is no factor
pub unless-none : (p : List Ratio) (times : ℕ) (l : List Piece) → length p < 2 → added_unless p times l ≡ l
unless-none p times l h = rw (lt-ltb (length p) 2 h)

pub unless-some : (p : List Ratio) (times : ℕ) (l : List Piece) → 2 ≤ length p → added_unless p times l ≡ added p times l
unless-some p times l h = rw (le-ltb (length p) 2 h)

-- ---- what a list of factors in memory says of the work behind it

module _ (d : Decomposition) where
  pub list-got : (g : Got (List Piece)) → d ≡ decomposition_of g → d.outcome ≡ no_refusal → g ≡ got (pieces_of d)
  list-got (got l) e o = rw (e, found-pieces l)
  list-got (none why) e o = done_refused d.outcome why o (ap (λ (x : Decomposition). x.outcome) e)

  pub list-kept : (g : Got (List Piece)) → d ≡ decomposition_of g → d.outcome ≡ no_refusal → Kept d
  list-kept (got l) e o = record { is = rw e (ap found_all (sym (found-pieces l))) }
  list-kept (none why) e o = done_refused d.outcome why o (ap (λ (x : Decomposition). x.outcome) e)

  pub list-none : (g : Got (List Piece)) (why : Reason) → d ≡ decomposition_of g → d.outcome ≡ Err why → g ≡ none why
  list-none (got l) why e o = done_refused d.outcome why (ap (λ (x : Decomposition). x.outcome) e) o
  list-none (none w) why e o =
      let q : Err w ≡ Err why = sym (ap (λ (x : Decomposition). x.outcome) e) ∙ o in
      cc

pub padded-made : (p : Poly) (l : List Ratio) → p ≡ poly_of l → Padded p
padded-made p l e = record { is = e ∙ ap poly_of (sym (terms-of-poly l)) ∙ ap (λ (q : Poly). poly_of (terms_of q)) (sym e) }

-- Document 01, module 5, `split_into_irreducibles`: rational roots first, then Kronecker; what isn't split stays whole. A refusal is handed on.
use Rattle.std.specs.Prelude.{◌≡◌, cond, List, [], ◌∷◌, ℕ, zero, suc, ◌≤◌, ltb, eqb, length, Ok, Err}
use Rattle.ratio.specs.Refusal.{Outcome}
use Rattle.ratio.specs.declared.Ratio.{Ratio}
use Rattle.terms.specs.Poly.{terms_of, trim}
use Rattle.search.specs.Answer.{roots_of}
use Rattle.yun.specs.declared.Decomposition.{Decomposition}
use Rattle.yun.specs.declared.Piece.{Piece}
use Rattle.yun.specs.Answer.{found_all, pieces_of, decomposition_of}
use Rattle.yun.specs.Got.{Got, got, none, then_got}
use Rattle.splitting.specs.Peel.{added, start, peeled, roots_in}
use Rattle.splitting.specs.Pair.{Halves, whole, both, pair_of}

abbrev pub Found : Type 0
Found = Got (List Piece)

abbrev pub on_roots : Outcome → Found → Found
on_roots (Ok _) r = r
on_roots (Err why) r = none why

-- the two parts are split one after the other
abbrev pub on_halves : Halves → Found → (List Ratio → List Ratio → Found) → Found
on_halves whole r k = r
on_halves (both g q) r k = k g q

-- each call works on a shorter list, so that as many as f is long are enough
unfoldable pub split_onto : ℕ → List Ratio → ℕ → ℕ → List Piece → Found
split_onto zero f times budget found = got found
split_onto (suc k) f times budget found =
    cond (ltb (length f) 2) (got found)
    (cond (eqb (length f) 2) (got (added f times found))
    (on_roots (roots_of f budget).outcome
    (cond (ltb 0 (roots_of f budget).len)
    (then_got (peeled times (roots_in (roots_of f budget)) (start found f)) (λ l.
    cond (ltb (length l.rest) (length f)) (split_onto k l.rest times budget l.found) (got (added l.rest times l.found))))
    (then_got (pair_of f budget) (λ h.
    on_halves h (got (added f times found)) (λ g q. then_got (split_onto k g times budget found) (λ found. split_onto k q times budget found)))))))

-- what a split hands back, whatever bound from f's length on is taken
pub record Splits (f : List Ratio) (times budget : ℕ) (found : List Piece) (r : Decomposition) : Type 0 where
  pub is : (k : ℕ) → length f ≤ k → r ≡ decomposition_of (split_onto k f times budget found)

-- one factor after the other, each with its multiplicity
unfoldable pub split_all : List Piece → ℕ → List Piece → Found
split_all [] budget found = got found
split_all (p ∷ l) budget found =
    then_got (split_onto (length (trim (terms_of p.poly))) (trim (terms_of p.poly)) p.times budget found) (λ found. split_all l budget found)

-- ---- how it lies in memory

-- an answered list of factors; unused places hold nothing
pub record Kept (d : Decomposition) : Type 0 where
  pub is : d ≡ found_all (pieces_of d)

-- Where a stretch is split: each way it can go.
use mathlib.Core.Path.{◌≡◌, refl, sym, ap, ◌∙◌}
use mathlib.Core.Bool.{Bool, true, false}
use mathlib.Core.List.{List, [], ◌∷◌}
use Prim.Native.Nat.{ℕ, ◌≤◌}
use native.Mathlib.Omega.{arith}
use lib.Ieee.{Float, binary64, of_bits, add, sub, eq}
use lib.ListN.{length, take, get_or}
use Rattle.sturm.specs.Value.{horner}
use Rattle.sturm.specs.Rows.{rows_in}
use Rattle.bisect.specs.declared.Cut.{Cut}
use Rattle.bisect.specs.declared.End.{End}
use Rattle.bisect.specs.Cut.{end_of, root_at, middle, hits_of, nearby, halves, aside, cut_if, cut_of}

pub root_none : (v : List Float) (sizes : List ℕ) (x : Float) → length sizes ≡ 0 → false ≡ root_at (rows_in v sizes) x
unfolding rows_in
root_none v [] x h = refl
root_none v (n ∷ sizes) x h = absurd (omega arith)

-- the first row
pub root-first : (v : List Float) (sizes : List ℕ) (d : ℕ) (x y : Float) → 1 ≤ length sizes → y ≡ horner (take (get_or sizes 0 d) v) x → eq y (of_bits binary64 0) ≡ root_at (rows_in v sizes) x
unfolding rows_in
root-first v [] d x y h e = absurd (omega arith)
root-first v (n ∷ sizes) d x y h e = ap (λ (z : Float). eq z (of_bits binary64 0)) e

-- an end holds the changes of its place
pub seen : (rows : List (List Float)) (e : End) (x : Float) → e ≡ end_of rows x → e ≡ end_of rows e.at
seen rows e x h = h ∙ ap (λ (y : Float). end_of rows y) (sym (ap (λ (d : End). d.at) h))

module _ (c : List (List Float)) (a b tol : Float) where
  pub cut-halves : hits_of (root_at c (middle a b)) (sub binary64 b a) tol ≡ false → halves (middle a b) ≡ cut_of c a b tol
  unfolding cut_of
  cut-halves h = ap (λ (t : Bool). cut_if t a b (middle a b) (nearby a b)) (sym h)

  pub cut-aside : hits_of (root_at c (middle a b)) (sub binary64 b a) tol ≡ true → aside a b (middle a b) (sub binary64 (middle a b) (nearby a b)) (add binary64 (middle a b) (nearby a b)) ≡ cut_of c a b tol
  unfolding cut_of
  cut-aside h = ap (λ (t : Bool). cut_if t a b (middle a b) (nearby a b)) (sym h)

  -- without an exact root both parts begin at the same place
  same_at : (t : Bool) (m eps : Float) → (cut_if t a b m eps).exact ≡ false → (cut_if t a b m eps).hi ≡ (cut_if t a b m eps).lo
  same_at true m eps h = cc
  same_at false m eps h = refl

  pub cut-same : (s : Cut) → s ≡ cut_of c a b tol → s.exact ≡ false → s.hi ≡ s.lo
  unfolding cut_of
  cut-same s e h =
      ap (λ (x : Cut). x.hi) e
      ∙ same_at (hits_of (root_at c (middle a b)) (sub binary64 b a) tol) (middle a b) (nearby a b) (ap (λ (x : Cut). x.exact) (sym e) ∙ h)
      ∙ ap (λ (x : Cut). x.lo) (sym e)

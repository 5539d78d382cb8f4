-- Each rational has one pair in lowest terms: its representative.
use mathlib.Core.Path.{◌≡◌, sym, ◌∙◌}
use mathlib.Core.HLevel.{Σ_prop_path, ×_prop}
use lib.IntN.{nat_abs}
use Rattle.algebra.specs.Rational.{Rat, Same, over}
use Rattle.algebra.proofs.Whole.{ℤ-domain}
use Rattle.algebra.proofs.WholeDivides.{only-one-prop}
use Rattle.algebra.proofs.Fraction.{fr-ind, Frac-set}
use Rattle.algebra.proofs.Rational.{ℚ, val, val_same, same-val, val-over}
use Rattle.algebra.proofs.Lowest.{LowestTerms, lowest-unique, reduce}

Low : ℚ → Type 0
Low x = (r : Rat) × (LowestTerms r × (val r ≡ x))

low-prop : (x : ℚ) → IsProp (Low x)
unfolding Low
low-prop x a b = Σ_prop_path (λ r. ×_prop (only-one-prop (nat_abs r.num) r.den) (Frac-set ℤ-domain _ _))
    (lowest-unique a.0 b.0 a.1.0 b.1.0 (same-val a.0 b.0 (a.1.1 ∙ sym b.1.1)))

low : (x : ℚ) → Low x
unfolding Low
low = fr-ind ℤ-domain Low low-prop (λ n d h.
    let (r, l, e) = reduce (over n d) in
    (r, (l, val_same r (over n d) e ∙ val-over n d h)))

pub rep : ℚ → Rat
unfolding Low
rep x = (low x).0

pub rep-lowest : (x : ℚ) → LowestTerms (rep x)
unfolding Low rep
rep-lowest x = (low x).1.0

pub val-rep : (x : ℚ) → val (rep x) ≡ x
unfolding Low rep
val-rep x = (low x).1.1

pub rep-val : (r : Rat) → Same (rep (val r)) r
rep-val r = same-val (rep (val r)) r (val-rep (val r))

pub rep-fixed : (r : Rat) → LowestTerms r → rep (val r) ≡ r
rep-fixed r l = lowest-unique (rep (val r)) r (rep-lowest (val r)) l (rep-val r)

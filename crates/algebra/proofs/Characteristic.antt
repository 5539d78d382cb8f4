-- Characteristic 0: no n + 1 is 0 in the whole numbers, nor in the rationals.
use mathlib.Core.Path.{sym, ◌∙◌}
use mathlib.Core.Logic.{◌≢◌}
use Prim.Native.Nat.{ℕ, suc}
use Rattle.algebra.proofs.Ring.{CRing, Domain, nat}
use Rattle.algebra.proofs.RingMap.{map-nat}
use Rattle.algebra.proofs.Whole.{ℤ-ring, ℤ-domain, pos-ne}
use Rattle.algebra.proofs.WholeNumerals.{nat-ℤ}
use Rattle.algebra.proofs.Fraction.{Frac-ring}
use Rattle.algebra.proofs.Embedding.{into-map, into-only-nil}
use Rattle.algebra.proofs.Rational.{ℚ-ring}

abbrev pub Char0 : {A : Type 0} → CRing A → Type 0
Char0 R = (n : ℕ) → nat R (suc n) ≢ R.nil

pub fraction-char : {A : Type 0} (D : Domain A) → Char0 D.ring → Char0 (Frac-ring D)
fraction-char D char n e = char n (into-only-nil D (nat D.ring (suc n)) (map-nat D.ring (Frac-ring D) (into-map D) (suc n) ∙ e))

pub whole-char : Char0 ℤ-ring
whole-char n e = pos-ne n (sym (nat-ℤ (suc n)) ∙ e)

pub rational-char : Char0 ℚ-ring
rational-char = fraction-char ℤ-domain whole-char

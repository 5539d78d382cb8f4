-- Division of whole numbers with a remainder: z = q d + r, where r is a natural number below the size of d.
use mathlib.Core.Path.{◌≡◌, refl, sym, ◌∙◌, ap}
use mathlib.Core.Logic.{◌≢◌}
use Prim.Native.Nat.{ℕ, zero, suc, ◌-◌, ◌/◌, ◌%◌, ◌<◌}
use native.Mathlib.Omega.{arith}
use native.Mathlib.Nat.{div-add-mod', mod-lt}
use lib.IntN.{ℤ, pos, negsuc, neg_ℤ, ◌+ℤ◌, ◌*ℤ◌, nat_abs}
use Rattle.algebra.proofs.Ring.{neg-mul, mul-neg}
use Rattle.algebra.proofs.Whole.{ℤ-ring, up, dn, ext, add_is, mul_is}

pub record Divided (z d : ℤ) : Type 0 where
  pub quotient : ℤ
  pub rest : ℕ
  pub is : z ≡ quotient *ℤ d +ℤ pos rest
  pub below : rest < nat_abs d

-- − (m + 1) = − (m / d + 1) d + (d − 1 − m % d)
below-zero : (m d : ℕ) → 0 < d → negsuc m ≡ negsuc (m / d) *ℤ pos d +ℤ pos (d - suc (m % d))
unfolding up dn
below-zero m d h = ext (negsuc m) (negsuc (m / d) *ℤ pos d +ℤ pos (d - suc (m % d)))
    (omega (arith, add_is (negsuc (m / d) *ℤ pos d) (pos (d - suc (m % d))), mul_is (negsuc (m / d)) (pos d), div-add-mod' m d, mod-lt m h))

by-nat : (z : ℤ) (d : ℕ) → 0 < d → Divided z (pos d)
by-nat (pos m) d h = record { quotient = pos (m / d); rest = m % d; is = ap pos (sym (div-add-mod' m d)); below = mod-lt m h }
by-nat (negsuc m) d h = record {
  quotient = negsuc (m / d);
  rest = d - suc (m % d);
  is = below-zero m d h;
  below = let k : m % d < d = mod-lt m h in omega arith;
}

pub divideℤ : (z d : ℤ) → d ≢ pos 0 → Divided z d
divideℤ z (pos zero) h = absurd (h refl)
divideℤ z (pos (suc d)) h = by-nat z (suc d) (omega arith)
divideℤ z (negsuc d) h =
    let r : Divided z (pos (suc d)) = by-nat z (suc d) (omega arith) in
    record {
      quotient = neg_ℤ r.quotient;
      rest = r.rest;
      is = r.is ∙ ap (λ t. t +ℤ pos r.rest) (sym (neg-mul ℤ-ring r.quotient (negsuc d) ∙ sym (mul-neg ℤ-ring r.quotient (negsuc d))));
      below = r.below;
    }

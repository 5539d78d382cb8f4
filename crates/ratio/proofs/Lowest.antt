-- Laws of `lowest`: it is the same rational, and in lowest terms. Fractions of whole numbers as the textbook's rationals.
use mathlib.Core.Path.{◌≡◌, refl, sym, ap, ap₂, subst, ◌∙◌}
use mathlib.Core.Logic.{◌≢◌}
use Prim.Native.Nat.{ℕ, zero, suc, ◌*◌, ◌/◌, ◌<◌, ◌∣◌}
use native.Mathlib.Nat.{div-mul_cancel, div-le_self, pos_of_dvd_of_pos, dvd-mul_right}
use native.Mathlib.Omega.{arith}
use borrow.Author.Tests.{lt-ltb}
use lib.Dec.{T}
use lib.IntN.{ℤ, pos, negsuc, neg_ℤ, nat_abs, ◌+ℤ◌, ◌-ℤ◌, ◌*ℤ◌}
use lib.Signed.{lt_z, ◌<ℤ◌}
use Rattle.algebra.specs.Rational.{Same, add_q, sub_q, mul_q, neg_q, over}
use Rattle.algebra.proofs.Ring.{neg-mul, mul-ne}
use Rattle.algebra.proofs.Whole.{ℤ-ring, ℤ-domain}
use Rattle.algebra.proofs.Fraction.{fr-add, fr-mul, fr-neg}
use Rattle.algebra.proofs.Rational.{val, val-over, val-add, val-mul, val-neg, val-sub, same-val, ◌+ℚ◌, ◌*ℚ◌, -ℚ◌}
use Rattle.algebra.proofs.NaturalGcd.{Greatest, greatest-quotients}
use Rattle.algebra.proofs.Lowest.{LowestTerms, lowest_by}
use Rattle.ratio.specs.Gcd.{gcd_of}
use Rattle.ratio.specs.Step.{signed, differ, facing, lowest}
use Rattle.ratio.specs.Promise.{rat, Fraction, Lowest}
use Rattle.ratio.proofs.Words.{pos-neg, abs-signed, size_above}
use Rattle.ratio.proofs.Euclid.{is-gcd, gcd-above}
use Rattle.ratio.proofs.Words.{signed_mul}

-- ---- the numerator and the denominator of a fraction of whole numbers

pub num-over : (n d : ℤ) → d ≢ pos 0 → (over n d).num ≡ facing n d
num-over n (pos zero) h = absurd (h refl)
num-over (pos m) (pos (suc d)) h = rw (pos-neg m, pos-neg (suc d))
num-over (negsuc m) (pos (suc d)) h = rw (pos-neg (suc d))
num-over (pos m) (negsuc d) h = rw (pos-neg m)
num-over (negsuc m) (negsuc d) h = refl

pub den-over : (n d : ℤ) → d ≢ pos 0 → (over n d).den ≡ nat_abs d
den-over n (pos zero) h = absurd (h refl)
den-over n (pos (suc d)) h = refl
den-over n (negsuc d) h = refl

num-above : (n : ℤ) (k : ℕ) → 0 < k → (over n (pos k)).num ≡ n
num-above n zero h = absurd (omega arith)
num-above n (suc k) h = refl

den-above : (n : ℤ) (k : ℕ) → 0 < k → (over n (pos k)).den ≡ k
den-above n zero h = absurd (omega arith)
den-above n (suc k) h = refl

-- ---- lowest terms

as-greatest : (a b : ℕ) → Greatest a b (gcd_of a b)
as-greatest a b = record { left = (is-gcd a b).divides-a; right = (is-gcd a b).divides-b; greatest = (is-gcd a b).greatest }

module _ (n d : ℤ) (h : d ≢ pos 0) where
  abbrev g : ℕ
  g = gcd_of (nat_abs n) (nat_abs d)

  den-quotient : 0 < nat_abs d / g
  den-quotient = pos_of_dvd_of_pos (subst (λ (k : ℕ). nat_abs d / g ∣ k) (div-mul_cancel g (is-gcd (nat_abs n) (nat_abs d)).divides-b) (dvd-mul_right (nat_abs d / g) g)) (size_above d h)

  greatest : Greatest (nat_abs (over n d).num) (over n d).den g
  greatest =
      rw (num-over n d h, den-over n d h, abs-signed (differ (lt_z n (pos 0)) (lt_z d (pos 0))) (nat_abs n))
      (as-greatest (nat_abs n) (nat_abs d))

  both : LowestTerms (rat (lowest n d)) × Same (rat (lowest n d)) (over n d)
  unfolding lowest
  both = lowest_by (over n d) (rat (lowest n d)) g greatest
      (ap (λ (z : ℤ). z *ℤ pos g) (num-above _ (nat_abs d / g) den-quotient)
      ∙ signed_mul (differ (lt_z n (pos 0)) (lt_z d (pos 0))) (nat_abs n / g) g
      ∙ ap (signed (differ (lt_z n (pos 0)) (lt_z d (pos 0)))) (div-mul_cancel g (is-gcd (nat_abs n) (nat_abs d)).divides-a)
      ∙ sym (num-over n d h))
      (ap (λ (k : ℕ). k * g) (den-above _ (nat_abs d / g) den-quotient)
      ∙ div-mul_cancel g (is-gcd (nat_abs n) (nat_abs d)).divides-b
      ∙ sym (den-over n d h))

  pub lowest-same : Same (rat (lowest n d)) (over n d)
  lowest-same = both.1

above_zero : (k : ℕ) → 0 < k → pos 0 <ℤ pos k
above_zero k h = record { lt = subst T (sym (lt-ltb 0 k h)) tt }

pub lowest-lowest : (n d : ℤ) → Fraction (record { num = n; den = d }) → Lowest (lowest n d)
unfolding lowest
lowest-lowest n d f =
    let h = f.den-some in
    let q = den-quotient n d h in
    let t = differ (lt_z n (pos 0)) (lt_z d (pos 0)) in
    let g = gcd_of (nat_abs n) (nat_abs d) in
    record {
      fraction = record {
        num-within = rw (abs-signed t (nat_abs n / g)) (omega (arith, div-le_self (nat_abs n) g, f.num-within));
        den-within = omega (arith, div-le_self (nat_abs d) g, f.den-within);
        den-some = λ e. omega (arith, q, ap nat_abs e);
      };
      above = above_zero (nat_abs d / g) q;
      coprime = rw (abs-signed t (nat_abs n / g)) (greatest-quotients (nat_abs n) (nat_abs d) g (gcd-above (nat_abs n) (nat_abs d) (size_above d h)) (as-greatest (nat_abs n) (nat_abs d)));
    }

-- ---- sums, differences, products and negatives of fractions of whole numbers

module _ (n d m e : ℤ) (h : d ≢ pos 0) (k : e ≢ pos 0) where
  pub over_add : Same (over (n *ℤ e +ℤ m *ℤ d) (d *ℤ e)) (add_q (over n d) (over m e))
  over_add = same-val _ _
      (val-over (n *ℤ e +ℤ m *ℤ d) (d *ℤ e) (mul-ne ℤ-domain d e h k)
      ∙ sym (fr-add ℤ-domain n d m e h k)
      ∙ ap₂ ◌+ℚ◌ (sym (val-over n d h)) (sym (val-over m e k))
      ∙ sym (val-add (over n d) (over m e)))

  pub over-sub : Same (over (n *ℤ e -ℤ m *ℤ d) (d *ℤ e)) (sub_q (over n d) (over m e))
  over-sub = same-val _ _
      (ap (λ (z : ℤ). val (over (n *ℤ e +ℤ z) (d *ℤ e))) (sym (neg-mul ℤ-ring m d))
      ∙ val-over (n *ℤ e +ℤ neg_ℤ m *ℤ d) (d *ℤ e) (mul-ne ℤ-domain d e h k)
      ∙ sym (fr-add ℤ-domain n d (neg_ℤ m) e h k)
      ∙ ap₂ ◌+ℚ◌ (sym (val-over n d h)) (sym (fr-neg ℤ-domain m e k) ∙ ap -ℚ◌ (sym (val-over m e k)))
      ∙ sym (val-sub (over n d) (over m e)))

  pub over-mul : Same (over (n *ℤ m) (d *ℤ e)) (mul_q (over n d) (over m e))
  over-mul = same-val _ _
      (val-over (n *ℤ m) (d *ℤ e) (mul-ne ℤ-domain d e h k)
      ∙ sym (fr-mul ℤ-domain n d m e h k)
      ∙ ap₂ ◌*ℚ◌ (sym (val-over n d h)) (sym (val-over m e k))
      ∙ sym (val-mul (over n d) (over m e)))

pub over-neg : (n d : ℤ) → d ≢ pos 0 → Same (over (neg_ℤ n) d) (neg_q (over n d))
over-neg n d h = same-val _ _
    (val-over (neg_ℤ n) d h ∙ sym (fr-neg ℤ-domain n d h) ∙ ap -ℚ◌ (sym (val-over n d h)) ∙ sym (val-neg (over n d)))

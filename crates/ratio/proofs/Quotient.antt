-- Signed quotients by a common divisor, and the sign that moves to the numerator: what normalising a fraction makes of its parts.
use mathlib.Core.Path.{◌≡◌, refl, sym, ap, ap₂, ◌∙◌, subst}
use mathlib.Core.Bool.{Bool, true, false, not}
use Prim.Native.Nat.{ℕ, zero, suc, ◌/◌, ◌<◌, ◌≤◌}
use native.Mathlib.Nat.{div-le_self, div-one, zero-div, le_trans}
use native.Mathlib.Omega.{arith}
use lib.IntN.{ℤ, pos, negsuc, neg_ℤ, nat_abs}
use lib.Signed.{lt_z, quot_z}
use mir.Syntax.{w64}
use mir.Val.{SFits, to_z, of_z}
use mir.Facts.{to_z-of_z}
use Rattle.ratio.specs.Range.{limit, Within}
use Rattle.ratio.specs.Gcd.{gcd_of}
use Rattle.ratio.specs.Step.{signed, differ, facing, lowest}
use Rattle.ratio.specs.declared.Ratio.{Ratio}
use Rattle.ratio.proofs.Words.{back, size_back, pos-neg, signed-within, abs_neg, abs-signed}
use Rattle.ratio.proofs.Euclid.{gcd-one}

-- ---- a number by its sign and its size

sign-size : (z : ℤ) → z ≡ signed (lt_z z (pos 0)) (nat_abs z)
sign-size (pos a) = ap (λ t. signed t a) (sym (pos-neg a))
sign-size (negsuc a) = refl

neg-neg-pos : (m : ℕ) → neg_ℤ (neg_ℤ (pos m)) ≡ pos m
neg-neg-pos zero = refl
neg-neg-pos (suc m) = refl

neg-signed : (t : Bool) (m : ℕ) → neg_ℤ (signed t m) ≡ signed (not t) m
neg-signed true m = neg-neg-pos m
neg-signed false m = refl

differ-true : (t : Bool) → not t ≡ differ t true
differ-true true = refl
differ-true false = refl

differ-false : (t : Bool) → t ≡ differ t false
differ-false true = refl
differ-false false = refl

abbrev pub faces : ℤ → ℤ → Ratio
faces n d = record { num = facing n d; den = pos (nat_abs d) }

abbrev pub over : ℤ → ℤ → Ratio
over n d = record { num = n; den = d }

-- where the denominator is below zero both parts turn, else they are kept
pub turned : (n d : ℤ) → lt_z d (pos 0) ≡ true → (neg_ℤ n ≡ facing n d) × (neg_ℤ d ≡ pos (nat_abs d))
turned n d e = (
  ap neg_ℤ (sign-size n) ∙ neg-signed (lt_z n (pos 0)) (nat_abs n) ∙ ap (λ t. signed t (nat_abs n)) (differ-true (lt_z n (pos 0)) ∙ ap (differ (lt_z n (pos 0))) (sym e)),
  ap neg_ℤ (sign-size d) ∙ neg-signed (lt_z d (pos 0)) (nat_abs d) ∙ ap (λ t. signed (not t) (nat_abs d)) e,
)

pub kept : (n d : ℤ) → lt_z d (pos 0) ≡ false → (n ≡ facing n d) × (d ≡ pos (nat_abs d))
kept n d e = (
  sign-size n ∙ ap (λ t. signed t (nat_abs n)) (differ-false (lt_z n (pos 0)) ∙ ap (differ (lt_z n (pos 0))) (sym e)),
  sign-size d ∙ ap (λ t. signed t (nat_abs d)) e,
)

-- ---- quotients

quot-signed : (z : ℤ) (g : ℕ) → quot_z z (pos g) ≡ signed (lt_z z (pos 0)) (nat_abs z / g)
quot-signed (pos a) g = ap (λ t. signed t (a / g)) (sym (pos-neg a))
quot-signed (negsuc a) g = refl

pub quot-within : (z : ℤ) (g : ℕ) → Within z → Within (quot_z z (pos g))
quot-within z g h = subst Within (sym (quot-signed z g)) (signed-within (lt_z z (pos 0)) (nat_abs z / g) (le_trans (div-le_self (nat_abs z) g) h))

quot-size : (z : ℤ) (g : ℕ) → nat_abs (quot_z z (pos g)) ≡ nat_abs z / g
quot-size z g = ap nat_abs (quot-signed z g) ∙ abs-signed (lt_z z (pos 0)) (nat_abs z / g)

-- a sign counts where the number isn't zero
signed_test : (t : Bool) (m : ℕ) → 0 < m → lt_z (signed t m) (pos 0) ≡ t
signed_test true zero h = absurd (omega arith)
signed_test true (suc m) h = refl
signed_test false m h = pos-neg m

signed-nil : (t u : Bool) → signed t 0 ≡ signed u 0
signed-nil true true = refl
signed-nil true false = refl
signed-nil false true = refl
signed-nil false false = refl

signed-differ : (t u : Bool) (m : ℕ) → signed (differ (lt_z (signed t m) (pos 0)) u) m ≡ signed (differ t u) m
signed-differ t u zero = signed-nil (differ (lt_z (signed t 0) (pos 0)) u) (differ t u)
signed-differ t u (suc m) = ap (λ s. signed (differ s u) (suc m)) (signed_test t (suc m) (omega arith))

-- the quotients of a fraction's parts, faced, are its lowest terms
pub quot-faces : (n d : ℤ) (g : ℕ) → 0 < nat_abs d / g → g ≡ gcd_of (nat_abs n) (nat_abs d) → faces (quot_z n (pos g)) (quot_z d (pos g)) ≡ lowest n d
unfolding lowest
quot-faces n d g h e =
    let t : lt_z (quot_z d (pos g)) (pos 0) ≡ lt_z d (pos 0) = ap (λ w. lt_z w (pos 0)) (quot-signed d g) ∙ signed_test (lt_z d (pos 0)) (nat_abs d / g) h in
    ap₂ over
    (ap₂ (λ u m. signed (differ (lt_z (quot_z n (pos g)) (pos 0)) u) m) t (quot-size n g)
    ∙ ap (λ z. signed (differ (lt_z z (pos 0)) (lt_z d (pos 0))) (nat_abs n / g)) (quot-signed n g)
    ∙ signed-differ (lt_z n (pos 0)) (lt_z d (pos 0)) (nat_abs n / g)
    ∙ ap (λ k. signed (differ (lt_z n (pos 0)) (lt_z d (pos 0))) (nat_abs n / k)) e)
    (ap pos (quot-size d g ∙ ap (λ k. nat_abs d / k) e))

-- with no divisor in common the parts stay
pub one-faces : (n d : ℤ) → 1 ≡ gcd_of (nat_abs n) (nat_abs d) → faces n d ≡ lowest n d
unfolding lowest
one-faces n d e =
    ap₂ (λ m k. over (signed (differ (lt_z n (pos 0)) (lt_z d (pos 0))) m) (pos k))
    (sym (div-one (nat_abs n)) ∙ ap (λ k. nat_abs n / k) e)
    (sym (div-one (nat_abs d)) ∙ ap (λ k. nat_abs d / k) e)

-- the other sign of the numerator gives the other sign of the fraction
num-neg : (n : ℤ) (u : Bool) (g : ℕ) → signed (differ (lt_z (neg_ℤ n) (pos 0)) u) (nat_abs n / g) ≡ neg_ℤ (signed (differ (lt_z n (pos 0)) u) (nat_abs n / g))
num-neg (pos zero) u g =
    let t = differ (lt_z (pos 0) (pos 0)) u in
    let e : 0 / g ≡ 0 = zero-div g in
    ap (signed t) e ∙ signed-nil t (not t) ∙ sym (neg-signed t 0) ∙ ap (λ m. neg_ℤ (signed t m)) (sym e)
num-neg (pos (suc n)) u g = sym (neg-signed u (suc n / g)) ∙ ap (λ t. neg_ℤ (signed (differ t u) (suc n / g))) (sym (pos-neg (suc n)))
num-neg (negsuc n) true g = ap (λ t. signed (differ t true) (suc n / g)) (pos-neg (suc n))
num-neg (negsuc n) false g = ap (λ t. signed (differ t false) (suc n / g)) (pos-neg (suc n)) ∙ sym (neg-neg-pos (suc n / g))

pub lowest-neg : (n d : ℤ) → lowest (neg_ℤ n) d ≡ over (neg_ℤ (lowest n d).num) (lowest n d).den
unfolding lowest
lowest-neg n d =
    ap₂ over
    (ap (λ k. signed (differ (lt_z (neg_ℤ n) (pos 0)) (lt_z d (pos 0))) (k / gcd_of k (nat_abs d))) (abs_neg n) ∙ num-neg n (lt_z d (pos 0)) (gcd_of (nat_abs n) (nat_abs d)))
    (ap (λ k. pos (nat_abs d / gcd_of k (nat_abs d))) (abs_neg n))

-- the parts as the code reads them
pub quot-read : (z : ℤ) (g : ℕ) → Within z → g ≤ limit → quot_z (to_z w64 (of_z w64 z)) (to_z w64 g) ≡ quot_z z (pos g)
quot-read z g h k = ap₂ quot_z (back z h) (size_back g k)

-- ---- one

pub one-bits : (x : ℤ) → SFits w64 x → of_z w64 x ≡ 1 → x ≡ pos 1
one-bits x f e = sym (to_z-of_z f) ∙ ap (to_z w64) e

-- a whole number is in lowest terms
pub whole-lowest : (n d : ℤ) → d ≡ pos 1 → over n d ≡ lowest n d
whole-lowest n d e =
    let k = kept n d (ap (λ z. lt_z z (pos 0)) e) in
    ap₂ over k.0 k.1 ∙ one-faces n d (sym (ap (λ z. gcd_of (nat_abs n) (nat_abs z)) e ∙ gcd-one (nat_abs n)))

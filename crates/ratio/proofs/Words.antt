-- Laws of signed words: what a test, a negation, a cast and a copy leave, said of the whole number itself.
use mathlib.Core.Path.{◌≡◌, refl, sym, ap, ◌∙◌}
use mathlib.Core.Bool.{Bool, true, false, not, beq}
use Prim.Native.Nat.{ℕ, zero, suc, ◌+◌, ◌-◌, ◌*◌, ◌<◌, ◌≤◌, ◌^◌, zero-le}
use native.Mathlib.Omega.{arith}
use borrow.Author.Tests.{lt-ltb, le-ltb, ltb-true, le-leb, lt-leb, eq-eqb, ne_eqb}
use lib.Dec.{T, eqb}
use lib.IntN.{ℤ, pos, negsuc, neg_ℤ, nat_abs, ◌-ℤ◌, ◌*ℤ◌}
use lib.Signed.{lt_z, non_neg}
use mir.Syntax.{w64}
use mir.Val.{SFits, Fits, of_z, to_z}
use mir.Facts.{to_z-of_z}
use Rattle.ratio.specs.Range.{limit, Within, within}
use Rattle.ratio.specs.Step.{is_nil, signed, differ}

-- the size of the one number outside the range
abbrev least : ℕ
least = 9223372036854775808

-- ---- signs

pub pos-neg : (n : ℕ) → lt_z (pos n) (pos 0) ≡ false
pos-neg n = le-ltb n 0 zero-le

pub abs_neg : (x : ℤ) → nat_abs (neg_ℤ x) ≡ nat_abs x
abs_neg (pos zero) = refl
abs_neg (pos (suc n)) = refl
abs_neg (negsuc n) = refl

pub abs-signed : (t : Bool) (m : ℕ) → nat_abs (signed t m) ≡ m
abs-signed true m = abs_neg (pos m)
abs-signed false m = refl

pub differ-is : (t u : Bool) → not (beq t u) ≡ differ t u
differ-is true true = refl
differ-is true false = refl
differ-is false true = refl
differ-is false false = refl

-- ---- numbers within the range are read back from their bits

pub fits : (z : ℤ) → Within z → SFits w64 z
fits (pos n) h = record { sfits = omega arith }
fits (negsuc n) h = record { sfits = omega arith }

pub back : (z : ℤ) → Within z → to_z w64 (of_z w64 z) ≡ z
back z h = to_z-of_z (fits z h)

pub signed-within : (t : Bool) (m : ℕ) → m ≤ limit → Within (signed t m)
signed-within t m h = rw (abs-signed t m) h

pub neg-within : (z : ℤ) → Within z → Within (neg_ℤ z)
neg-within z h = rw (abs_neg z) h

neg_sum : (x : ℤ) → pos 0 -ℤ x ≡ neg_ℤ x
neg_sum (pos zero) = refl
neg_sum (pos (suc n)) = rw (lt-ltb 0 (suc n) (omega arith)) (ap negsuc (let h : suc n - 1 ≡ n = omega arith in h))
neg_sum (negsuc n) = ap pos (let h : 0 + suc n ≡ suc n = omega arith in h)

-- a negation of what is within the range fits, and is read back
pub neg-fits : (z : ℤ) → Within z → SFits w64 (pos 0 -ℤ to_z w64 (of_z w64 z))
neg-fits z h = rw (back z h, neg_sum z) (fits (neg_ℤ z) (neg-within z h))

pub neg-back : (z : ℤ) → Within z → to_z w64 (of_z w64 (pos 0 -ℤ to_z w64 (of_z w64 z))) ≡ neg_ℤ z
neg-back z h = rw (back z h, neg_sum z) (back (neg_ℤ z) (neg-within z h))

-- ---- the test of the range

not_least : (x : ℤ) → SFits w64 x → (of_z w64 x ≡ least → ⊥) → Within x
not_least (pos n) f ne = let h : n < 2 ^ 63 = f.sfits in omega arith
not_least (negsuc n) f ne = let h : n < 2 ^ 63 = f.sfits in omega (arith, ne)

least-abs : (x : ℤ) → SFits w64 x → of_z w64 x ≡ least → nat_abs x ≡ least
least-abs x f e = ap nat_abs (sym (to_z-of_z f) ∙ ap (to_z w64) e)

range-by : (x : ℤ) (t : Bool) → SFits w64 x → eqb (of_z w64 x) least ≡ t → not t ≡ within x
range-by x true f e = sym (lt-leb (nat_abs x) limit (omega (arith, least-abs x f (borrow.Author.Tests.eqb-true (of_z w64 x) least e))))
range-by x false f e = sym (le-leb (nat_abs x) limit (not_least x f (borrow.Author.Tests.eqb-false (of_z w64 x) least e)))

pub range-test : (x : ℤ) → SFits w64 x → not (eqb (of_z w64 x) least) ≡ within x
range-test x f = range-by x (eqb (of_z w64 x) least) f refl

-- zero is the number of no bits
pub nil-test : (x : ℤ) → SFits w64 x → eqb (of_z w64 x) 0 ≡ is_nil x
nil-test (pos n) f = refl
nil-test (negsuc n) f = let h : n < 2 ^ 63 = f.sfits in ne_eqb (2 ^ 64 - suc n) 0 (λ e. omega arith) ∙ sym (ne_eqb (suc n) 0 (λ e. omega arith))

-- ---- the size of a number

pub size_above : (x : ℤ) → (x ≡ pos 0 → ⊥) → 0 < nat_abs x
size_above (pos zero) h = absurd (h refl)
size_above (pos (suc n)) h = omega arith
size_above (negsuc n) h = omega arith

pub negated : (x : ℤ) → SFits w64 x → (of_z w64 x ≡ least → ⊥) → SFits w64 (pos 0 -ℤ to_z w64 (of_z w64 x))
negated x f ne = neg-fits x (not_least x f ne)

nonneg : (x : ℤ) → lt_z x (pos 0) ≡ false → T (non_neg x)
nonneg (pos n) e = tt
nonneg (negsuc n) e = absurd (omega (arith, let z : ◌≡◌ {A = ℕ} 0 1 = cc in z))

abs-fits : (x : ℤ) → SFits w64 x → Fits w64 (nat_abs x)
abs-fits (pos n) f = record { fits = let h : n < 2 ^ 63 = f.sfits in omega arith }
abs-fits (negsuc n) f = record { fits = let h : n < 2 ^ 63 = f.sfits in omega arith }

pub cast-pos : (x : ℤ) → SFits w64 x → lt_z (to_z w64 (of_z w64 x)) (pos 0) ≡ false → T (non_neg (to_z w64 (of_z w64 x))) × Fits w64 (nat_abs (to_z w64 (of_z w64 x)))
cast-pos x f e = rw (to_z-of_z f) (nonneg x (rw (to_z-of_z f) at e), abs-fits x f)

-- ---- a number of a sign and a size

-- the bits of a size within the limit are the size's
pub size_back : (m : ℕ) → m ≤ limit → to_z w64 m ≡ pos m
size_back m h = rw (lt-ltb m least (omega arith))

pub size-neg-fits : (m : ℕ) → m ≤ limit → SFits w64 (pos 0 -ℤ to_z w64 m)
size-neg-fits m h = rw (size_back m h, neg_sum (pos m)) (fits (neg_ℤ (pos m)) (neg-within (pos m) h))

pub size-neg-back : (m : ℕ) → m ≤ limit → to_z w64 (of_z w64 (pos 0 -ℤ to_z w64 m)) ≡ neg_ℤ (pos m)
size-neg-back m h = rw (size_back m h, neg_sum (pos m)) (back (neg_ℤ (pos m)) (neg-within (pos m) h))

-- ---- what a test of a copied number told

pub copied-size : (x : ℤ) (m : ℕ) → SFits w64 x → m ≡ nat_abs (to_z w64 (of_z w64 x)) → m ≡ nat_abs x
copied-size x m f e = e ∙ ap nat_abs (to_z-of_z f)

pub nil-bits : (x : ℤ) → SFits w64 x → of_z w64 x ≡ 0 → is_nil x ≡ true
nil-bits x f e = sym (nil-test x f) ∙ eq-eqb (of_z w64 x) 0 e

pub some_bits : (x : ℤ) → SFits w64 x → (of_z w64 x ≡ 0 → ⊥) → is_nil x ≡ false
some_bits x f h = sym (nil-test x f) ∙ ne_eqb (of_z w64 x) 0 h

pub signed_mul : (t : Bool) (m k : ℕ) → signed t m *ℤ pos k ≡ signed t (m * k)
signed_mul true zero k = ap pos (let h : 0 * k ≡ 0 = omega arith in h) ∙ ap (λ (n : ℕ). neg_ℤ (pos n)) (let h : 0 ≡ 0 * k = omega arith in h)
signed_mul true (suc m) k = refl
signed_mul false m k = refl

-- The sign of a float, by the code's tests against 0.0.
use mathlib.Core.Path.{◌≡◌, refl}
use mathlib.Core.Bool.{Bool, true, false}
use Prim.Native.Nat.{ℕ, zero, suc, ◌+◌, ◌*◌, ◌<◌}
use native.Mathlib.Nat.{mul-pos}
use native.Mathlib.Omega.{arith}
use borrow.Author.Tests.{lt-ltb}
use lib.Dec.{ltb}
use lib.IntN.{pos}
use lib.Ieee.{Float, nan, inf, fin, up, down, below, level, binary64, of_bits, of_fields, odd, lt, eq}
use lib.Ieee.Fits.{up_pos}
use Rattle.sturm.specs.declared.Sign.{Sign}
use Rattle.sturm.specs.declared.Sign.TheVariants.{Zero, Plus, Minus, Nan}
use Rattle.sturm.specs.Sign.{signed, sign_of}

-- above 0, below 0, equal to 0, or none of these
abbrev sign_if : Bool → Bool → Bool → Sign
sign_if true b e = Plus
sign_if false true e = Minus
sign_if false false true = Zero
sign_if false false false = Nan

abbrev tested : Float → Sign
tested x = sign_if (lt (of_bits binary64 0) x) (lt x (of_bits binary64 0)) (eq x (of_bits binary64 0))

-- ±a against 0
against : Bool → ℕ → ℕ → Sign
against s a b = sign_if (below false b s a) (below s a false b) (level s a false b)

against-none : (s : Bool) (a b : ℕ) → a ≡ 0 → b ≡ 0 → against s a b ≡ Zero
unfolding against
against-none true a b e f = rw (e, f) refl
against-none false a b e f = rw (e, f) refl

against-some : (s : Bool) (a b : ℕ) → 0 < a → b ≡ 0 → against s a b ≡ signed s
unfolding against
against-some true a b h f =
    let k : ltb 0 (a + b) ≡ true = lt-ltb 0 (a + b) (omega arith) in
    rw k refl
against-some false a b h f =
    let k : ltb b a ≡ true = lt-ltb b a (omega arith) in
    rw k refl

tested-is : (x : Float) → tested x ≡ sign_of x
unfolding lt eq of_bits of_fields odd sign_of against
tested-is nan = refl
tested-is (inf true) = refl
tested-is (inf false) = refl
tested-is (fin s zero e) = against-none s (0 * up e * down (pos 0)) (0 * up (pos 0) * down e) (omega arith) (omega arith)
tested-is (fin s (suc m) e) = against-some s (suc m * up e * down (pos 0)) (0 * up (pos 0) * down e) (mul-pos (mul-pos (omega arith) (up_pos e)) (omega arith)) (omega arith)

module _ (x : Float) where
  pub sign-plus : lt (of_bits binary64 0) x ≡ true → Plus ≡ sign_of x
  sign-plus h = rw h at (tested-is x)

  pub sign-minus : lt (of_bits binary64 0) x ≡ false → lt x (of_bits binary64 0) ≡ true → Minus ≡ sign_of x
  sign-minus h k = rw (h, k) at (tested-is x)

  pub sign_zero : lt (of_bits binary64 0) x ≡ false → lt x (of_bits binary64 0) ≡ false → eq x (of_bits binary64 0) ≡ true → Zero ≡ sign_of x
  sign_zero h k e = rw (h, k, e) at (tested-is x)

  pub sign-nan : lt (of_bits binary64 0) x ≡ false → lt x (of_bits binary64 0) ≡ false → eq x (of_bits binary64 0) ≡ false → Nan ≡ sign_of x
  sign-nan h k e = rw (h, k, e) at (tested-is x)

-- How long the texts of numbers are.
use mathlib.Core.Path.{◌≡◌}
use mathlib.Core.Bool.{Bool, true, false, cond}
use mathlib.Core.List.{List, [], ◌∷◌, ◌++◌, map}
use Prim.Native.Nat.{ℕ, suc, ◌+◌, ◌*◌, ◌≤◌, ◌<◌}
use native.Mathlib.Omega.{arith}
use lib.Ieee.{Float}
use lib.IntN.{ℤ, pos, negsuc, nat_abs}
use lib.ListN.{length, length-append}
use Rattle.ratio.specs.declared.Ratio.{Ratio}
use Rattle.text.specs.Spell.{whole_text, is_one, ratio_text, spaced, parted, ratios_text, poly_text, float_text, floats_text}
use Rattle.text.proofs.Decimal.{decimal-length, decimal-19}
use Rattle.text.proofs.Hex.{hex-length}

-- any whole number, and one of at most 19 digits
pub whole_length : (z : ℤ) → length (whole_text z) ≤ 21
unfolding whole_text
whole_length (pos n) = omega (arith, decimal-length n)
whole_length (negsuc n) = omega (arith, decimal-length (suc n))

pub whole-short : (z : ℤ) → nat_abs z < 9223372036854775808 → length (whole_text z) ≤ 20
unfolding whole_text
whole-short (pos n) h = omega (arith, decimal-19 n h)
whole-short (negsuc n) h = omega (arith, decimal-19 (suc n) h)

over : (k : ℕ) (t : Bool) (s u : List ℕ) → length s ≤ k → length u ≤ k → length (cond t s (s ++ (47 ∷ u))) ≤ k + suc k
over k true s u h l = omega arith
over k false s u h l = rw length-append (omega arith)

-- any fraction, and one within the range
pub ratio-length : (r : Ratio) → length (ratio_text r) ≤ 43
unfolding ratio_text
ratio-length r = over 21 (is_one r.den) (whole_text r.num) (whole_text r.den) (whole_length r.num) (whole_length r.den)

spaced-length : {X : Type 0} (f : X → List ℕ) (k : ℕ) → ((x : X) → length (f x) ≤ k) → (l : List X) → length (spaced (map f l)) ≤ suc k * length l
unfolding spaced
spaced-length f k h [] = omega arith
spaced-length f k h (x ∷ l) = rw length-append (omega (arith, h x, spaced-length f k h l))

parted-length : {X : Type 0} (f : X → List ℕ) (k : ℕ) → ((x : X) → length (f x) ≤ k) → (l : List X) → length (parted (map f l)) ≤ suc k * length l
unfolding parted
parted-length f k h [] = omega arith
parted-length f k h (x ∷ l) = rw length-append (omega (arith, h x, spaced-length f k h l))

pub ratios-length : (l : List Ratio) → length (ratios_text l) ≤ 44 * length l
unfolding ratios_text
ratios-length l = parted-length ratio_text 43 ratio-length l

pub poly-length : (l : List Ratio) → length (poly_text l) ≤ 44 * length l + 1
unfolding poly_text
poly-length [] = omega arith
poly-length (a ∷ l) = omega (arith, ratios-length (a ∷ l))

pub float-length : (x : Float) → length (float_text x) ≡ 16
unfolding float_text
float-length x = hex-length _

pub floats-length : (l : List Float) → length (floats_text l) ≤ 17 * length l
unfolding floats_text
floats-length l = parted-length float_text 16 (λ x. omega (arith, float-length x)) l

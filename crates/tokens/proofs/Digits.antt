-- Digit by digit: a number that is spelled.
use Rattle.std.specs.Prelude.{Some, None}
use mathlib.Core.Path.{◌≡◌}
use mathlib.Core.List.{List}
use Prim.Native.Nat.{ℕ, ◌+◌, ◌*◌, ◌^◌, ◌<◌, ◌≤◌}
use native.Mathlib.Omega.{arith}
use native.Mathlib.Nat.{pow-suc, pow-le-pow_right, mul-le-mul_right}
use native.Mathlib.Numerals.{add-one}
use borrow.Author.Tests.{lt-ltb, le-ltb}
use lib.ListN.{length, drop, get_or, drop_of_length-le}
use lib.Seq.{drop-cons}
use Rattle.tokens.specs.Spelling.{digit_of, number_of}

module _ (base n i : ℕ) (l : List ℕ) (h : i < length l) where
  pub spelled-more : digit_of (get_or l i 0) < base → number_of base (n * base + digit_of (get_or l i 0)) (drop (i + 1) l) ≡ number_of base n (drop i l)
  unfolding number_of
  spelled-more d = rw (add-one, drop-cons l i 0 h, lt-ltb (digit_of (get_or l i 0)) base d)

  pub spelled-not : base ≤ digit_of (get_or l i 0) → None ≡ number_of base n (drop i l)
  unfolding number_of
  spelled-not d = rw (drop-cons l i 0 h, le-ltb (digit_of (get_or l i 0)) base d)

pub spelled-end : (base n i : ℕ) (l : List ℕ) → length l ≤ i → Some n ≡ number_of base n (drop i l)
unfolding number_of
spelled-end base n i l h = rw (drop_of_length-le l h)

-- i digits of a base come to a number below its power
pub below : (base n d i : ℕ) → d < base → n < base ^ i → n * base + d < base ^ (i + 1)
below base n d i hd hn = let h : n + 1 ≤ base ^ i = omega arith in rw (add-one, pow-suc) (omega (arith, mul-le-mul_right base h))

pub power-fits : (base i k : ℕ) → 0 < base → i ≤ k → base ^ k ≤ 18446744073709551616 → base ^ i ≤ 18446744073709551616
power-fits base i k b h f = omega (arith, pow-le-pow_right b h)

-- 19 digits always fit
pub ten-fits : (i : ℕ) → i ≤ 19 → 10 ^ i ≤ 18446744073709551616
ten-fits i h = omega (arith, pow-le-pow_right {n = 10} (omega arith) h)

-- Hex digits, of which there are always 16.
use mathlib.Core.Path.{◌≡◌, refl}
use mathlib.Core.List.{List, [], ◌∷◌, ◌++◌}
use Prim.Native.Nat.{ℕ, zero, suc, ◌+◌, ◌*◌, ◌-◌, ◌/◌, ◌%◌, ◌^◌, ◌≤◌, ◌<◌}
use native.Mathlib.Omega.{arith}
use native.Mathlib.Nat.{pow-suc, div-lt_iff_lt-mul, div-add-mod'}
use native.Mathlib.Numerals.{sub-one}
use borrow.Author.Tests.{lt-ltb, le-ltb}
use lib.ListN.{length, length-append}
use Rattle.text.specs.Spell.{hex_digit, hex_in, hex_text}

pub digit_low : (d : ℕ) → d < 10 → hex_digit d ≡ 48 + d
unfolding hex_digit
digit_low d h = rw (lt-ltb d 10 h)

pub digit-high : (d : ℕ) → 10 ≤ d → hex_digit d ≡ 87 + d
unfolding hex_digit
digit-high d h = rw (le-ltb d 10 h)

pub hex-none : (n : ℕ) → hex_in 0 n ≡ []
unfolding hex_in
hex-none n = refl

pub hex-more : (k n : ℕ) → 0 < k → hex_in k n ≡ hex_in (k - 1) (n / 16) ++ (hex_digit (n % 16) ∷ [])
unfolding hex_in
hex-more zero n h = absurd (omega arith)
hex-more (suc k) n h = rw (sub-one (suc k))

-- what holds of no digits, and of a number with a digit more at its end, holds of k digits of every number
module _ (P : ℕ → ℕ → List ℕ → Type 0) (none : P 0 0 []) (more : (k n d : ℕ) (s : List ℕ) → d < 16 → P k n s → P (suc k) (n * 16 + d) (s ++ (hex_digit d ∷ []))) where
  in-every : (k n : ℕ) → n < 16 ^ k → P k n (hex_in k n)
  unfolding hex_in
  in-every zero n h = let e : n ≡ 0 = omega arith in rw e none
  in-every (suc k) n h =
      let g : n / 16 < 16 ^ k = (div-lt_iff_lt-mul {k = 16} (omega arith)).1 (rw pow-suc at h) in
      rw (div-add-mod' n 16) at (more k (n / 16) (n % 16) (hex_in k (n / 16)) (omega arith) (in-every k (n / 16) g))

  pub hex-every : (n : ℕ) → n < 16 ^ 16 → P 16 n (hex_text n)
  unfolding hex_text
  hex-every n h = in-every 16 n h

in-length : (k n : ℕ) → length (hex_in k n) ≡ k
unfolding hex_in
in-length zero n = refl
in-length (suc k) n = rw length-append (omega (arith, in-length k (n / 16)))

pub hex-length : (n : ℕ) → length (hex_text n) ≡ 16
unfolding hex_text
hex-length n = in-length 16 n

-- a digit more at the end
pub hex-snoc : (k n d : ℕ) → d < 16 → hex_in (suc k) (n * 16 + d) ≡ hex_in k n ++ (hex_digit d ∷ [])
unfolding hex_in
hex-snoc k n d h =
    let q : (n * 16 + d) / 16 ≡ n = omega arith in
    let r : (n * 16 + d) % 16 ≡ d = omega arith in
    rw (q, r)

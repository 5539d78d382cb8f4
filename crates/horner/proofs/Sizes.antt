-- How many bytes Horner's form has, and what is on the page when it fits.
use mathlib.Core.Path.{◌≡◌, sym, ap, ◌∙◌}
use mathlib.Core.List.{List, [], ◌∷◌, ◌++◌}
use Prim.Native.Nat.{ℕ, ◌+◌, ◌*◌, ◌-◌, ◌/◌, ◌≤◌, ◌<◌}
use native.Mathlib.Omega.{arith}
use native.Mathlib.Nat.{mul-le-mul}
use lib.Ieee.{binary64, to_bits}
use lib.ListN.{length, drop, length-append}
use Rattle.ratio.specs.Refusal.{zero_r}
use Rattle.ratio.specs.declared.Ratio.{Ratio}
use Rattle.bridge.specs.Value.{value_of}
use Rattle.text.specs.Page.{laid}
use Rattle.text.specs.Spell.{decimal_of, float_text}
use Rattle.text.proofs.Decimal.{decimal-one, decimal-more, decimal-length}
use Rattle.text.proofs.Hex.{hex-length}
use Rattle.text.proofs.Pages.{laid-fits}
use Rattle.horner.specs.Text.{constant, horner, lowered_text}

-- ---- a variable

pub one-digit : (n : ℕ) → n < 10 → 1 ≡ length (decimal_of n)
one-digit n h = sym (ap length (decimal-one n h))

pub two_digits : (n : ℕ) → 10 ≤ n → n < 100 → 2 ≡ length (decimal_of n)
two_digits n h k = rw (decimal-more n h (omega arith), length-append, decimal-one (n / 10) (omega arith))

pub three-digits : (n : ℕ) → 100 ≤ n → n ≤ 255 → 3 ≡ length (decimal_of n)
three-digits n h k = rw (decimal-more n (omega arith) (omega arith), length-append) (omega (arith, two_digits (n / 10) (omega arith) (omega arith)))

-- ---- the text

constant-length : (c : Ratio) → length (constant c) ≡ 17
unfolding float_text
constant-length c = omega (arith, hex-length (to_bits binary64 (value_of c)))

horner-length : (wrt : ℕ) (c : Ratio) (l : List Ratio) → length (horner wrt c l) ≡ 17 + length l * (24 + length (decimal_of wrt))
unfolding horner
horner-length wrt c [] = rw (constant-length c) (omega arith)
horner-length wrt c (d ∷ l) =
    simp length-append
    (omega (arith, constant-length c, horner-length wrt d l))

pub size_none : (wrt : ℕ) (l : List Ratio) → length l ≡ 0 → 17 ≡ length (lowered_text wrt l)
unfolding lowered_text horner
size_none wrt [] h = sym (constant-length zero_r)
size_none wrt (c ∷ l) h = absurd (omega arith)

pub size-some : (wrt n : ℕ) (l : List Ratio) → n ≡ length l → (n ≡ 0 → ⊥) → 17 + (n - 1) * (24 + length (decimal_of wrt)) ≡ length (lowered_text wrt l)
unfolding lowered_text
size-some wrt n [] h k = absurd (k h)
size-some wrt n (c ∷ l) h k = let e : n - 1 ≡ length l = omega arith in rw e (sym (horner-length wrt c l))

-- and it is short
pub size-short : (wrt n : ℕ) → n ≤ 32 → 17 + (n - 1) * (24 + length (decimal_of wrt)) ≤ 1381
size-short wrt n h = omega (arith, decimal-length wrt, mul-le-mul {n₁ = n - 1} {m₁ = 24 + length (decimal_of wrt)} {n₂ = 31} {m₂ = 44} (omega arith) (omega (arith, decimal-length wrt)))

-- ---- a text that fits

pub laid-front : (s page : List ℕ) → length s ≤ length page → laid s 0 page ≡ s ++ drop (length s) page
laid-front s page h = let e : 0 + length s ≡ length s = omega arith in laid-fits s 0 page (omega arith) ∙ ap (λ n. s ++ drop n page) e

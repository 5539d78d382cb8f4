-- Numbers as they are spelt, read again: decimal digits and the 16 hex digits of a float's bits.
use Rattle.std.specs.Prelude.{Some, None}
use mathlib.Core.Path.{◌≡◌, refl, sym, ap, ◌∙◌}
use mathlib.Core.Bool.{Bool, true, false, cond}
use mathlib.Core.List.{List, [], ◌∷◌, ◌++◌}
use Prim.Native.Nat.{ℕ, ◌+◌, ◌*◌, ◌^◌, ◌≤◌, ◌<◌}
use native.Mathlib.Omega.{arith}
use borrow.Author.Tests.{lt-ltb, le-ltb, eq-eqb}
use lib.Dec.{T, ltb}
use lib.Ieee.{binary64, to_bits, fits}
use lib.Ieee.Bits.{of_bits-to_bits, to_bits-lt}
use lib.Ieee.Fits.{div-fits}
use lib.ListN.{length}
use Rattle.ratio.specs.declared.Ratio.{Ratio}
use Rattle.bridge.specs.Value.{value_of}
use Rattle.tokens.specs.declared.Token.TheVariants as Tk
use Rattle.tokens.specs.Spelling.{digit_of, number_of, bits_of, const_of, var_of, token_of}
use Rattle.tokens.proofs.Tokens.{token-const, token-var}
use Rattle.text.specs.Spell.{hex_digit, hex_text, decimal_of, float_text}
use Rattle.text.proofs.Decimal.{ten, Headed, decimal-head}
use Rattle.text.proofs.Hex.{hex-every, hex-length, digit_low, digit-high}
use Rattle.reading.proofs.Naturals.{natural-read}
use Rattle.horner.specs.Text.{constant, variable}

-- ---- digits

decimal_digit : (d : ℕ) → d < 10 → digit_of (48 + d) ≡ d
unfolding digit_of
decimal_digit d h = rw (le-ltb (48 + d) 48 (omega arith), lt-ltb (48 + d) 58 (omega arith)) (omega arith)

high_digit : (d : ℕ) → 10 ≤ d → d < 16 → digit_of (87 + d) ≡ d
unfolding digit_of
high_digit d h k =
    rw (le-ltb (87 + d) 48 (omega arith), le-ltb (87 + d) 58 (omega arith), le-ltb (87 + d) 97 (omega arith), lt-ltb (87 + d) 103 (omega arith)) (omega arith)

hex-digit : (d : ℕ) → d < 16 → digit_of (hex_digit d) ≡ d
hex-digit d h = ten d (λ k. ap digit_of (digit_low d k) ∙ decimal_digit d k) (λ k. ap digit_of (digit-high d k) ∙ high_digit d k h)

-- one digit more at the end
number_more : (base m n : ℕ) (s : List ℕ) (b d : ℕ) → digit_of b ≡ d → d < base → number_of base m s ≡ Some n → number_of base m (s ++ (b ∷ [])) ≡ Some (n * base + d)
unfolding number_of
number_more base m n [] b d e h k = let z : m ≡ n = cc in rw (e, lt-ltb d base h, z)
number_more base m n (x ∷ s) b d e h k = go (ltb (digit_of x) base) k (number_more base (m * base + digit_of x) n s b d e h)
  where
    go : (t : Bool) → cond t (number_of base (m * base + digit_of x) s) None ≡ Some n → (number_of base (m * base + digit_of x) s ≡ Some n → number_of base (m * base + digit_of x) (s ++ (b ∷ [])) ≡ Some (n * base + d)) → cond t (number_of base (m * base + digit_of x) (s ++ (b ∷ []))) None ≡ Some (n * base + d)
    go true k r = r k
    go false k r = let z : ◌≡◌ {A = ℕ} 0 1 = cc in absurd (omega arith)

-- ---- whole numbers

hex-number : (n : ℕ) → n < 16 ^ 16 → number_of 16 0 (hex_text n) ≡ Some n
hex-number n h = hex-every (λ k n s. number_of 16 0 s ≡ Some n) (unfold number_of in refl) (λ k n d s b r. number_more 16 0 n s (hex_digit d) d (hex-digit d b) b r) n h

headed-some : (n : ℕ) (s : List ℕ) → Headed n s → 0 < length s
headed-some n [] h = absurd h
headed-some n (b ∷ s) h = omega arith

-- ---- tokens

bits : (n : ℕ) → n < 16 ^ 16 → bits_of (hex_text n) ≡ Some n
unfolding bits_of
bits n h = rw (eq-eqb (length (hex_text n)) 16 (hex-length n)) (hex-number n h)

pub token-constant : (c : Ratio) → token_of (constant c) ≡ Tk.Const (value_of c)
unfolding float_text value_of
token-constant c =
    let n = to_bits binary64 (value_of c) in
    let f : T (fits binary64 (value_of c)) = div-fits binary64 _ _ in
    let l = hex-length n in
    sym (token-const (constant c) (omega arith) refl)
    ∙ ap const_of (bits n (to_bits-lt binary64 (value_of c) f))
    ∙ ap Tk.Const (of_bits-to_bits binary64 (value_of c) f)

index : (n : ℕ) → n ≤ 255 → var_of (decimal_of n) ≡ Tk.Var n
unfolding var_of
index n h = rw (natural-read n (omega arith), le-ltb 255 n h)

pub token-variable : (wrt : ℕ) → wrt ≤ 255 → token_of (variable wrt) ≡ Tk.Var wrt
token-variable wrt h = sym (token-var (variable wrt) (omega (arith, headed-some wrt (decimal_of wrt) (decimal-head wrt (omega arith)))) refl) ∙ index wrt h

-- A word's token, by its length and its first byte.
use Rattle.std.specs.Prelude.{None}
use mathlib.Core.Path.{◌≡◌, refl}
use mathlib.Core.List.{List, [], ◌∷◌}
use Prim.Native.Nat.{ℕ, ◌-◌, ◌<◌, ◌≤◌}
use native.Mathlib.Omega.{arith}
use borrow.Author.Tests.{lt-ltb, le-ltb, eq-eqb, ne_eqb}
use lib.ListN.{length, take, drop, get_or, length-drop}
use lib.Seq.{take_all}
use Rattle.tokens.specs.declared.Token.TheVariants.{Malformed}
use Rattle.tokens.specs.Spelling.{number_of, bits_of, const_of, pow_of, natural_of, var_of, mark_of, token_of}

-- all but the first byte
pub tail-whole : (w : List ℕ) → take (length w - 1) (drop 1 w) ≡ drop 1 w
tail-whole w = take_all (length w - 1) (drop 1 w) (omega (arith, length-drop 1 w))

pub token-none : (w : List ℕ) → length w ≡ 0 → Malformed ≡ token_of w
unfolding token_of
token-none [] h = refl
token-none (b ∷ l) h = absurd (omega arith)

pub token-one : (w : List ℕ) → length w ≡ 1 → mark_of (get_or w 0 0) ≡ token_of w
unfolding token_of
token-one [] h = absurd (omega arith)
token-one (b ∷ []) h = refl
token-one (b ∷ d ∷ l) h = absurd (omega arith)

pub token-const : (w : List ℕ) → 1 < length w → get_or w 0 0 ≡ 99 → const_of (bits_of (drop 1 w)) ≡ token_of w
unfolding token_of
token-const [] h e = absurd (omega arith)
token-const (b ∷ []) h e = absurd (omega arith)
token-const (b ∷ d ∷ l) h e = rw (eq-eqb b 99 e)

pub token-pow : (w : List ℕ) → 1 < length w → get_or w 0 0 ≡ 94 → pow_of (bits_of (drop 1 w)) ≡ token_of w
unfolding token_of
token-pow [] h e = absurd (omega arith)
token-pow (b ∷ []) h e = absurd (omega arith)
token-pow (b ∷ d ∷ l) h e = rw (ne_eqb b 99 (λ z. omega arith), eq-eqb b 94 e)

pub token-var : (w : List ℕ) → 1 < length w → get_or w 0 0 ≡ 118 → var_of (drop 1 w) ≡ token_of w
unfolding token_of
token-var [] h e = absurd (omega arith)
token-var (b ∷ []) h e = absurd (omega arith)
token-var (b ∷ d ∷ l) h e = rw (ne_eqb b 99 (λ z. omega arith), ne_eqb b 94 (λ z. omega arith), eq-eqb b 118 e)

pub token-else : (w : List ℕ) → 1 < length w → (get_or w 0 0 ≡ 99 → ⊥) → (get_or w 0 0 ≡ 94 → ⊥) → (get_or w 0 0 ≡ 118 → ⊥) → Malformed ≡ token_of w
unfolding token_of
token-else [] h e f g = absurd (omega arith)
token-else (b ∷ []) h e f g = absurd (omega arith)
token-else (b ∷ d ∷ l) h e f g = rw (ne_eqb b 99 e, ne_eqb b 94 f, ne_eqb b 118 g)

pub natural-long : (l : List ℕ) → 19 < length l → None ≡ natural_of l
unfolding natural_of
natural-long [] h = refl
natural-long (a ∷ []) h = absurd (omega arith)
natural-long (a ∷ b ∷ l) h = rw (lt-ltb 17 (length l) (omega arith))

pub natural-none : (l : List ℕ) → length l ≡ 0 → None ≡ natural_of l
unfolding natural_of
natural-none [] h = refl
natural-none (a ∷ l) h = absurd (omega arith)

pub natural-one : (l : List ℕ) → length l ≡ 1 → number_of 10 0 l ≡ natural_of l
unfolding natural_of
natural-one [] h = absurd (omega arith)
natural-one (a ∷ []) h = refl
natural-one (a ∷ b ∷ l) h = absurd (omega arith)

pub natural-zero : (l : List ℕ) → 1 < length l → get_or l 0 0 ≡ 48 → length l ≤ 19 → None ≡ natural_of l
unfolding natural_of
natural-zero [] h e k = absurd (omega arith)
natural-zero (a ∷ []) h e k = absurd (omega arith)
natural-zero (a ∷ b ∷ l) h e k = rw (le-ltb 17 (length l) (omega arith), eq-eqb a 48 e)

pub natural-more : (l : List ℕ) → 1 < length l → (get_or l 0 0 ≡ 48 → ⊥) → length l ≤ 19 → number_of 10 0 l ≡ natural_of l
unfolding natural_of
natural-more [] h e k = absurd (omega arith)
natural-more (a ∷ []) h e k = absurd (omega arith)
natural-more (a ∷ b ∷ l) h e k = rw (le-ltb 17 (length l) (omega arith), ne_eqb a 48 e)

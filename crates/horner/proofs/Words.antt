-- The words of Horner's form as it is written.
use mathlib.Core.Path.{◌≡◌, refl, ap, ap₂, ◌∙◌}
use mathlib.Core.Bool.{Bool, true, false, cond}
use mathlib.Core.List.{List, [], ◌∷◌, ◌++◌}
use Prim.Native.Nat.{ℕ, ◌^◌, ◌≤◌, ◌<◌}
use native.Mathlib.Omega.{arith}
use lib.Dec.{T, eqb}
use lib.Ieee.{binary64, to_bits, fits}
use lib.Ieee.Bits.{to_bits-lt}
use lib.Ieee.Fits.{div-fits}
use Rattle.ratio.specs.declared.Ratio.{Ratio}
use Rattle.bridge.specs.Value.{value_of}
use Rattle.tokens.specs.Words.{on_first, parts_of, words_of}
use Rattle.tokens.proofs.Words.{parts_first}
use Rattle.text.specs.Spell.{hex_digit, hex_text, float_text}
use Rattle.text.proofs.Decimal.{ten}
use Rattle.text.proofs.Hex.{hex-every, digit_low, digit-high}
use Rattle.text.specs.Ascii.{bytes}
use Rattle.reading.proofs.Avoids.{Avoids, avoids-append, word-alone, decimal-avoids}
use Rattle.horner.specs.Text.{constant, variable, horner}
use Rattle.horner.proofs.Runs.{horner_words}

-- ---- a text in two parts

first_more : (t : Bool) (b : ℕ) (u : List ℕ) (us vs : List (List ℕ)) → cond t ([] ∷ (u ∷ us) ++ vs) (on_first b ((u ∷ us) ++ vs)) ≡ cond t ([] ∷ u ∷ us) (on_first b (u ∷ us)) ++ vs
first_more true b u us vs = refl
first_more false b u us vs = refl

pub words-part : (a b : List ℕ) → words_of (a ++ (32 ∷ b)) ≡ words_of a ++ words_of b
unfolding parts_of
words-part [] b = refl
words-part (x ∷ a) b = rw (words-part a b, parts_first 32 a) (first_more (eqb x 32) x _ _ (words_of b))

-- ---- a text without a space

digit-avoids : (d : ℕ) → d < 16 → hex_digit d ≡ 32 → ⊥
digit-avoids d h e = ten d (λ k. omega (arith, digit_low d k)) (λ k. omega (arith, digit-high d k))

hex-avoids : (n : ℕ) → n < 16 ^ 16 → Avoids 32 (hex_text n)
unfolding Avoids
hex-avoids n h = hex-every (λ k n s. Avoids 32 s) tt (λ k n d s b r. avoids-append 32 s (hex_digit d ∷ []) r (digit-avoids d b, tt)) n h

constant-word : (c : Ratio) → words_of (constant c) ≡ constant c ∷ []
unfolding float_text value_of Avoids
constant-word c =
    let f : T (fits binary64 (value_of c)) = div-fits binary64 _ _ in
    word-alone (constant c) ((λ e. omega arith), hex-avoids (to_bits binary64 (value_of c)) (to_bits-lt binary64 (value_of c) f))

variable-word : (wrt : ℕ) → wrt ≤ 255 → words_of (variable wrt) ≡ variable wrt ∷ []
unfolding Avoids
variable-word wrt h = word-alone (variable wrt) ((λ e. omega arith), decimal-avoids 32 (omega arith) wrt)

-- ---- Horner's form

pub horner-words : (wrt : ℕ) → wrt ≤ 255 → (c : Ratio) (l : List Ratio) → words_of (horner wrt c l) ≡ horner_words wrt c l
unfolding horner parts_of
horner-words wrt h c [] = constant-word c
horner-words wrt h c (d ∷ l) =
    words-part (constant c) (variable wrt ++ (bytes " " ++ horner wrt d l ++ bytes " * +"))
    ∙ ap₂ ◌++◌ (constant-word c)
    (words-part (variable wrt) (horner wrt d l ++ bytes " * +")
    ∙ ap₂ ◌++◌ (variable-word wrt h) (words-part (horner wrt d l) (bytes "* +") ∙ ap (λ ws. ws ++ words_of (bytes "* +")) (horner-words wrt h d l)))

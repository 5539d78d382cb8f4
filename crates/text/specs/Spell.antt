-- Document 01, "the job program": how numbers are spelt: n or n/d, coefficients rising and parted by one space, floats as 16 hex digits; no zeros in front.
use Rattle.std.specs.Prelude.{Bool, false, cond, List, [], ◌∷◌, ◌++◌, map, ℕ, zero, suc, ◌+◌, ◌/◌, ◌%◌, ltb, eqb, Float, ℤ, pos, negsuc}
use Rattle.std.specs.Float.{binary64}
use Rattle.std.specs.Float.Ieee.{to_bits}
use Rattle.ratio.specs.declared.Ratio.{Ratio}

-- n in at most k decimal digits, no zero in front; `0` is 48
unfoldable pub decimal_in : ℕ → ℕ → List ℕ
decimal_in zero n = []
decimal_in (suc k) n = cond (ltb n 10) ((48 + n) ∷ []) (decimal_in k (n / 10) ++ ((48 + n % 10) ∷ []))

-- a number below 2^64 has at most 20 digits
unfoldable pub decimal_of : ℕ → List ℕ
decimal_of n = decimal_in 20 n

-- `-` is 45
unfoldable pub whole_text : ℤ → List ℕ
whole_text (pos n) = decimal_of n
whole_text (negsuc n) = 45 ∷ decimal_of (suc n)

abbrev pub is_one : ℤ → Bool
is_one (pos n) = eqb n 1
is_one (negsuc n) = false

-- `/` is 47
unfoldable pub ratio_text : Ratio → List ℕ
ratio_text r = cond (is_one r.den) (whole_text r.num) (whole_text r.num ++ (47 ∷ whole_text r.den))

-- a word that is the first, or has a space, 32, in front
abbrev pub next_word : Bool → List ℕ → List ℕ
next_word first w = cond first w (32 ∷ w)

-- a space in front of each word
unfoldable pub spaced : List (List ℕ) → List ℕ
spaced [] = []
spaced (w ∷ ws) = next_word false w ++ spaced ws

-- words parted by one space
unfoldable pub parted : List (List ℕ) → List ℕ
parted [] = []
parted (w ∷ ws) = w ++ spaced ws

unfoldable pub ratios_text : List Ratio → List ℕ
ratios_text l = parted (map ratio_text l)

-- a polynomial by its coefficients; zero is `0`
unfoldable pub poly_text : List Ratio → List ℕ
poly_text [] = 48 ∷ []
poly_text (a ∷ l) = ratios_text (a ∷ l)

-- a digit below 16: `0` to `9`, then `a` to `f`
unfoldable pub hex_digit : ℕ → ℕ
hex_digit d = cond (ltb d 10) (48 + d) (87 + d)

-- the last k hex digits of n
unfoldable pub hex_in : ℕ → ℕ → List ℕ
hex_in zero n = []
hex_in (suc k) n = hex_in k (n / 16) ++ (hex_digit (n % 16) ∷ [])

unfoldable pub hex_text : ℕ → List ℕ
hex_text n = hex_in 16 n

-- a float by its bits; a NaN by 7ff8000000000000
unfoldable pub float_text : Float → List ℕ
float_text x = hex_text (to_bits binary64 x)

unfoldable pub floats_text : List Float → List ℕ
floats_text l = parted (map float_text l)

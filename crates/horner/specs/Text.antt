-- Document 01, module 7: "Back: Horner form, lowest coefficient outermost", as postfix tokens with one space between two.
use Rattle.std.specs.Prelude.{List, [], ◌∷◌, ◌++◌, ℕ}
use Rattle.ratio.specs.Refusal.{zero_r}
use Rattle.ratio.specs.declared.Ratio.{Ratio}
use Rattle.bridge.specs.Value.{value_of}
use Rattle.text.specs.Ascii.{bytes}
use Rattle.text.specs.Spell.{decimal_of, float_text}

-- a coefficient as the bits of its float
abbrev pub constant : Ratio → List ℕ
constant c = bytes "c" ++ float_text (value_of c)

abbrev pub variable : ℕ → List ℕ
variable wrt = bytes "v" ++ decimal_of wrt

-- c + x · rest: `c x rest * +`
unfoldable pub horner : ℕ → Ratio → List Ratio → List ℕ
horner wrt c [] = constant c
horner wrt c (d ∷ l) = constant c ++ (bytes " " ++ variable wrt ++ (bytes " " ++ horner wrt d l ++ bytes " * +"))

-- zero is the constant 0
unfoldable pub lowered_text : ℕ → List Ratio → List ℕ
lowered_text wrt [] = horner wrt zero_r []
lowered_text wrt (c ∷ l) = horner wrt c l

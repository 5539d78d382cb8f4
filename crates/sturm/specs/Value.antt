-- Document 01, module 6: Horner in floats, two roundings a term. Each coefficient is a float first; the leading one is taken as it is.
use Rattle.std.specs.Prelude.{List, [], ◌∷◌, map, Float}
use Rattle.std.specs.Float.{binary64}
use Rattle.std.specs.Float.Ieee.{of_bits, add, mul}
use Rattle.ratio.specs.declared.Ratio.{Ratio}
use Rattle.terms.specs.Poly.{trim}
use Rattle.bridge.specs.Value.{value_of}

-- the coefficients as floats; zeros at the top are dropped first
abbrev pub floats_of : List Ratio → List Float
floats_of l = map value_of (trim l)

unfoldable pub horner : List Float → Float → Float
horner [] x = of_bits binary64 0
horner (a ∷ []) x = a
horner (a ∷ b ∷ l) x = add binary64 (mul binary64 (horner (b ∷ l) x) x) a

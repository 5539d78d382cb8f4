-- Document 01, module 6: the signs of the chain's values at a float. A row is one polynomial of the chain, its coefficients as floats.
use Rattle.std.specs.Prelude.{List, map, Float}
use Rattle.ratio.specs.declared.Ratio.{Ratio}
use Rattle.sturm.specs.declared.Sign.{Sign}
use Rattle.sturm.specs.Value.{floats_of, horner}
use Rattle.sturm.specs.Sign.{sign_of}

abbrev pub rows_of : List (List Ratio) → List (List Float)
rows_of c = map floats_of c

abbrev pub signs_at : List (List Float) → Float → List Sign
signs_at rows x = map (λ l. sign_of (horner l x)) rows

-- The textbook's reading of a list of fractions (document 01, opening): a list of rationals, that is a polynomial.
use Rattle.std.specs.Prelude.{List, map}
use Rattle.algebra.specs.Rational.{Rat}
use Rattle.ratio.specs.Promise.{rat}
use Rattle.ratio.specs.declared.Ratio.{Ratio}

abbrev pub rats : List Ratio → List Rat
rats l = map rat l

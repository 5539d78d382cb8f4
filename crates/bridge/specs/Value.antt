-- Document 01, module 2: a rational becomes a float as numerator rounded to nearest even, then denominator rounded, then one division.
use Rattle.std.specs.Prelude.{Float, Result, Ok}
use Rattle.std.specs.Float.{binary64}
use Rattle.std.specs.Float.Ieee.{of_int, div}
use Rattle.ratio.specs.Range.{need}
use Rattle.ratio.specs.Step.{is_fraction}
use Rattle.ratio.specs.declared.Ratio.{Ratio}
use Rattle.ratio.specs.declared.Reason.{Reason}
use Rattle.ratio.specs.declared.Reason.TheVariants.{BadInput}

-- of any two entries, as they stand
unfoldable pub value_of : Ratio → Float
value_of r = div binary64 (of_int binary64 r.num) (of_int binary64 r.den)

-- what is no fraction within the range is 5
unfoldable pub to_float : Ratio → Result Float Reason
to_float r = need (is_fraction r) BadInput (Ok (value_of r))

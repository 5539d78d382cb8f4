-- Document 01, refusal numbers: the value of a float's answer. A refusal hands back the float zero.
use Rattle.std.specs.Prelude.{from_bits, Float, Result, Ok, Err}
use Rattle.std.specs.Float.{binary64}
use Rattle.ratio.specs.declared.Reason.{Reason}

abbrev pub float_of : Result Float Reason → Float
float_of (Ok x) = x
float_of (Err why) = from_bits binary64 0

-- Document 01, module 2: `f64_to_ratio`. For d = 1 to 1000 take v·d, accept the first d whose float difference is below 1e-9 in size; none is 1.
use Rattle.ratio.specs.declared.Reason.{Reason}
use Rattle.ratio.specs.declared.Ratio.{Ratio}
use Rattle.std.specs.Prelude.{ℕ, zero, suc, Bool, true, false, ℤ, pos, from_bits, Float, Result, Err}
use Rattle.std.specs.Float.{binary64, float_with_sign}
use Rattle.std.specs.Float.Ieee.{of_int, mul, sub, lt}
use Rattle.std.specs.Float.Ieee.Scale.{finite}
use Rattle.ratio.specs.Range.{within, need}
use Rattle.ratio.specs.Step.{new_of}
use Rattle.ratio.specs.declared.Reason.TheVariants.{NotPolynomial, CoeffOverflow}
use Rattle.bridge.specs.Round.{round_of}

-- the float nearest to 1e-9
abbrev pub tolerance : Float
tolerance = from_bits binary64 0x3e11_2e0b_e826_d695

-- below it in size
unfoldable pub small : Float → Bool
small x = lt (float_with_sign false x) tolerance

-- v·d, one rounding
abbrev pub scaled : Float → ℕ → Float
scaled v d = mul binary64 v (of_int binary64 (pos d))

-- v·d is close to the whole number that it rounds to
unfoldable pub near : Float → ℕ → Bool
near v d = small (sub binary64 (scaled v d) (of_int binary64 (round_of (scaled v d))))

-- `Ratio::new`; the numerator -2^63 is 2
unfoldable pub over : ℤ → ℕ → Result Ratio Reason
over n d = need (within n) CoeffOverflow (new_of n (pos d))

abbrev pub or_else : Bool → Result Ratio Reason → Result Ratio Reason → Result Ratio Reason
or_else true found rest = found
or_else false found rest = rest

-- the first of k denominators from d on
unfoldable pub first_from : ℕ → ℕ → Float → Result Ratio Reason
first_from zero d v = Err NotPolynomial
first_from (suc k) d v = or_else (near v d) (over (round_of (scaled v d)) d) (first_from k (suc d) v)

-- not finite is 1
unfoldable pub to_ratio : Float → Result Ratio Reason
to_ratio v = need (finite v) NotPolynomial (first_from 1000 1 v)

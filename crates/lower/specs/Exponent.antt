-- Document 01, module 7: exponents below 0, with a fraction, NaN, infinite or above 200 are none; -0.0 is 0.
use Rattle.std.specs.Prelude.{cond, ℕ, zero, suc, pos, Float, Option, Some, None}
use Rattle.std.specs.Float.{binary64}
use Rattle.std.specs.Float.Ieee.{of_int, eq}

-- the whole number that x equals, of k from n on
unfoldable pub equal_from : ℕ → ℕ → Float → Option ℕ
equal_from zero n x = None
equal_from (suc k) n x = cond (eq x (of_int binary64 (pos n))) (Some n) (equal_from k (suc n) x)

unfoldable pub exponent_of : Float → Option ℕ
exponent_of x = equal_from 201 0 x

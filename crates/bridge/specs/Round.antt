-- Document 01, module 2: a float to a whole number: round half away from zero, saturate to i64.
use Rattle.std.specs.Prelude.{ℕ, ◌+◌, ◌*◌, ◌/◌, min, Bool, true, false, ℤ, pos, neg_ℤ, Float}
use Rattle.std.specs.Float.{nan, inf, fin}
use Rattle.std.specs.Float.Ieee.{up, down}

-- the whole number nearest to n / d, a half upward: the floor of n / d + 1 / 2
unfoldable pub half_upward : ℕ → ℕ → ℕ
half_upward n d = (n * 2 + d) / (d * 2)

-- the size of a finite float, rounded so
unfoldable pub size_of : Float → ℕ
size_of nan = 0
size_of (inf s) = 0
size_of (fin s m e) = half_upward (m * up e) (down e)

-- a sign and a size, brought to the end of the range where it is past it
abbrev pub saturated : Bool → ℕ → ℤ
saturated true n = neg_ℤ (pos (min n 9223372036854775808))
saturated false n = pos (min n 9223372036854775807)

unfoldable pub round_of : Float → ℤ
round_of nan = pos 0
round_of (inf s) = saturated s 9223372036854775808
round_of (fin s m e) = saturated s (size_of (fin s m e))

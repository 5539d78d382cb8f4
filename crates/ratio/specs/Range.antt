-- Document 01, number range: numerators and denominators lie within ±(2^63 − 1); −2^63 never occurs.
use Rattle.std.specs.Prelude.{Bool, true, false, ℕ, ◌≤◌, leb, ℤ, nat_abs, Result, Ok, Err}
use Rattle.ratio.specs.declared.Reason.{Reason}
use Rattle.ratio.specs.declared.Reason.TheVariants.{CoeffOverflow}

abbrev pub limit : ℕ
limit = 9223372036854775807

abbrev pub Within : ℤ → Type 0
Within z = nat_abs z ≤ limit

-- the test of it
abbrev pub within : ℤ → Bool
within z = leb (nat_abs z) limit

-- go on where a test holds, refuse where it doesn't
abbrev pub need : {X : Type 0} → Bool → Reason → Result X Reason → Result X Reason
need true why s = s
need false why s = Err why

-- a number that is worked out on the way has to lie within the range
abbrev pub fitting : ℤ → Result ℤ Reason
fitting z = need (within z) CoeffOverflow (Ok z)

-- Document 01, refusal numbers: the number of each reason, and the number and the value of each answer. 0 is done; a refusal hands back zero.
use Rattle.std.specs.Prelude.{ℕ, pos, Result, Ok, Err}
use Rattle.ratio.specs.declared.Ratio.{Ratio}
use Rattle.ratio.specs.declared.Reason.{Reason}
use Rattle.ratio.specs.declared.Reason.TheVariants.{NotPolynomial, CoeffOverflow, DivByZero, TooLong, BadInput, Malformed, Budget, TooDeep, NoRoom}

abbrev pub number_of : Reason → ℕ
number_of NotPolynomial = 1
number_of CoeffOverflow = 2
number_of DivByZero = 3
number_of TooLong = 4
number_of BadInput = 5
number_of (Malformed at) = 5
number_of Budget = 6
number_of TooDeep = 7
number_of NoRoom = 8

-- the outcome beside an array
abbrev pub Outcome : Type 0
Outcome = Result (Unit {0}) Reason

abbrev pub no_refusal : Outcome
no_refusal = Ok tt

abbrev pub status_of : {X : Type 0} → Result X Reason → ℕ
status_of (Ok r) = 0
status_of (Err why) = number_of why

abbrev pub zero_r : Ratio
zero_r = record { num = pos 0; den = pos 1 }

abbrev pub ratio_of : Result Ratio Reason → Ratio
ratio_of (Ok r) = r
ratio_of (Err why) = zero_r

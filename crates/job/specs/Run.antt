-- Document 01, "the job program" and refusal 8: an answer is written whole, or nothing is where the lent output is shorter than it.
use Rattle.std.specs.Prelude.{cond, List, ◌++◌, ℕ, ◌≤◌, ltb, length, drop, Ok, Err}
use Rattle.ratio.specs.Refusal.{Outcome}
use Rattle.ratio.specs.declared.Reason.{Reason}
use Rattle.ratio.specs.declared.Reason.TheVariants as R
use Rattle.job.specs.declared.Ran.{Ran}
use Rattle.job.specs.Job.{Reply, reply_to}

abbrev pub no_room : Ran
no_room = record { outcome = Err R.NoRoom; len = 0 }

-- what is handed back for an output of n bytes
abbrev pub ran_in : ℕ → Reply → Ran
ran_in n r = cond (ltb n (length r.text)) no_room (record { outcome = r.outcome; len = length r.text })

-- the output, then
abbrev pub written_on : List ℕ → Reply → List ℕ
written_on page r = cond (ltb (length page) (length r.text)) page (r.text ++ drop (length r.text) page)

-- the answer to any text fits 4,096 bytes
abbrev pub FitsPage : List ℕ → Type 0
FitsPage s = length (reply_to s).text ≤ 4096

-- the place of what is malformed; of any other outcome the greatest number
abbrev pub nowhere : ℕ
nowhere = 18446744073709551615

abbrev pub place_for : Reason → ℕ
place_for (R.Malformed at) = at
place_for R.NotPolynomial = nowhere
place_for R.CoeffOverflow = nowhere
place_for R.DivByZero = nowhere
place_for R.TooLong = nowhere
place_for R.BadInput = nowhere
place_for R.Budget = nowhere
place_for R.TooDeep = nowhere
place_for R.NoRoom = nowhere

abbrev pub place_in : Outcome → ℕ
place_in (Ok _) = nowhere
place_in (Err why) = place_for why

-- `job::outcome_of` meets its contract.
use mathlib.Core.Path.{sym, ap}
use Rattle.job.specs.Job.{outcome_of}
use borrow.Author.Rules.{rules}
use Rattle.job.proofs.outcome_of.Statement.{statement}
use Rattle.job.proofs.outcome_of.Tie as tie

enum_told : tie.Need-enum_told-1
enum_told c = search rules

enum-known-s : tie.Need-enum_known-s
enum-known-s c = search rules

returns : tie.Need-returns-in-Ok
returns c = search rules

returns-2 : tie.Need-returns-in-Err
returns-2 c = sym (ap outcome_of c.in-Err.is)

pub outcome_of_spec : {M : Type 1} → statement M
outcome_of_spec = tie.close (tie.spec enum_told enum-known-s returns returns-2)

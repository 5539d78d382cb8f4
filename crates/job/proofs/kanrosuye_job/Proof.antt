-- `job::kanrosuye_job` meets its contract.
use mathlib.Core.Path.{ap}
use Rattle.job.specs.declared.Ran.{Ran}
use borrow.Author.Rules.{rules}
use Rattle.job.proofs.kanrosuye_job.Statement.{statement}
use Rattle.job.proofs.kanrosuye_job.Tie as tie

run-requires : tie.Need-run-t-requires
run-requires c κs = tt

same_length : tie.Need-shape_of-out
same_length c = search rules

returns : tie.Need-returns
returns c =
    let r = c.run-t in
    (ap (λ (t : Ran). t.len) r.ensures.0, r.ensures.1.0)

pub kanrosuye_job_spec : {M : Type 1} → statement M
kanrosuye_job_spec = tie.close (tie.spec run-requires same_length returns)

use Rattle.std.proofs.Common.{◌≡◌, Ok, rules}
use Rattle.ratio.specs.Step.{inv_of}
use Rattle.ratio.proofs.Answers.{inv-answers}
use Rattle.ratio.proofs.inverse.Goals as goal

pub returns-else-is_zero-clause-promise : goal.returns-else-is_zero-clause-promise
unfolding inv_of
returns-else-is_zero-clause-promise c =
    let e : Ok c.reduce.result ≡ inv_of c.args.a = search rules in
    rw e (inv-answers _)

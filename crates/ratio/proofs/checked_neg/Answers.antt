use Rattle.std.proofs.Common.{◌≡◌, Ok, rules}
use Rattle.ratio.specs.Step.{neg_of}
use Rattle.ratio.proofs.Answers.{neg-answers}
use Rattle.ratio.proofs.checked_neg.Goals as goal

pub returns-then-is_fraction-clause-promise : goal.returns-then-is_fraction-clause-promise
unfolding neg_of
returns-then-is_fraction-clause-promise c =
    let e : Ok c.reduce.result ≡ neg_of c.args.a = search rules in
    rw e (neg-answers _)

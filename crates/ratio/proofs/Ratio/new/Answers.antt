use Rattle.std.proofs.Common.{◌≡◌, Ok, rules}
use Rattle.ratio.specs.Step.{new_of}
use Rattle.ratio.proofs.Answers.{new-answers}
use Rattle.ratio.proofs.Ratio.new.Goals as goal

pub returns-then-is_fraction-clause-promise : goal.returns-then-is_fraction-clause-promise
unfolding new_of
returns-then-is_fraction-clause-promise c =
    let e : Ok c.reduce.result ≡ new_of c.args.num c.args.den = search rules in
    rw e (new-answers _ _)

use Rattle.std.proofs.Common.{◌≡◌, rules}
use lib.Dec.{eqb}
use Rattle.ratio.specs.Step.{is_lowest}
use Rattle.ratio.proofs.Answers.{lowest-tells}
use Rattle.ratio.proofs.Ratio.is_lowest.Goals as goal

pub returns-then-self-gt0-clause-promise : goal.returns-then-self-gt0-clause-promise
returns-then-self-gt0-clause-promise c =
    let e : eqb c.gcd_i64.result 1 ≡ is_lowest c.args.self = search rules in
    rw e (lowest-tells _)

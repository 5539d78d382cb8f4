use Rattle.std.proofs.Common.{◌≡◌, rules}
use Rattle.poly.specs.Operations.{diff_of}
use Rattle.poly.proofs.Gives.{diff-gives}
use Rattle.poly.proofs.diff.Goals as goal

pub returns-in-Open-clause-promise : goal.returns-in-Open-clause-promise
returns-in-Open-clause-promise c =
    let e : c.differentiate.result ≡ diff_of c.args.p = search rules in
    rw e (diff-gives _)

pub returns-in_default-clause-promise : goal.returns-in_default-clause-promise
returns-in_default-clause-promise c =
    let e : c.refused.result ≡ diff_of c.args.p = search rules in
    rw e (diff-gives _)

use Rattle.std.proofs.Common.{◌≡◌, rules}
use Rattle.poly.specs.Operations.{neg_of}
use Rattle.poly.proofs.Gives.{neg_gives}
use Rattle.poly.proofs.neg.Goals as goal

pub returns-in-Open-clause-promise : goal.returns-in-Open-clause-promise
returns-in-Open-clause-promise c =
    let e : c.negate.result ≡ neg_of c.args.p = search rules in
    rw e (neg_gives _)

pub returns-in_default-clause-promise : goal.returns-in_default-clause-promise
returns-in_default-clause-promise c =
    let e : c.refused.result ≡ neg_of c.args.p = search rules in
    rw e (neg_gives _)

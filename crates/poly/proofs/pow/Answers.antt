use Rattle.std.proofs.Common.{◌≡◌, rules}
use Rattle.poly.specs.Operations.{pow_of}
use Rattle.poly.proofs.Gives.{pow-gives}
use Rattle.poly.proofs.pow.Goals as goal

pub returns-in-Open-clause-promise : goal.returns-in-Open-clause-promise
returns-in-Open-clause-promise c =
    let e : c.pow_terms.result ≡ pow_of c.args.p c.args.n = search rules in
    rw e (pow-gives _ _)

pub returns-in_default-clause-promise : goal.returns-in_default-clause-promise
returns-in_default-clause-promise c =
    let e : c.refused.result ≡ pow_of c.args.p c.args.n = search rules in
    rw e (pow-gives _ _)

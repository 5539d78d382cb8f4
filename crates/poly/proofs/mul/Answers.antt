use Rattle.std.proofs.Common.{◌≡◌, rules}
use Rattle.poly.specs.Operations.{mul_of}
use Rattle.poly.proofs.Gives.{mul-gives}
use Rattle.poly.proofs.mul.Goals as goal

pub returns-in-Open-clause-promise : goal.returns-in-Open-clause-promise
returns-in-Open-clause-promise c =
    let e : c.times.result ≡ mul_of c.args.a c.args.b = search rules in
    rw e (mul-gives _ _)

pub returns-in_default-clause-promise : goal.returns-in_default-clause-promise
returns-in_default-clause-promise c =
    let e : c.refused.result ≡ mul_of c.args.a c.args.b = search rules in
    rw e (mul-gives _ _)

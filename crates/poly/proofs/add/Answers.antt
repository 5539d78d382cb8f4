use Rattle.std.proofs.Common.{◌≡◌, rules}
use Rattle.poly.specs.Operations.{add_of}
use Rattle.poly.proofs.Gives.{add-gives}
use Rattle.poly.proofs.add.Goals as goal

pub returns-in-Open-clause-promise : goal.returns-in-Open-clause-promise
returns-in-Open-clause-promise c =
    let e : c.zip.result ≡ add_of c.args.a c.args.b = search rules in
    rw e (add-gives _ _)

pub returns-in_default-clause-promise : goal.returns-in_default-clause-promise
returns-in_default-clause-promise c =
    let e : c.refused.result ≡ add_of c.args.a c.args.b = search rules in
    rw e (add-gives _ _)

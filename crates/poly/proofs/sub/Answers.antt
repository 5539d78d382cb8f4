use Rattle.std.proofs.Common.{◌≡◌, rules}
use Rattle.poly.specs.Operations.{sub_of}
use Rattle.poly.proofs.Gives.{sub-gives}
use Rattle.poly.proofs.sub.Goals as goal

pub returns-in-Open-clause-promise : goal.returns-in-Open-clause-promise
returns-in-Open-clause-promise c =
    let e : c.zip.result ≡ sub_of c.args.a c.args.b = search rules in
    rw e (sub-gives _ _)

pub returns-in_default-clause-promise : goal.returns-in_default-clause-promise
returns-in_default-clause-promise c =
    let e : c.refused.result ≡ sub_of c.args.a c.args.b = search rules in
    rw e (sub-gives _ _)

use Rattle.std.proofs.Common.{◌≡◌, rules}
use Rattle.poly.specs.Operations.{scale_of}
use Rattle.poly.proofs.Gives.{scale-gives}
use Rattle.poly.proofs.scale.Goals as goal

pub returns-in-Open-clause-promise : goal.returns-in-Open-clause-promise
returns-in-Open-clause-promise c =
    let e : c.scale.result ≡ scale_of c.args.p c.args.c = search rules in
    rw e (scale-gives c.args.p c.args.c)

pub returns-in_default-clause-promise : goal.returns-in_default-clause-promise
returns-in_default-clause-promise c =
    let e : c.refused.result ≡ scale_of c.args.p c.args.c = search rules in
    rw e (scale-gives c.args.p c.args.c)

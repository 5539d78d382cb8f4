use Rattle.std.proofs.Common.{◌≡◌, rules}
use Rattle.poly.specs.Operations.{constant_of}
use Rattle.poly.proofs.Gives.{constant-gives}
use Rattle.poly.proofs.constant.Goals as goal

pub returns-in-Open-clause-promise : goal.returns-in-Open-clause-promise
returns-in-Open-clause-promise c =
    let e : c.done.result ≡ constant_of c.args.c = search rules in
    rw e (constant-gives c.args.c)

pub returns-in_default-clause-promise : goal.returns-in_default-clause-promise
returns-in_default-clause-promise c =
    let e : c.refused.result ≡ constant_of c.args.c = search rules in
    rw e (constant-gives c.args.c)

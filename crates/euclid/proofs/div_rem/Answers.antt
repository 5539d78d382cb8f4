use Rattle.std.proofs.Common.{◌≡◌, rules}
use Rattle.euclid.specs.Answer.{div_rem_of}
use Rattle.euclid.proofs.Divisions.{division-promise}
use Rattle.euclid.proofs.div_rem.Goals as goal

pub returns-in-Open-clause-promise : goal.returns-in-Open-clause-promise
returns-in-Open-clause-promise c =
    let e : c.divide.result ≡ div_rem_of c.args.a c.args.b = search rules in
    rw e (division-promise _ _)

pub returns-in_default-clause-promise : goal.returns-in_default-clause-promise
returns-in_default-clause-promise c =
    let e : c.no_division.result ≡ div_rem_of c.args.a c.args.b = search rules in
    rw e (division-promise _ _)

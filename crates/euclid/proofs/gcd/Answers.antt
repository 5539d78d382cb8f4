use Rattle.std.proofs.Common.{◌≡◌, rules}
use Rattle.euclid.specs.Answer.{gcd_for}
use Rattle.euclid.proofs.Gcds.{gcd-promise}
use Rattle.euclid.proofs.gcd.Goals as goal

pub returns-in-Open-clause-promise : goal.returns-in-Open-clause-promise
returns-in-Open-clause-promise c =
    let e : c.greatest.result ≡ gcd_for c.args.a c.args.b = search rules in
    rw e (gcd-promise _ _)

pub returns-in_default-clause-promise : goal.returns-in_default-clause-promise
returns-in_default-clause-promise c =
    let e : c.refused.result ≡ gcd_for c.args.a c.args.b = search rules in
    rw e (gcd-promise _ _)

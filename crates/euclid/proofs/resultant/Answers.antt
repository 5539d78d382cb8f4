use Rattle.std.proofs.Common.{◌≡◌, rules}
use Rattle.euclid.specs.Answer.{resultant_for}
use Rattle.euclid.proofs.Resultants.{resultant-promise}
use Rattle.euclid.proofs.resultant.Goals as goal

pub returns-in-Open-clause-promise : goal.returns-in-Open-clause-promise
returns-in-Open-clause-promise c =
    let e : c.as_whole.result ≡ resultant_for c.args.a c.args.b = search rules in
    rw e (resultant-promise _ _)

pub returns-in_default-clause-promise : goal.returns-in_default-clause-promise
returns-in_default-clause-promise c =
    let e : c.no_whole.result ≡ resultant_for c.args.a c.args.b = search rules in
    rw e (resultant-promise _ _)

use Rattle.std.proofs.Common.{◌≡◌, rules}
use Rattle.euclid.specs.Answer.{discriminant_for}
use Rattle.euclid.proofs.Discriminants.{discriminant-promise}
use Rattle.euclid.proofs.discriminant.Goals as goal

pub returns-in-Open-clause-promise : goal.returns-in-Open-clause-promise
returns-in-Open-clause-promise c =
    let e : c.as_whole.result ≡ discriminant_for c.args.f = search rules in
    rw e (discriminant-promise _)

pub returns-in_default-clause-promise : goal.returns-in_default-clause-promise
returns-in_default-clause-promise c =
    let e : c.no_whole.result ≡ discriminant_for c.args.f = search rules in
    rw e (discriminant-promise _)

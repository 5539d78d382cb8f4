use Rattle.std.proofs.Common.{◌≡◌, rules}
use Rattle.euclid.specs.Answer.{square_free_for}
use Rattle.euclid.proofs.SquareFrees.{square-free-promise}
use Rattle.euclid.proofs.square_free.Goals as goal

pub returns-in-Open-clause-promise : goal.returns-in-Open-clause-promise
returns-in-Open-clause-promise c =
    let e : c.free_part.result ≡ square_free_for c.args.f = search rules in
    rw e (square-free-promise _)

pub returns-in_default-clause-promise : goal.returns-in_default-clause-promise
returns-in_default-clause-promise c =
    let e : c.refused.result ≡ square_free_for c.args.f = search rules in
    rw e (square-free-promise _)

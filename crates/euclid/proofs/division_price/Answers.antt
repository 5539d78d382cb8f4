use Rattle.std.proofs.Common.{◌≡◌, Ok, rules}
use Rattle.euclid.specs.Quote.{division_quote}
use Rattle.euclid.proofs.Quotes.{division-quotes}
use Rattle.euclid.proofs.division_price.Goals as goal

pub returns-else-m-gt31-clause-promise : goal.returns-else-m-gt31-clause-promise
returns-else-m-gt31-clause-promise c =
    let n = c.args.n in
    let m = c.args.m in
    let e : Ok c.division_steps.result ≡ division_quote n m = search rules in
    division-quotes n m _ e

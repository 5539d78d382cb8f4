use Rattle.std.proofs.Common.{◌≡◌, ◌+◌, ◌*◌, Ok, rules}
use Rattle.euclid.specs.Quote.{gcd_quote}
use Rattle.euclid.proofs.Quotes.{gcd-quotes}
use Rattle.euclid.proofs.gcd_price.Goals as goal

pub returns-else-m-gt31-clause-promise : goal.returns-else-m-gt31-clause-promise
returns-else-m-gt31-clause-promise c =
    let n = c.args.n in
    let m = c.args.m in
    let e : Ok (2 * n * m + 3 * n + 3 * m + 4) ≡ gcd_quote n m = search rules in
    gcd-quotes n m _ e

use Rattle.std.proofs.Common.{◌≡◌, Ok, Err, rules}
use Rattle.ratio.specs.declared.Reason.TheVariants.{TooLong}
use Rattle.euclid.specs.Quote.{resultant_quote}
use Rattle.euclid.proofs.Quotes.{resultant-quotes}
use Rattle.euclid.proofs.resultant_price.Goals as goal

pub returns-else-m-gt31-clause-promise : goal.returns-else-m-gt31-clause-promise
returns-else-m-gt31-clause-promise c =
    let n = c.args.n in
    let m = c.args.m in
    let e : Ok c.resultant_steps.result ≡ resultant_quote n m = search rules in
    resultant-quotes n m _ e

pub returns-then-m-gt31-clause-promise : goal.returns-then-m-gt31-clause-promise
returns-then-m-gt31-clause-promise c =
    let n = c.args.n in
    let m = c.args.m in
    let e : Err TooLong ≡ resultant_quote n m = search rules in
    resultant-quotes n m _ e

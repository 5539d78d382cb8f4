-- What the check is handed for a quote: that it fits, the price by the cases in which the code goes, and what the quote promises.
use Rattle.euclid.proofs.Quotes.{division-quotes, gcd-quotes, resultant-quotes, discriminant-quotes, square-free-quotes}
use Rattle.euclid.proofs.QuoteCases.{few-products, division-few, division-lower, division-higher, ordered-few, resultant-constant, resultant-lower, resultant-higher, resultant-few, discriminant-positive, constant-quote}

pub ruleset division = (division-few, division-lower, division-higher)

pub ruleset ordered = (few-products, ordered-few)

pub ruleset resultant = (ordered-few, resultant-constant, resultant-lower, resultant-higher)

pub ruleset division_quoted = (division-quotes)

pub ruleset gcd_quoted = (few-products, gcd-quotes)

pub ruleset square_free_quoted = (few-products, square-free-quotes)

pub ruleset resultant_quoted = (resultant-quotes)

pub ruleset discriminant_quoted = (resultant-few, discriminant-positive, constant-quote, discriminant-quotes)

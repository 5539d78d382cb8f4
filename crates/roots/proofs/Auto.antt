-- What the check is handed for a quote: that its products fit, and what the quote promises.
use Rattle.roots.proofs.Quotes.{roots-quotes, candidates-small, steps-small}

pub ruleset quoted = (roots-quotes, candidates-small, steps-small)

-- What the check takes for granted in the functions that name these.
use Rattle.sturm.proofs.Laid.{row-fit, row-lent}
use Rattle.isolate.proofs.Hold.{roots-of, kept_of, kept-len, push-done}
use Rattle.isolate.proofs.Walks.{near_none, kept-far}
use Rattle.isolate.proofs.Ways.{isolated}
use Rattle.isolate.proofs.Promises.{isolate-both}
use Rattle.isolate.proofs.Prices.{quote-both}

-- one more root
pub ruleset pushes = (kept-len, push-done)

-- the floats of a polynomial, as they are lent
pub ruleset rows = (row-fit, row-lent)

-- whether the last root kept is too close
pub ruleset keeps = (kept-len, near_none, kept-far)

-- each way an isolation can go
pub ruleset ways = (kept_of, roots-of, isolated)

-- what an isolation promises
pub ruleset promises = (isolate-both)

-- what a quote promises
pub ruleset quotes = (quote-both)

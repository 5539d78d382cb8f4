-- `bisect::most_calls` meets its contract.
use Rattle.bisect.proofs.Prices.{price-bounded}
use Rattle.bisect.proofs.most_calls.Goals as goal

pub returns-clause-promise : goal.returns-clause-promise
returns-clause-promise c = price-bounded

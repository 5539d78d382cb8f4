use Rattle.ratio.proofs.Answers.{cmp-orders}
use Rattle.ratio.proofs.compare.Goals as goal

pub returns-clause-promise : goal.returns-clause-promise
returns-clause-promise c = rw c.order.ensures (cmp-orders _ _)

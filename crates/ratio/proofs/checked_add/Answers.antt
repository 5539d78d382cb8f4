use Rattle.ratio.proofs.Answers.{add-answers}
use Rattle.ratio.proofs.checked_add.Goals as goal

pub returns-clause-promise : goal.returns-clause-promise
returns-clause-promise c = rw c.add.ensures (add-answers _ _)

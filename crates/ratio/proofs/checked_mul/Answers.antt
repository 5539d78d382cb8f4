use Rattle.ratio.proofs.Answers.{mul-answers}
use Rattle.ratio.proofs.checked_mul.Goals as goal

pub returns-clause-promise : goal.returns-clause-promise
returns-clause-promise c = rw c.mul.ensures (mul-answers _ _)

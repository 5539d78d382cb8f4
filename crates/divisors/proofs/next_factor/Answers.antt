-- `divisors::next_factor` meets its contract: what is found as the model finds it walks.
use native.Mathlib.Omega.{arith}
use Rattle.std.proofs.lemmas.Grind.{common_steps}
use Rattle.divisors.proofs.Walks.{walks_is, walk_steps}
use Rattle.divisors.proofs.next_factor.Goals as goal

pub returns-in-Some-clause-promise : goal.returns-in-Some-clause-promise
returns-in-Some-clause-promise c = walks_is (grind (arith, common_steps, walk_steps))

-- `divisors::integer_factors` meets its contract: a listing that is the model's keeps its promise too.
use native.Mathlib.Omega.{arith}
use Rattle.std.proofs.lemmas.Grind.{common_steps}
use Rattle.divisors.proofs.Lists.{listed_is, listing_steps}
use Rattle.divisors.proofs.integer_factors.Goals as goal

pub returns-then-budget-gt65536-clause-promise : goal.returns-then-budget-gt65536-clause-promise
returns-then-budget-gt65536-clause-promise c = listed_is (grind (arith, common_steps, listing_steps))

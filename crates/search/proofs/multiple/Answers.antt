-- `search::multiple` meets its contract: a multiple that is refused refuses the whole.
use native.Mathlib.Omega.{arith}
use Rattle.std.proofs.lemmas.Grind.{common_steps}
use Rattle.terms.specs.Poly.{terms_of}
use Rattle.search.proofs.Auto.{read_steps}
use Rattle.search.proofs.CodeClear.{widened-over}
use Rattle.search.proofs.multiple.Goals as goal

pub returns-in_default : goal.returns-in_default
returns-in_default c = widened-over (terms_of c.args.p) c.loop-i.i c.loop-i.m (omega arith) c.loop-i.invariant c.in_default.field-0 (grind (arith, common_steps, read_steps))

-- `search::evaluate` meets its contract: a product that is refused refuses the whole.
use mathlib.Core.Path.{ap, ◌∙◌}
use native.Mathlib.Omega.{arith}
use Rattle.std.proofs.lemmas.Grind.{common_steps}
use Rattle.terms.specs.Poly.{terms_of}
use Rattle.search.specs.Tally.{valued_of}
use Rattle.search.proofs.Auto.{read_steps}
use Rattle.search.proofs.CodeValue.{first-over}
use Rattle.search.proofs.evaluate.Goals as goal

pub returns-in_default : goal.returns-in_default
returns-in_default c =
    let l = c.loop-i in
    c.over.ensures ∙ ap valued_of (first-over (terms_of c.args.p) c.args.x c.args.steps l.i l.power l.sum l.count (omega arith) l.invariant.1 c.in_default.field-0 (grind (arith, common_steps, read_steps)))

-- `factor::factor` meets its contract.
use mathlib.Core.Path.{◌≡◌, ap₂, ◌∙◌}
use Rattle.poly.specs.Door.{door_of, both}
use Rattle.roots.specs.Answer.{budget_door}
use Rattle.factor.proofs.Promises.{factor-both}
use Rattle.factor.proofs.Works.{assembled-is}
use Rattle.factor.proofs.factor.Statement.{statement}
use Rattle.factor.proofs.factor.Tie as tie

gate : (c : tie.After-both-d) → c.both-d.result ≡ both (door_of c.args.p) (budget_door c.args.budget)
gate c = c.both-d.ensures ∙ ap₂ both c.door.ensures c.door_of_budget.ensures

door-requires : tie.Need-door-requires
door-requires c κs = tt

door-of-budget-requires : tie.Need-door_of_budget-requires
door-of-budget-requires c κs = tt

both-requires : tie.Need-both-d-requires
both-requires c κs = tt

content-behind-requires : tie.Need-content_behind-c-requires
content-behind-requires c κs = tt

split-primitive-requires : tie.Need-split_primitive-s-requires
split-primitive-requires c κs = tt

content-with-requires : tie.Need-content_with-content-requires
content-with-requires c κs = tt

returns : tie.Need-returns
returns c =
    let w = c in
    let d = w in
    let k = d in
    let g = k in
    let s = g.args in
    factor-both s.p s.budget _
    (assembled-is s.p s.budget g.both-d.result (gate g.before.before.before.before) k.content_behind-c.result k.content_behind-c.ensures d.split_primitive-s.result d.split_primitive-s.ensures w.content_with-content.result w.content_with-content.ensures)

pub factor_spec : {M : Type 1} → statement M
factor_spec =
    tie.close
    (tie.spec
    door-requires
    door-of-budget-requires
    both-requires
    content-behind-requires
    split-primitive-requires
    content-with-requires
    returns)

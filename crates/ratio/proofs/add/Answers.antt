use Rattle.std.proofs.Common.{Ok, ap, ◌∙◌}
use Rattle.ratio.proofs.Short.{short, sum_fits, sum-fraction, add_done}
use Rattle.ratio.proofs.add.Goals as goal

pub overflow_add-a : goal.overflow_add-a
overflow_add-a c = sum_fits c.args.a c.args.b (short _ _ c.if-narrow.ensures)

pub reduce-requires : goal.reduce-requires
reduce-requires c = sum-fraction c.args.a c.args.b (short _ _ c.if-narrow.ensures) c.if-d-ne0.true

pub returns-then-d-ne0 : goal.returns-then-d-ne0
returns-then-d-ne0 c = ap Ok c.reduce.ensures ∙ add_done c.args.a c.args.b (short _ _ c.if-narrow.ensures) c.if-d-ne0.true

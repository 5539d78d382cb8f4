use Rattle.std.proofs.Common.{Ok, ap, ◌∙◌}
use Rattle.ratio.proofs.Short.{short, mul-fits, mul-fraction, mul-done}
use Rattle.ratio.proofs.mul.Goals as goal

pub overflow_mul-a : goal.overflow_mul-a
overflow_mul-a c =
    let s = short c.args.a c.args.b c.if-narrow.ensures in
    mul-fits c.args.a.num c.args.b.num s.an s.bn

pub reduce-requires : goal.reduce-requires
reduce-requires c = mul-fraction c.args.a c.args.b (short _ _ c.if-narrow.ensures) c.if-d-ne0.true

pub returns-then-d-ne0 : goal.returns-then-d-ne0
returns-then-d-ne0 c = ap Ok c.reduce.ensures ∙ mul-done c.args.a c.args.b (short _ _ c.if-narrow.ensures) c.if-d-ne0.true

-- `tokens::part_end` meets its contract: one byte more, or the mark.
use Rattle.std.proofs.Common.{arith}
use Rattle.tokens.proofs.Words.{length-mark, length_more, length-all}
use Rattle.tokens.proofs.part_end.Goals as goal

pub returns-then-text-end : goal.returns-then-text-end
returns-then-text-end c =
    let l = c.loop-end in
    record { is = omega (arith, length-mark c.args.mark c.args.text.now l.end (omega arith) c.if-text-end.true, l.invariant) }

pub loop-end-preserved : goal.loop-end-preserved
loop-end-preserved c =
    let l = c.loop-end in
    omega (arith, length_more c.args.mark c.args.text.now l.end (omega arith) c.if-text-end.false, l.invariant)

pub returns : goal.returns
returns c =
    let l = c.loop-end in
    record { is = length-all c.args.mark c.args.at l.end c.max.result c.args.text.now c.max.ensures l.auto.end-end c.loop-end-test.false l.invariant }

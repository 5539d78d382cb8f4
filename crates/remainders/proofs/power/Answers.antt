use Rattle.std.proofs.Common.{arith, sym, ◌∙◌}
use Rattle.remainders.proofs.CodePower.{powered-none, powered-more, powered-over, powered-all}
use Rattle.remainders.proofs.power.Goals as goal

pub loop-i-init : goal.loop-i-init
loop-i-init c = rw c.whole-r.ensures (powered-none c.args.c c.args.k)

pub returns-in_default : goal.returns-in_default
returns-in_default c =
    c.no_number.ensures ∙ powered-over c.args.c c.args.k c.loop-i.i c.loop-i.r c.loop-i-test.true c.loop-i.invariant _ (sym c.checked_mul.ensures.is ∙ c.in_default.is)

pub loop-i-preserved : goal.loop-i-preserved
loop-i-preserved c = powered-more c.args.c c.args.k c.loop-i.i c.loop-i.r c.loop-i-test.true c.loop-i.invariant _ (sym c.checked_mul.ensures.is ∙ c.in-Ok.is)

pub returns : goal.returns
returns c = c.worked.ensures ∙ powered-all c.args.c c.args.k c.loop-i.i c.loop-i.r (omega arith) (omega arith) c.loop-i.invariant

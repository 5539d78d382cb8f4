use Rattle.std.proofs.Common.{arith}
use Rattle.text.proofs.Pages.{lays-none, lays-next}
use Rattle.text.proofs.write_bytes.Goals as goal

pub loop-b-init : goal.loop-b-init
loop-b-init c = lays-none _ _

pub loop-b-preserved : goal.loop-b-preserved
loop-b-preserved c = lays-next _ _ _ _ (omega arith) c.loop-b.invariant (c.put-next.ensures.is, c.put-next.ensures.page)

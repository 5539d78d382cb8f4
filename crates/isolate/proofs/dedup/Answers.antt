-- `isolate::dedup` meets its contract: one more root, and the end of the walk.
use Rattle.std.proofs.Common.{arith}
use lib.ListN.{length-drop}
use Rattle.isolate.specs.Answer.{roots_in}
use Rattle.isolate.proofs.Hold.{next_of}
use Rattle.isolate.proofs.Walks.{keeping-more, keeping-end}
use Rattle.isolate.proofs.dedup.Goals as goal

pub loop-i-preserved : goal.loop-i-preserved
loop-i-preserved c =
    let s = c.args in
    let l = c.loop-i in
    let v = l.invariant in
    (v.0, v.1, omega arith, keeping-more s.tol (roots_in s.found) l.i l.out v.3 _ (next_of s.found.len s.found.roots l.i _ (omega (arith, v.0))) c.keep-out.result c.keep-out.ensures)

pub returns : goal.returns
returns c =
    let s = c.args in
    let l = c.loop-i in
    let v = l.invariant in
    keeping-end s.tol (roots_in s.found) l.i l.out v.3 (omega (arith, v.0, length-drop l.i (roots_in s.found)))

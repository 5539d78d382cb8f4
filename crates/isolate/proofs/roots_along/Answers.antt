-- `isolate::roots_along` meets its contract: one more bracket, and the end of the walk.
use Rattle.std.proofs.Common.{arith}
use lib.ListN.{length-drop}
use Rattle.bisect.specs.Bracket.{items_of}
use Rattle.isolate.proofs.Hold.{next_of}
use Rattle.isolate.proofs.Walks.{gathering-more, gathering-end}
use Rattle.isolate.proofs.roots_along.Goals as goal

pub loop-i-preserved : goal.loop-i-preserved
loop-i-preserved c =
    let s = c.args in
    let l = c.loop-i in
    let v = l.invariant in
    (v.0, v.1, omega arith, gathering-more s.row.now s.tol (items_of s.b) l.i l.out v.3 _ (next_of s.b.len s.b.items l.i _ (omega (arith, v.0))) c.root_in.result c.root_in.ensures.is c.place-out.result c.place-out.ensures)

pub returns : goal.returns
returns c =
    let s = c.args in
    let l = c.loop-i in
    let v = l.invariant in
    gathering-end s.row.now s.tol (items_of s.b) l.i l.out v.3 (omega (arith, v.0, length-drop l.i (items_of s.b)))

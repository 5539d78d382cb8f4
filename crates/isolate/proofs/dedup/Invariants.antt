-- The roots that are left, behind those kept, give the whole.
use Rattle.std.proofs.Common.{◌≡◌, ◌-◌, ◌≤◌, length}
use Rattle.isolate.specs.Answer.{roots_in}
use Rattle.isolate.proofs.Walks.{Keeping}
use Rattle.isolate.proofs.dedup.Given as goal

abbrev pub invariant-loop-i : goal.invariant-loop-i
invariant-loop-i l = (l.n ≡ length (roots_in l.found)) × (l.n ≤ 64) × (l.i ≤ l.n) × Keeping l.tol (roots_in l.found) l.i l.out

abbrev pub decreases-loop-i : goal.decreases-loop-i
decreases-loop-i l = l.n - l.i

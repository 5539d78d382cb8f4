-- The brackets that are left, onto the roots found, give the whole.
use Rattle.std.proofs.Common.{◌≡◌, ◌-◌, ◌≤◌, length}
use Rattle.bisect.specs.Bracket.{items_of}
use Rattle.isolate.proofs.Walks.{Gathering}
use Rattle.isolate.proofs.roots_along.Given as goal

abbrev pub invariant-loop-i : goal.invariant-loop-i
invariant-loop-i l = (l.n ≡ length (items_of l.b)) × (l.n ≤ 64) × (l.i ≤ l.n) × Gathering l.row l.tol (items_of l.b) l.i l.out

abbrev pub decreases-loop-i : goal.decreases-loop-i
decreases-loop-i l = l.n - l.i

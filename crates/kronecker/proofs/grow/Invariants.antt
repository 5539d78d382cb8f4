-- `kronecker::grow` meets its contract. The loops' invariant: the combinations and divisors that are left give the whole.
use Prim.Native.Nat.{◌+◌, ◌-◌}
use Rattle.divisors.specs.Walk.{rest}
use Rattle.kronecker.specs.Combinations.{Stored, rows_of}
use Rattle.kronecker.proofs.Rows.{Growing}
use Rattle.kronecker.proofs.grow.Given as goal

abbrev pub invariant-loop-i : goal.invariant-loop-i
invariant-loop-i l = Stored l.out × Growing (rows_of l.j l.old) (rest l.size l.marks 0) l.i (rows_of (l.j + 1) l.out) (rest l.size l.marks 0)

abbrev pub invariant-loop-d : goal.invariant-loop-d
invariant-loop-d l = Stored l.out × Growing (rows_of l.j l.old) (rest l.size l.marks 0) l.i (rows_of (l.j + 1) l.out) (rest l.size l.marks l.at)

abbrev pub decreases-loop-d : goal.decreases-loop-d
decreases-loop-d l = 100 - l.out.len

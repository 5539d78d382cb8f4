-- `divisors::next_mark` meets its contract. The invariant: what is left to walk finds what the whole walk finds.
use mathlib.Core.Path.{◌≡◌}
use Prim.Native.Nat.{◌-◌, ◌≤◌}
use Rattle.divisors.specs.Walk.{mark_from}
use Rattle.divisors.proofs.next_mark.Given as goal

abbrev pub invariant-loop-j : goal.invariant-loop-j
invariant-loop-j l = (l.j ≤ 65536) × (mark_from l.size l.marks (65536 - l.j) l.j ≡ mark_from l.size l.marks (65536 - l.from) l.from)

abbrev pub decreases-loop-j : goal.decreases-loop-j
decreases-loop-j l = 65536 - l.j

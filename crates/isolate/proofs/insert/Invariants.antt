-- What is put down and what is left of the walk give the whole.
use Rattle.std.proofs.Common.{◌≡◌, ◌-◌, ◌<◌, ◌≤◌, length}
use Rattle.isolate.specs.Answer.{roots_in}
use Rattle.isolate.proofs.Slides.{Sliding}
use Rattle.isolate.proofs.insert.Given as goal

abbrev pub invariant-loop-i : goal.invariant-loop-i
invariant-loop-i l = (l.n ≡ length (roots_in l.found)) × (l.n < 64) × (l.i ≤ l.n) × Sliding (roots_in l.found) l.initial.carried l.i l.out l.moving l.carried

abbrev pub decreases-loop-i : goal.decreases-loop-i
decreases-loop-i l = l.n - l.i

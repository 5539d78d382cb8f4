-- `divisors::mark_word` meets its contract. The invariant: the word so far is that of the numbers from first + left on.
use mathlib.Core.Path.{◌≡◌}
use Prim.Native.Nat.{◌+◌, ◌-◌, ◌≤◌}
use Rattle.divisors.specs.Marks.{word_from}
use Rattle.divisors.proofs.mark_word.Given as goal

abbrev pub invariant-loop-left : goal.invariant-loop-left
invariant-loop-left l = (l.left ≤ 64) × (l.word ≡ word_from l.n (64 - l.left) (l.first + l.left))

abbrev pub decreases-loop-left : goal.decreases-loop-left
decreases-loop-left l = l.left

-- `divisors::mark_all` meets its contract. The invariant: the words before w are made, the others are 0.
use Rattle.divisors.proofs.Words.{Filled}
use Rattle.divisors.proofs.mark_all.Given as goal

abbrev pub invariant-loop-w : goal.invariant-loop-w
invariant-loop-w l = Filled l.n l.w l.marks

-- What is left to multiply gives the whole power.
use Rattle.remainders.proofs.CodePower.{Powered}
use Rattle.remainders.proofs.power.Given as goal

abbrev pub invariant-loop-i : goal.invariant-loop-i
invariant-loop-i l = Powered l.c l.k l.i l.r

-- `splitting::split_all` meets its contract. The loop's invariant: the factors that are left give the whole.
use Rattle.yun.specs.Answer.{pieces_of}
use Rattle.splitting.proofs.Onto.{Splitting}
use Rattle.splitting.proofs.split_all.Given as goal

abbrev pub invariant-loop-i : goal.invariant-loop-i
invariant-loop-i l = Splitting (pieces_of l.d) l.budget l.i l.found

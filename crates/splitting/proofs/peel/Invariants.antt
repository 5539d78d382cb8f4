-- `splitting::peel` meets its contract. The loop's invariant: the roots that are left give the whole.
use Rattle.terms.specs.Poly.{terms_of}
use Rattle.yun.specs.Answer.{pieces_of}
use Rattle.splitting.specs.Peel.{start, roots_in}
use Rattle.splitting.proofs.Peels.{Peeling}
use Rattle.splitting.proofs.peel.Given as goal

abbrev pub invariant-loop-i : goal.invariant-loop-i
invariant-loop-i l = Peeling l.times (roots_in l.roots) (start (pieces_of l.fn.found) (terms_of l.fn.f)) l.i l.now l.rest

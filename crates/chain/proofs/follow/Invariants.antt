-- `chain::follow` meets its contract. The loop's invariant: what is left of the chain, behind what is found, gives the whole of it.
use lib.ListN.{length}
use Rattle.terms.specs.Poly.{terms_of}
use Rattle.chain.proofs.CodeFollow.{Going}
use Rattle.chain.proofs.follow.Given as goal

abbrev pub invariant-loop-a : goal.invariant-loop-a
invariant-loop-a l = Going (terms_of l.fn.p) (terms_of l.fn.d) l.out (terms_of l.a) l.b

abbrev pub decreases-loop-a : goal.decreases-loop-a
decreases-loop-a l = length (terms_of l.b)

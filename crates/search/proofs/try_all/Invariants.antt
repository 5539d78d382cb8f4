-- `search::try_all` meets its contract. The loop's invariant: what is left of the first listing gives the whole search.
use Prim.Native.Nat.{◌-◌}
use Rattle.terms.specs.Poly.{terms_of}
use Rattle.divisors.specs.Walk.{rest}
use Rattle.search.proofs.CodeTally.{Searching}
use Rattle.search.proofs.try_all.Given as goal

abbrev pub invariant-loop-d : goal.invariant-loop-d
invariant-loop-d l = Searching (terms_of l.p) l.size l.marks (rest l.lower l.below 0) l.fn.t l.at l.so_far

abbrev pub decreases-loop-d : goal.decreases-loop-d
decreases-loop-d l = 262144 - l.at

-- `search::try_row` meets its contract. The loop's invariant: what is left of the listing gives the whole row.
use Prim.Native.Nat.{◌-◌}
use Rattle.terms.specs.Poly.{terms_of}
use Rattle.search.proofs.CodeTally.{Rowing}
use Rattle.search.proofs.try_row.Given as goal

abbrev pub invariant-loop-d : goal.invariant-loop-d
invariant-loop-d l = Rowing (terms_of l.p) l.n l.size l.marks l.fn.t l.at l.so_far

abbrev pub decreases-loop-d : goal.decreases-loop-d
decreases-loop-d l = 262144 - l.at

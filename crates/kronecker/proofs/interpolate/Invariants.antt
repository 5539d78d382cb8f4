-- `kronecker::interpolate` meets its contract. The loop's invariant: what is left to add gives the whole sum.
use mathlib.Core.List.{[]}
use lib.ListN.{take}
use Rattle.terms.specs.Poly.{terms_of}
use Rattle.kronecker.proofs.Repeats.{Repeating, turn}
use Rattle.kronecker.proofs.interpolate.Given as goal

abbrev pub invariant-loop-i : goal.invariant-loop-i
invariant-loop-i l = Repeating (turn (take l.n l.c.values) l.n) l.n [] l.i (terms_of l.acc)

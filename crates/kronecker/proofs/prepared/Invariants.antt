-- `kronecker::prepared` meets its contract. The loop's invariant: the points so far have their bases.
use mathlib.Core.Path.{◌≡◌}
use lib.ListN.{length}
use Rattle.kronecker.specs.Interpolation.{Serving}
use Rattle.kronecker.proofs.prepared.Given as goal

abbrev pub invariant-loop-i : goal.invariant-loop-i
invariant-loop-i l = (length l.out.rows ≡ 7) × Serving l.n l.i l.out.rows

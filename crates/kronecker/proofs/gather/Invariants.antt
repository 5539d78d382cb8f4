-- `kronecker::gather` meets its contract. The loop's invariant: the points that are left give the whole.
use Rattle.terms.specs.Poly.{terms_of}
use Rattle.kronecker.specs.Combinations.{Stored, rows_of}
use Rattle.kronecker.proofs.Rows.{Gathers}
use Rattle.kronecker.proofs.gather.Given as goal

abbrev pub invariant-loop-j : goal.invariant-loop-j
invariant-loop-j l = Stored l.made × Gathers (terms_of l.f) l.budget l.n l.j (rows_of l.j l.made)

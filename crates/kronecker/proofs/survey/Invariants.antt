-- `kronecker::survey` meets its contract. The loop's invariant: what is left to look at decides.
use Rattle.terms.specs.Poly.{terms_of}
use Rattle.kronecker.proofs.Points.{Surveying}
use Rattle.kronecker.proofs.survey.Given as goal

abbrev pub invariant-loop-j : goal.invariant-loop-j
invariant-loop-j l = Surveying (terms_of l.f) l.n l.j l.fine

-- `kronecker::try_all` meets its contract. The loop's invariant: the combinations that are left decide.
use Rattle.terms.specs.Poly.{terms_of}
use Rattle.kronecker.specs.Combinations.{rows_of}
use Rattle.kronecker.proofs.Trials.{Trying}
use Rattle.kronecker.proofs.try_all.Given as goal

abbrev pub invariant-loop-i : goal.invariant-loop-i
invariant-loop-i l = Trying (terms_of l.f) l.n (rows_of l.n l.all) l.i

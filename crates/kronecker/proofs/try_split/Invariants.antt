-- `kronecker::try_split` meets its contract. The loop's invariant: the degrees that are left decide.
use Rattle.terms.specs.Poly.{terms_of}
use Rattle.kronecker.proofs.Trials.{Rising}
use Rattle.kronecker.proofs.try_split.Given as goal

abbrev pub invariant-loop-k : goal.invariant-loop-k
invariant-loop-k l = Rising (terms_of l.f) l.budget l.m l.k

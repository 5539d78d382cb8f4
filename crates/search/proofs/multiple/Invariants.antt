-- `search::multiple` meets its contract. The loop's invariant: what is left of the denominators gives the whole multiple.
use Rattle.terms.specs.Poly.{terms_of}
use Rattle.search.proofs.CodeClear.{Widened}
use Rattle.search.proofs.multiple.Given as goal

abbrev pub invariant-loop-i : goal.invariant-loop-i
invariant-loop-i l = Widened (terms_of l.p) l.i l.m

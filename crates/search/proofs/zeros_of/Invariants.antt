-- `search::zeros_of` meets its contract. The loop's invariant: the first i coefficients are zeros.
use Rattle.terms.specs.Poly.{terms_of}
use Rattle.search.proofs.CodeStrip.{Zeros}
use Rattle.search.proofs.zeros_of.Given as goal

abbrev pub invariant-loop-i : goal.invariant-loop-i
invariant-loop-i l = Zeros (terms_of l.p) l.i

-- `search::clear` meets its contract. The loop's invariant: the first i coefficients are cleared.
use mathlib.Core.Path.{◌≡◌}
use lib.ListN.{length}
use Rattle.terms.specs.Poly.{terms_of}
use Rattle.search.proofs.CodeArray.{Unfilled}
use Rattle.search.proofs.CodeClear.{Clearing}
use Rattle.search.proofs.clear.Given as goal

abbrev pub invariant-loop-i : goal.invariant-loop-i
invariant-loop-i l = (length l.out.coeffs ≡ 32) × Clearing l.m (terms_of l.p) l.i l.out.coeffs × Unfilled l.i l.out.coeffs

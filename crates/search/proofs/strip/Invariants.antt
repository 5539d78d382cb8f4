-- `search::strip` meets its contract. The loop's invariant: the first i coefficients stand k places lower.
use mathlib.Core.Path.{◌≡◌}
use lib.ListN.{length}
use Rattle.terms.specs.Poly.{terms_of}
use Rattle.search.proofs.CodeArray.{Unfilled}
use Rattle.search.proofs.CodeStrip.{Lowered}
use Rattle.search.proofs.strip.Given as goal

abbrev pub invariant-loop-i : goal.invariant-loop-i
invariant-loop-i l = (length l.out.coeffs ≡ 32) × Lowered l.k (terms_of l.p) l.i l.out.coeffs × Unfilled l.i l.out.coeffs

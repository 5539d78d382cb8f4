-- `kronecker::product` meets its contract. The loop's invariant: what is left to multiply by gives the whole product.
use mathlib.Core.List.{[], ◌∷◌}
use lib.IntN.{pos}
use Rattle.terms.specs.Poly.{terms_of}
use Rattle.terms.specs.Machine.{whole_r}
use Rattle.kronecker.specs.Interpolation.{basis_step}
use Rattle.kronecker.proofs.Repeats.{Repeating}
use Rattle.kronecker.proofs.product.Given as goal

abbrev pub invariant-loop-j : goal.invariant-loop-j
invariant-loop-j l = Repeating (basis_step l.i) l.n (whole_r (pos 1) ∷ []) l.j (terms_of l.acc)

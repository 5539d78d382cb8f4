-- `kronecker::all_whole` meets its contract. The loop's invariant: what is left decides.
use mathlib.Core.Path.{◌≡◌}
use lib.ListN.{drop}
use Rattle.terms.specs.Poly.{terms_of}
use Rattle.kronecker.specs.Points.{all_whole}
use Rattle.kronecker.proofs.all_whole.Given as goal

abbrev pub invariant-loop-i : goal.invariant-loop-i
invariant-loop-i l = all_whole (drop l.i (terms_of l.p)) ≡ all_whole (terms_of l.p)

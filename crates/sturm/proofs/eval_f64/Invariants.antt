-- `sturm::eval_f64` meets its contract. The loop's invariant: the top i coefficients are done.
use mathlib.Core.Path.{◌≡◌}
use Prim.Native.Nat.{◌-◌}
use lib.ListN.{drop}
use Rattle.sturm.specs.Value.{horner}
use Rattle.sturm.proofs.eval_f64.Given as goal

abbrev pub invariant-loop-i : goal.invariant-loop-i
invariant-loop-i l = l.acc ≡ horner (drop (l.n - l.i) l.row) l.x

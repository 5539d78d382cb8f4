-- `search::evaluate` meets its contract. The loop's invariant: what is left to add up gives the whole value.
use mathlib.Core.Path.{◌≡◌}
use Prim.Native.Nat.{◌+◌, ◌*◌}
use Rattle.terms.specs.Poly.{terms_of}
use Rattle.search.proofs.CodeValue.{Valuing}
use Rattle.search.proofs.evaluate.Given as goal

abbrev pub invariant-loop-i : goal.invariant-loop-i
invariant-loop-i l = (l.count ≡ l.steps + 3 * l.i) × Valuing (terms_of l.p) l.x l.steps l.i l.power l.sum l.count

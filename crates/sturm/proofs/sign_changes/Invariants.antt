-- `sturm::sign_changes` meets its contract. The loop's invariant: what was counted and what is left of the walk give all changes.
use Prim.Native.Nat.{◌≤◌}
use lib.ListN.{length}
use Rattle.sturm.proofs.Signs.{Walking}
use Rattle.sturm.proofs.sign_changes.Given as goal

abbrev pub invariant-loop-i : goal.invariant-loop-i
invariant-loop-i l = (l.at ≤ length l.values) × Walking l.values l.sizes l.x l.i l.at l.last l.count

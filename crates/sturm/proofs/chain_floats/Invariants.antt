-- `sturm::chain_floats` meets its contract. The loop's invariant: i rows are written.
use mathlib.Core.Path.{◌≡◌}
use Prim.Native.Nat.{◌≤◌}
use lib.ListN.{length}
use Rattle.chain.specs.Answer.{entries_of}
use Rattle.sturm.proofs.Laid.{Filled}
use Rattle.sturm.proofs.chain_floats.Given as goal

abbrev pub invariant-loop-i : goal.invariant-loop-i
invariant-loop-i l = (l.n ≡ length (entries_of l.c)) × (l.n ≤ 32) × (length l.values ≡ 1024) × (length l.sizes ≡ 32) × (length l.c.polys ≡ 32) × Filled l.c l.i l.at l.values l.sizes

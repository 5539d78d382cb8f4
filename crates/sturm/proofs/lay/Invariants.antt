-- `sturm::lay` meets its contract. The loop's invariant: the first i floats are written.
use mathlib.Core.Path.{◌≡◌}
use Prim.Native.Nat.{◌≤◌}
use lib.ListN.{length}
use lib.Seq.{paste}
use Rattle.terms.specs.Poly.{terms_of}
use Rattle.sturm.specs.Value.{floats_of}
use Rattle.sturm.proofs.lay.Given as goal

abbrev pub invariant-loop-i : goal.invariant-loop-i
invariant-loop-i l = (l.n ≡ length (floats_of (terms_of l.p))) × (l.n ≤ 32) × (length l.p.coeffs ≡ 32) × (length l.out ≡ length l.fn.out) × (l.out ≡ paste l.fn.out l.at (floats_of (terms_of l.p)) l.i)

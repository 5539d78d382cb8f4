-- The search from here on is the whole search.
use Rattle.std.proofs.Common.{◌≡◌, ◌-◌, ◌≤◌, pos}
use lib.Ieee.{binary64, of_int}
use Rattle.bridge.specs.Search.{first_from}
use Rattle.bridge.proofs.f64_to_ratio.Given as goal

abbrev pub invariant-loop-denom : goal.invariant-loop-denom
invariant-loop-denom l = (1 ≤ l.denom) × (l.denom ≤ 1001) × (l.denom_f ≡ of_int binary64 (pos l.denom)) × (first_from (1001 - l.denom) l.denom l.v ≡ first_from 1000 1 l.v)

abbrev pub decreases-loop-denom : goal.decreases-loop-denom
decreases-loop-denom l = 1001 - l.denom

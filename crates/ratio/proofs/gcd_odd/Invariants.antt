-- The loop keeps the greatest common divisor of its two numbers, the first odd, and their sum falls.
use Rattle.std.proofs.Common.{◌≡◌, ◌+◌, ◌%◌}
use Rattle.ratio.specs.Gcd.{gcd_of}
use Rattle.ratio.proofs.gcd_odd.Given as goal

abbrev pub invariant-loop-y : goal.invariant-loop-y
invariant-loop-y l = record { odd : l.x % 2 ≡ 1; same : gcd_of l.x l.y ≡ gcd_of l.a l.b }

abbrev pub decreases-loop-y : goal.decreases-loop-y
decreases-loop-y l = l.x + l.y

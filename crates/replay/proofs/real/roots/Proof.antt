-- `replay::real::roots` is safe and ends.
use Prim.Native.Nat.{◌≤◌, ◌-◌}
use native.Mathlib.Omega.{arith}
use Rattle.replay.proofs.real.roots.Statement.{statement}
use Rattle.replay.proofs.real.roots.Tie as tie

abbrev invariant-loop : tie.invariant-loop-i
invariant-loop «data» from out many pad at₀ fine₀ i₀ at fine i = i ≤ 64

abbrev decreases-loop : tie.decreases-loop-i
decreases-loop «data» from out many pad at₀ fine₀ i₀ at fine i = 64 - i

loop-holds : tie.Need-loop-i-init invariant-loop decreases-loop
loop-holds c = omega arith

mul-x : tie.Need-offset_bounds-out-i invariant-loop decreases-loop
mul-x c = omega arith

element-copy-out-x : tie.Need-bounds-out-i invariant-loop decreases-loop
element-copy-out-x c = omega arith

real-requires : tie.Need-real-want-requires invariant-loop decreases-loop
real-requires c κs = tt

same-requires : tie.Need-same-requires invariant-loop decreases-loop
same-requires c κs = tt

same-requires-2 : tie.Need-same-requires-else-i-many invariant-loop decreases-loop
same-requires-2 c κs = tt

add-i : tie.Need-overflow_add-i invariant-loop decreases-loop
add-i c = omega arith

loop-less : tie.Need-loop-i-smaller invariant-loop decreases-loop
loop-less c = omega arith

loop-again : tie.Need-loop-i-preserved invariant-loop decreases-loop
loop-again c = omega arith

returns : tie.Need-returns invariant-loop decreases-loop
returns c = tt

pub roots_spec : {M : Type 1} → statement M
roots_spec =
    tie.close
    (tie.spec
    invariant-loop
    decreases-loop
    loop-holds
    mul-x
    element-copy-out-x
    real-requires
    same-requires
    same-requires-2
    add-i
    loop-less
    loop-again
    returns)

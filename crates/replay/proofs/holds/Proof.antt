-- `replay::holds` is safe and ends.
use Prim.Native.Nat.{◌≤◌, ◌-◌}
use native.Mathlib.Omega.{arith}
use Rattle.replay.proofs.holds.Statement.{statement}
use Rattle.replay.proofs.holds.Tie as tie

abbrev invariant-loop : tie.invariant-loop-i
invariant-loop out pad want n i₀ i = i ≤ 32

abbrev decreases-loop : tie.decreases-loop-i
decreases-loop out pad want n i₀ i = 32 - i

loop-holds : tie.Need-loop-i-init invariant-loop decreases-loop
loop-holds c = omega arith

mul-x : tie.Need-offset_bounds-out-i invariant-loop decreases-loop
mul-x c = omega arith

element-copy-out-x : tie.Need-bounds-out-i invariant-loop decreases-loop
element-copy-out-x c = omega arith

mul-y : tie.Need-offset_bounds-want-i invariant-loop decreases-loop
mul-y c = omega arith

element-copy-out-y : tie.Need-bounds-want-i invariant-loop decreases-loop
element-copy-out-y c = omega arith

returns : tie.Need-returns-then-x-y invariant-loop decreases-loop
returns c = tt

returns-2 : tie.Need-returns-then-x-pad invariant-loop decreases-loop
returns-2 c = tt

add-i : tie.Need-overflow_add-i invariant-loop decreases-loop
add-i c = omega arith

loop-less : tie.Need-loop-i-smaller invariant-loop decreases-loop
loop-less c = omega arith

loop-again : tie.Need-loop-i-preserved invariant-loop decreases-loop
loop-again c = omega arith

returns-3 : tie.Need-returns invariant-loop decreases-loop
returns-3 c = tt

pub holds_spec : {M : Type 1} → statement M
holds_spec =
    tie.close
    (tie.spec
    invariant-loop
    decreases-loop
    loop-holds
    mul-x
    element-copy-out-x
    mul-y
    element-copy-out-y
    returns
    returns-2
    add-i
    loop-less
    loop-again
    returns-3)

-- `replay::real::page` is safe and ends.
use Prim.Native.Nat.{◌≤◌, ◌-◌}
use native.Mathlib.Omega.{arith}
use Rattle.replay.proofs.real.page.Statement.{statement}
use Rattle.replay.proofs.real.page.Tie as tie

abbrev invariant-loop : tie.invariant-loop-i
invariant-loop «data» from out many fine₀ i₀ fine i = i ≤ 1024

abbrev decreases-loop : tie.decreases-loop-i
decreases-loop «data» from out many fine₀ i₀ fine i = 1024 - i

returns : tie.Need-returns-then-from-ge130000 invariant-loop decreases-loop
returns c = tt

loop-holds : tie.Need-loop-i-init invariant-loop decreases-loop
loop-holds c = omega arith

element-copy-out-x : tie.Need-bounds-out-i invariant-loop decreases-loop
element-copy-out-x c = omega arith

add-if3 : tie.Need-overflow_add-from invariant-loop decreases-loop
add-if3 c = omega arith

element-copy-out-if3 : tie.Need-bounds-data-from invariant-loop decreases-loop
element-copy-out-if3 c = omega arith

add-i : tie.Need-overflow_add-i invariant-loop decreases-loop
add-i c = omega arith

loop-less : tie.Need-loop-i-smaller invariant-loop decreases-loop
loop-less c = omega arith

loop-again : tie.Need-loop-i-preserved invariant-loop decreases-loop
loop-again c = omega arith

add-t19 : tie.Need-overflow_add-result invariant-loop decreases-loop
add-t19 c = omega arith

add-t20 : tie.Need-overflow_add-result-2 invariant-loop decreases-loop
add-t20 c = omega arith

returns-2 : tie.Need-returns invariant-loop decreases-loop
returns-2 c = tt

pub page_spec : {M : Type 1} → statement M
page_spec =
    tie.close
    (tie.spec
    invariant-loop
    decreases-loop
    returns
    loop-holds
    element-copy-out-x
    add-if3
    element-copy-out-if3
    add-i
    loop-less
    loop-again
    add-t19
    add-t20
    returns-2)

-- `replay::natural` is safe and ends.
use Prim.Native.Nat.{◌-◌}
use native.Mathlib.Omega.{arith}
use Rattle.replay.proofs.natural.Statement.{statement}
use Rattle.replay.proofs.natural.Tie as tie

abbrev invariant-loop : tie.invariant-loop-at
invariant-loop «data» from value₀ at₀ value at = Unit {0}

abbrev decreases-loop : tie.decreases-loop-at
decreases-loop «data» from value₀ at₀ value at = 131072 - at

loop-holds : tie.Need-loop-at-init invariant-loop decreases-loop
loop-holds c = omega arith

element-copy-out-b : tie.Need-bounds-data-at invariant-loop decreases-loop
element-copy-out-b c = omega arith

add-t10 : tie.Need-overflow_add-result invariant-loop decreases-loop
add-t10 c = omega arith

returns : tie.Need-returns-then-b-lt48 invariant-loop decreases-loop
returns c = omega arith

add-t11 : tie.Need-overflow_add-result-then-b-gt57 invariant-loop decreases-loop
add-t11 c = omega arith

returns-2 : tie.Need-returns-then-b-gt57 invariant-loop decreases-loop
returns-2 c = omega arith

mul-value : tie.Need-overflow_mul-value invariant-loop decreases-loop
mul-value c = omega arith

cast-value : tie.Need-overflow_cast-value invariant-loop decreases-loop
cast-value c = omega arith

add-value : tie.Need-overflow_add-value invariant-loop decreases-loop
add-value c = omega arith

add_at : tie.Need-overflow_add-at invariant-loop decreases-loop
add_at c = omega arith

loop-less : tie.Need-loop-at-smaller invariant-loop decreases-loop
loop-less c = omega arith

loop-again : tie.Need-loop-at-preserved invariant-loop decreases-loop
loop-again c = omega arith

returns-3 : tie.Need-returns invariant-loop decreases-loop
returns-3 c = omega arith

pub natural_spec : {M : Type 1} → statement M
natural_spec =
    tie.close
    (tie.spec
    invariant-loop
    decreases-loop
    loop-holds
    element-copy-out-b
    add-t10
    returns
    add-t11
    returns-2
    mul-value
    cast-value
    add-value
    add_at
    loop-less
    loop-again
    returns-3)

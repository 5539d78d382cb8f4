-- `replay::all` is safe and ends.
use Prim.Native.Nat.{◌≤◌, ◌-◌}
use native.Mathlib.Omega.{arith}
use Rattle.replay.proofs.all.Statement.{statement}
use Rattle.replay.proofs.all.Tie as tie

abbrev invariant-loop : tie.invariant-loop-count
invariant-loop «data» len at₀ differ₀ count₀ at differ count = (differ ≤ count) × (count ≤ 1000)

abbrev decreases-loop : tie.decreases-loop-count
decreases-loop «data» len at₀ differ₀ count₀ at differ count = 1000 - count

loop-holds : tie.Need-loop-count-init invariant-loop decreases-loop
loop-holds c = (omega arith, omega arith)

returns : tie.Need-returns-then-at-len invariant-loop decreases-loop
returns c = tt

line-requires : tie.Need-line-r-requires invariant-loop decreases-loop
line-requires c κs = tt

one-unless-requires : tie.Need-one_unless-differ-requires invariant-loop decreases-loop
one-unless-requires c κs = tt

add-differ : tie.Need-overflow_add-differ invariant-loop decreases-loop
add-differ c = omega arith

add-count : tie.Need-overflow_add-count invariant-loop decreases-loop
add-count c = omega arith

loop-less : tie.Need-loop-count-smaller invariant-loop decreases-loop
loop-less c = omega arith

loop-again : tie.Need-loop-count-preserved invariant-loop decreases-loop
loop-again c = (omega arith, omega arith)

returns-2 : tie.Need-returns invariant-loop decreases-loop
returns-2 c = tt

pub all_spec : {M : Type 1} → statement M
all_spec =
    tie.close
    (tie.spec
    invariant-loop
    decreases-loop
    loop-holds
    returns
    line-requires
    one-unless-requires
    add-differ
    add-count
    loop-less
    loop-again
    returns-2)

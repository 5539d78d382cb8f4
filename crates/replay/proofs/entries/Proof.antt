-- `replay::entries` is safe and ends.
use mathlib.Core.Path.{◌≡◌, refl, ◌∙◌}
use lib.ListN.{length, length-set}
use Prim.Native.Nat.{◌≤◌, ◌-◌}
use native.Mathlib.Omega.{arith}
use Rattle.replay.proofs.entries.Statement.{statement}
use Rattle.replay.proofs.entries.Tie as tie

abbrev invariant-loop : tie.invariant-loop-i
invariant-loop «data» from n items₀ at₀ i₀ items at i = (i ≤ 40) × (length items ≡ 40)

abbrev decreases-loop : tie.decreases-loop-i
decreases-loop «data» from n items₀ at₀ i₀ items at i = 40 - i

natural-requires : tie.Need-natural-n-requires invariant-loop decreases-loop
natural-requires c κs = tt

loop-holds : tie.Need-loop-i-init invariant-loop decreases-loop
loop-holds c = (omega arith, refl)

returns : tie.Need-returns-then-i-n invariant-loop decreases-loop
returns c = omega arith

whole-requires : tie.Need-whole-w-requires invariant-loop decreases-loop
whole-requires c κs = tt

mul-items : tie.Need-offset_bounds-items-i invariant-loop decreases-loop
mul-items c = omega arith

array-set-from-items : tie.Need-bounds-items-i invariant-loop decreases-loop
array-set-from-items c = omega arith

add-i : tie.Need-overflow_add-i invariant-loop decreases-loop
add-i c = omega arith

loop-less : tie.Need-loop-i-smaller invariant-loop decreases-loop
loop-less c = omega arith

loop-again : tie.Need-loop-i-preserved invariant-loop decreases-loop
loop-again c = (omega arith, length-set c.loop-i.items c.loop-i.i _ ∙ c.loop-i.invariant.1)

returns-2 : tie.Need-returns invariant-loop decreases-loop
returns-2 c = omega arith

pub entries_spec : {M : Type 1} → statement M
entries_spec =
    tie.close
    (tie.spec
    invariant-loop
    decreases-loop
    natural-requires
    loop-holds
    returns
    whole-requires
    mul-items
    array-set-from-items
    add-i
    loop-less
    loop-again
    returns-2)

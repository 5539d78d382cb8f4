-- `poly::parts_lowest` meets its contract. The loop's invariant: what is left decides.
use mathlib.Core.Path.{◌≡◌, refl, sym, ap, ◌∙◌}
use Prim.Native.Nat.{◌≤◌, ◌-◌}
use native.Mathlib.Omega.{arith}
use lib.ListN.{length, drop, get_or}
use borrow.Author.Tests.{not-true, not-false}
use Rattle.ratio.specs.Refusal.{zero_r}
use Rattle.ratio.specs.Step.{is_lowest}
use Rattle.poly.specs.Door.{all_lowest}
use Rattle.poly.specs.Parts.{paired}
use Rattle.poly.proofs.Canonical.{lowest-more, lowest-fails, lowest-end}
use Rattle.poly.proofs.Parts.{paired-length, paired-read, parts-bad, parts_none, parts-some}
use Rattle.poly.proofs.parts_lowest.Statement.{statement}
use Rattle.poly.proofs.parts_lowest.Tie as tie

abbrev invariant-loop : tie.invariant-loop-i
invariant-loop nums dens n i₀ i =
    (n ≡ length nums) × (length nums ≡ length dens) × (i ≤ n) × (all_lowest (drop i (paired nums dens)) ≡ all_lowest (paired nums dens))

abbrev decreases-loop : tie.decreases-loop-i
decreases-loop nums dens n i₀ i = n - i

loop-holds : tie.Need-loop-i-init invariant-loop decreases-loop
loop-holds c = (refl, c.requires, omega arith, refl)

mul-t7 : tie.Need-offset_bounds-nums-i invariant-loop decreases-loop
mul-t7 c = omega arith

shared-slice-copy-out-t9 : tie.Need-bounds-nums-i invariant-loop decreases-loop
shared-slice-copy-out-t9 c = omega arith

mul-t10 : tie.Need-offset_bounds-dens-i invariant-loop decreases-loop
mul-t10 c = omega arith

shared-slice-copy-out-t12 : tie.Need-bounds-dens-i invariant-loop decreases-loop
shared-slice-copy-out-t12 c = omega arith

is-lowest-requires : tie.Need-is_lowest-requires invariant-loop decreases-loop
is-lowest-requires c κs = tt

-- the test of turn i
test : (c : tie.After-is_lowest invariant-loop decreases-loop) → is_lowest (get_or (paired c.args.nums.now c.args.dens.now) c.loop-i.i zero_r) ≡ c.is_lowest.result
test c =
    let l = c in
    let s = l.args in
    ap is_lowest (sym (paired-read s.nums.now s.dens.now l.loop-i.i l.loop-i.invariant.1 (omega arith) (record { sfits = c.c-1.given }) (record { sfits = c.c-in-loop-i-1.given }))) ∙ sym c.is_lowest.ensures.0

returns : tie.Need-returns-then-not-is_lowest invariant-loop decreases-loop
returns c =
    let l = c in
    let s = l.args in
    parts-bad s.nums.now s.dens.now
    (lowest-fails (paired s.nums.now s.dens.now) l.loop-i.i zero_r (omega (arith, paired-length s.nums.now s.dens.now l.loop-i.invariant.1)) (test c.before ∙ not-true _ c.if-not-is_lowest.true-raw) ∙ l.loop-i.invariant.3)

add-i : tie.Need-overflow_add-i invariant-loop decreases-loop
add-i c = omega arith

loop-less : tie.Need-loop-i-smaller invariant-loop decreases-loop
loop-less c = omega arith

loop-again : tie.Need-loop-i-preserved invariant-loop decreases-loop
loop-again c =
    let l = c in
    let s = l.args in (
      l.loop-i.invariant.0,
      l.loop-i.invariant.1,
      omega arith,
      lowest-more (paired s.nums.now s.dens.now) l.loop-i.i zero_r (omega (arith, paired-length s.nums.now s.dens.now l.loop-i.invariant.1)) (test c.before ∙ not-false _ c.if-not-is_lowest.false-raw) ∙ l.loop-i.invariant.3,
    )

returns-2 : tie.Need-returns-then-n-eq0 invariant-loop decreases-loop
returns-2 c =
    let s = c.args in
    parts_none s.nums.now s.dens.now c.if-n-eq0.true

sub-result : tie.Need-overflow_sub-result invariant-loop decreases-loop
sub-result c = omega arith

mul-result : tie.Need-offset_bounds-nums-n invariant-loop decreases-loop
mul-result c = omega arith

shared-slice-copy-out-result : tie.Need-bounds-nums-n invariant-loop decreases-loop
shared-slice-copy-out-result c = omega arith

returns-3 : tie.Need-returns invariant-loop decreases-loop
returns-3 c =
    let l = c in
    let s = l.args in
    parts-some s.nums.now s.dens.now l.loop-i.invariant.1 c.if-n-eq0.false
    (lowest-end (paired s.nums.now s.dens.now) l.loop-i.i (omega (arith, paired-length s.nums.now s.dens.now l.loop-i.invariant.1)) ∙ l.loop-i.invariant.3) (record { sfits = c.result-1.given })

pub parts_lowest_spec : {M : Type 1} → statement M
parts_lowest_spec =
    tie.close
    (tie.spec
    invariant-loop
    decreases-loop
    loop-holds
    mul-t7
    shared-slice-copy-out-t9
    mul-t10
    shared-slice-copy-out-t12
    is-lowest-requires
    returns
    add-i
    loop-less
    loop-again
    returns-2
    sub-result
    mul-result
    shared-slice-copy-out-result
    returns-3)

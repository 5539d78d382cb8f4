-- `poly::all_unused` meets its contract. The loop's invariant: what is left decides.
use mathlib.Core.Path.{◌≡◌, refl, sym, ◌∙◌}
use Prim.Native.Nat.{◌≤◌, ◌-◌}
use native.Mathlib.Omega.{arith}
use lib.ListN.{length, drop}
use borrow.Author.Rules.{rules}
use borrow.Author.Tests.{not-true, not-false}
use Rattle.terms.proofs.Lists.{long, past}
use Rattle.poly.specs.Door.{all_unused}
use Rattle.poly.proofs.Canonical.{unused-more, unused-fails, unused-end}
use Rattle.poly.proofs.all_unused.Statement.{statement}
use Rattle.poly.proofs.all_unused.Tie as tie

abbrev invariant-loop : tie.invariant-loop-i
invariant-loop p i₀ i =
    (i ≤ 32) × (length p.coeffs ≡ 32) × (all_unused (drop i p.coeffs) ≡ all_unused (drop p.len p.coeffs))

abbrev decreases-loop : tie.decreases-loop-i
decreases-loop p i₀ i = 32 - i

loop-holds : tie.Need-loop-i-init invariant-loop decreases-loop
loop-holds c =
    let s = c.args.p in
    let e : length s.coeffs ≡ 32 = search (rules, long) in
    (omega arith, e, refl)

mul-c : tie.Need-offset_bounds-p-i invariant-loop decreases-loop
mul-c c = omega arith

element-copy-out-c : tie.Need-bounds-p-i invariant-loop decreases-loop
element-copy-out-c c = omega arith

is-unused-requires : tie.Need-is_unused-requires invariant-loop decreases-loop
is-unused-requires c κs = tt

returns : tie.Need-returns-then-not-is_unused invariant-loop decreases-loop
returns c =
    let l = c in
    unused-fails l.args.p.coeffs l.loop-i.i past (omega arith) (sym c.is_unused.ensures ∙ not-true _ c.if-not-is_unused.true-raw) ∙ l.loop-i.invariant.2

add-i : tie.Need-overflow_add-i invariant-loop decreases-loop
add-i c = omega arith

loop-less : tie.Need-loop-i-smaller invariant-loop decreases-loop
loop-less c = omega arith

loop-again : tie.Need-loop-i-preserved invariant-loop decreases-loop
loop-again c =
    let l = c in
    (omega arith, l.loop-i.invariant.1, unused-more l.args.p.coeffs l.loop-i.i past (omega arith) (sym c.is_unused.ensures ∙ not-false _ c.if-not-is_unused.false-raw) ∙ l.loop-i.invariant.2)

returns-2 : tie.Need-returns invariant-loop decreases-loop
returns-2 c =
    let l = c in
    unused-end l.args.p.coeffs l.loop-i.i (omega arith) ∙ l.loop-i.invariant.2

pub all_unused_spec : {M : Type 1} → statement M
all_unused_spec =
    tie.close
    (tie.spec
    invariant-loop
    decreases-loop
    loop-holds
    mul-c
    element-copy-out-c
    is-unused-requires
    returns
    add-i
    loop-less
    loop-again
    returns-2)

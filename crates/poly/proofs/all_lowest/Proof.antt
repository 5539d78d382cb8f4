-- `poly::all_lowest` meets its contract. The loop's invariant: what is left decides.
use mathlib.Core.Path.{◌≡◌, refl, sym, ap, ◌∙◌}
use Prim.Native.Nat.{◌≤◌, ◌-◌}
use native.Mathlib.Omega.{arith}
use lib.ListN.{length, drop, get_or}
use borrow.Author.Rules.{rules}
use borrow.Author.Tests.{not-true, not-false}
use Rattle.ratio.specs.Refusal.{zero_r}
use Rattle.ratio.specs.Step.{is_lowest}
use Rattle.terms.specs.Poly.{terms_of}
use Rattle.terms.proofs.Lists.{long, past, within-32, read-terms}
use Rattle.poly.specs.Door.{all_lowest}
use Rattle.poly.proofs.Canonical.{lowest-more, lowest-fails, lowest-end}
use Rattle.poly.proofs.all_lowest.Statement.{statement}
use Rattle.poly.proofs.all_lowest.Tie as tie

abbrev invariant-loop : tie.invariant-loop-i
invariant-loop p n i₀ i =
    (n ≡ length (terms_of p)) × (n ≤ 32) × (i ≤ n) × (length p.coeffs ≡ 32) × (all_lowest (drop i (terms_of p)) ≡ all_lowest (terms_of p))

abbrev decreases-loop : tie.decreases-loop-i
decreases-loop p n i₀ i = n - i

length-requires : tie.Need-length-n-requires invariant-loop decreases-loop
length-requires c κs = tt

loop-holds : tie.Need-loop-i-init invariant-loop decreases-loop
loop-holds c =
    let s = c.args.p in
    let e : length s.coeffs ≡ 32 = search (rules, long) in
    (c.length-n.ensures, omega (arith, c.length-n.ensures, within-32 s.len s.coeffs e), omega arith, e, refl)

mul-c : tie.Need-offset_bounds-p-i invariant-loop decreases-loop
mul-c c = omega arith

element-copy-out-c : tie.Need-bounds-p-i invariant-loop decreases-loop
element-copy-out-c c = omega arith

is-lowest-requires : tie.Need-is_lowest-requires invariant-loop decreases-loop
is-lowest-requires c κs = tt

-- the test of turn i
test : (c : tie.After-is_lowest invariant-loop decreases-loop) → is_lowest (get_or (terms_of c.args.p) c.loop-i.i zero_r) ≡ c.is_lowest.result
test c =
    let l = c in
    let s = l.args.p in
    ap is_lowest (sym (read-terms s.len s.coeffs l.loop-i.i past zero_r (omega arith))) ∙ sym c.is_lowest.ensures.0

returns : tie.Need-returns-then-not-is_lowest invariant-loop decreases-loop
returns c =
    let l = c in
    let s = l.args.p in
    lowest-fails (terms_of s) l.loop-i.i zero_r (omega arith) (test c.before ∙ not-true _ c.if-not-is_lowest.true-raw) ∙ l.loop-i.invariant.4

add-i : tie.Need-overflow_add-i invariant-loop decreases-loop
add-i c = omega arith

loop-less : tie.Need-loop-i-smaller invariant-loop decreases-loop
loop-less c = omega arith

loop-again : tie.Need-loop-i-preserved invariant-loop decreases-loop
loop-again c =
    let l = c in
    let s = l.args.p in
    (l.loop-i.invariant.0, l.loop-i.invariant.1, omega arith, l.loop-i.invariant.3, lowest-more (terms_of s) l.loop-i.i zero_r (omega arith) (test c.before ∙ not-false _ c.if-not-is_lowest.false-raw) ∙ l.loop-i.invariant.4)

returns-2 : tie.Need-returns invariant-loop decreases-loop
returns-2 c =
    let l = c in
    lowest-end (terms_of l.args.p) l.loop-i.i (omega arith) ∙ l.loop-i.invariant.4

pub all_lowest_spec : {M : Type 1} → statement M
all_lowest_spec =
    tie.close
    (tie.spec
    invariant-loop
    decreases-loop
    length-requires
    loop-holds
    mul-c
    element-copy-out-c
    is-lowest-requires
    returns
    add-i
    loop-less
    loop-again
    returns-2)

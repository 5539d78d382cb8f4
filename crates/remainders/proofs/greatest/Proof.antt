-- `remainders::greatest` meets its contract. The loop's invariant: what is left of the divisions gives the whole gcd.
use mathlib.Core.Path.{◌∙◌}
use native.Mathlib.Omega.{arith}
use lib.ListN.{length}
use borrow.Author.Rules.{rules}
use Rattle.terms.specs.Poly.{terms_of}
use Rattle.terms.proofs.Lists.{long, within-32}
use Rattle.remainders.proofs.CodeGcd.{Dividing, dividing-none, dividing-more, dividing-all, dividing-refused, rest-less, steps-few, sum-few, monic-few}
use Rattle.remainders.proofs.greatest.Statement.{statement}
use Rattle.remainders.proofs.greatest.Tie as tie

abbrev invariant-loop : tie.invariant-loop-v
invariant-loop u₀ v₀ steps₀ u v steps = Dividing (terms_of u₀) (terms_of v₀) (terms_of u) (terms_of v) steps

abbrev decreases-loop : tie.decreases-loop-v
decreases-loop u₀ v₀ steps₀ u v steps = length (terms_of v)

loop-holds : tie.Need-loop-v-init invariant-loop decreases-loop
loop-holds c =
    let s = c.args in
    dividing-none (terms_of s.a) (terms_of s.b) (within-32 s.a.len s.a.coeffs (search (rules, long))) (within-32 s.b.len s.b.coeffs (search (rules, long)))

length-requires : tie.Need-length-requires invariant-loop decreases-loop
length-requires c κs = tt

divide-requires : tie.Need-divide-d-requires invariant-loop decreases-loop
divide-requires c κs = tt

add-steps : tie.Need-overflow_add-steps invariant-loop decreases-loop
add-steps c =
    let d = c in
    let l = d in
    let s = l.args in
    omega (arith, sum-few (terms_of s.a) (terms_of s.b) (terms_of l.loop-v.u) (terms_of l.loop-v.v) l.loop-v.steps l.loop-v.invariant d.divide-d.result (omega (arith, d.length.ensures)) d.divide-d.ensures)

enum_told : tie.Need-enum_told-1 invariant-loop decreases-loop
enum_told c = search rules

refused-requires : tie.Need-refused-requires invariant-loop decreases-loop
refused-requires c κs = tt

returns : tie.Need-returns-in-Err invariant-loop decreases-loop
returns c =
    let d = c in
    let l = d in
    let s = l.args in
    c.refused.ensures ∙ dividing-refused (terms_of s.a) (terms_of s.b) (terms_of l.loop-v.u) (terms_of l.loop-v.v) l.loop-v.steps l.loop-v.invariant d.divide-d.result (omega (arith, d.length.ensures)) d.divide-d.ensures _ c.in-Err.is

enum-told-2 : tie.Need-enum_told-in_default invariant-loop decreases-loop
enum-told-2 c = search rules

loop-less : tie.Need-loop-v-smaller invariant-loop decreases-loop
loop-less c =
    let d = c in
    let l = d in
    let s = l.args in
    rest-less (terms_of s.a) (terms_of s.b) (terms_of l.loop-v.u) (terms_of l.loop-v.v) l.loop-v.steps l.loop-v.invariant d.divide-d.result (omega (arith, d.length.ensures)) d.divide-d.ensures c.in_default.is

loop-again : tie.Need-loop-v-preserved invariant-loop decreases-loop
loop-again c =
    let d = c in
    let l = d in
    let s = l.args in
    dividing-more (terms_of s.a) (terms_of s.b) (terms_of l.loop-v.u) (terms_of l.loop-v.v) l.loop-v.steps l.loop-v.invariant d.divide-d.result (omega (arith, d.length.ensures)) d.divide-d.ensures c.in_default.is

monic-requires : tie.Need-monic-requires invariant-loop decreases-loop
monic-requires c κs = tt

later-requires : tie.Need-later-requires invariant-loop decreases-loop
later-requires c κs =
    let l = c in
    let s = l.args in
    (omega (arith, steps-few (terms_of s.a) (terms_of s.b) (terms_of l.loop-v.u) (terms_of l.loop-v.v) l.loop-v.steps l.loop-v.invariant), omega (arith, monic-few (terms_of s.a) (terms_of s.b) (terms_of l.loop-v.u) (terms_of l.loop-v.v) l.loop-v.steps l.loop-v.invariant c.monic.result (omega (arith, c.length.ensures)) c.monic.ensures))

returns-2 : tie.Need-returns invariant-loop decreases-loop
returns-2 c =
    let m = c in
    let l = m in
    let s = l.args in
    c.later.ensures ∙ dividing-all (terms_of s.a) (terms_of s.b) (terms_of l.loop-v.u) (terms_of l.loop-v.v) l.loop-v.steps l.loop-v.invariant m.monic.result (omega (arith, m.length.ensures)) m.monic.ensures

pub greatest_spec : {M : Type 1} → statement M
greatest_spec =
    tie.close
    (tie.spec
    invariant-loop
    decreases-loop
    loop-holds
    length-requires
    divide-requires
    add-steps
    enum_told
    refused-requires
    returns
    enum-told-2
    loop-less
    loop-again
    monic-requires
    later-requires
    returns-2)

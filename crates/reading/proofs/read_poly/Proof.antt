-- `reading::read_poly` meets its contract. The loop's invariant: the words before this place gave these coefficients, and the rest decides.
use Rattle.std.specs.Prelude.{Ok}
use mathlib.Core.Path.{◌≡◌, sym, ◌∙◌}
use Prim.Native.Nat.{◌-◌, ◌≤◌}
use native.Mathlib.Omega.{arith}
use borrow.Author.Rules.{rules}
use lib.ListN.{length, take, drop}
use Rattle.tokens.proofs.Heights.{end-within}
use Rattle.reading.specs.Numbers.{ratio_from}
use Rattle.reading.proofs.Polys.{poly-both}
use Rattle.reading.proofs.Turns.{Under, under_none, turn-bad, turn_end, turn_more}
use Rattle.reading.proofs.read_poly.Statement.{statement}
use Rattle.reading.proofs.read_poly.Tie as tie

abbrev invariant-loop : tie.invariant-loop-at
invariant-loop text p₀ at₀ p at = Under text at p

abbrev decreases-loop : tie.decreases-loop-at
decreases-loop text p₀ at₀ p at = length text - at

zero-requires : tie.Need-zero-p-requires invariant-loop decreases-loop
zero-requires c κs = tt

loop-holds : tie.Need-loop-at-init invariant-loop decreases-loop
loop-holds c = under_none c.args.text.now c.zero-p.result c.zero-p.ensures

word-end-requires : tie.Need-word_end-end-requires invariant-loop decreases-loop
word-end-requires c κs = tt

sub-read-ratio : tie.Need-slice_bounds-read_ratio-count invariant-loop decreases-loop
sub-read-ratio c = omega (arith, c.word_end-end.ensures)

part-read-ratio-start : tie.Need-slice_bounds-read_ratio-start invariant-loop decreases-loop
part-read-ratio-start c = search rules

-- the word ends within the text
inside : (c : tie.After-word_end-end invariant-loop decreases-loop) → c.word_end-end.result ≤ length c.args.text.now
inside c =
    let l = c in
    end-within l.args.text.now l.loop-at.at c.word_end-end.result l.loop-at.invariant.inside c.word_end-end.ensures

part-read-ratio-end : tie.Need-slice_bounds-read_ratio-end invariant-loop decreases-loop
part-read-ratio-end c = inside c

read-ratio-requires : tie.Need-read_ratio-requires invariant-loop decreases-loop
read-ratio-requires c κs = tt

enum-known-c : tie.Need-enum_known-c invariant-loop decreases-loop
enum-known-c c = c.in-Ok-1.keys1

enum_told : tie.Need-enum_told-1 invariant-loop decreases-loop
enum_told c = c.in_default-1.keys2

bad-requires : tie.Need-bad-requires invariant-loop decreases-loop
bad-requires c κs = tt

returns : tie.Need-returns-in_default invariant-loop decreases-loop
returns c =
    let r = c in
    let w = r in
    let l = w in
    poly-both l.args.text.now
    (c.bad.ensures ∙ turn-bad l.args.text.now l.loop-at.at l.loop-at.p l.loop-at.invariant w.word_end-end.result w.word_end-end.ensures (sym r.read_ratio.ensures.0 ∙ c.in_default.is))

top-requires : tie.Need-top-requires invariant-loop decreases-loop
top-requires c κs = tt

-- the coefficient that the word spells
got : (c : tie.In-Ok invariant-loop decreases-loop) → ratio_from (take (c.word_end-end.result - c.loop-at.at) (drop c.loop-at.at c.args.text.now)) ≡ Ok c.in-Ok.c
got c = sym c.read_ratio.ensures.0 ∙ c.in-Ok.is

returns-2 : tie.Need-returns-then-end-text invariant-loop decreases-loop
returns-2 c =
    let k = c in
    let w = k in
    let l = w in
    poly-both l.args.text.now
    (c.top.ensures l.loop-at.invariant.list l.loop-at.invariant.holds
    ∙ turn_end l.args.text.now l.loop-at.at l.loop-at.p l.loop-at.invariant w.word_end-end.result w.word_end-end.ensures (got k.before.before) c.if-end-text.true)

push-requires : tie.Need-push-p-requires invariant-loop decreases-loop
push-requires c κs =
    let l = c in
    omega (arith, l.loop-at.invariant.holds.count, l.loop-at.invariant.few, l.loop-at.invariant.inside)

add_at : tie.Need-overflow_add-at invariant-loop decreases-loop
add_at c = let k = c in omega (arith, inside k.before.before.before.before.before, c.if-end-text.false)

loop-less : tie.Need-loop-at-smaller invariant-loop decreases-loop
loop-less c =
    let k = c in
    let w = k in
    omega (arith, inside w.before.before.before.before.before, c.if-end-text.false, w.word_end-end.ensures)

loop-again : tie.Need-loop-at-preserved invariant-loop decreases-loop
loop-again c =
    let k = c in
    let w = k in
    let l = w in
    turn_more l.args.text.now l.loop-at.at l.loop-at.p l.loop-at.invariant w.word_end-end.result w.word_end-end.ensures (got k.before.before) c.if-end-text.false c.push-p.result (c.push-p.ensures l.loop-at.invariant.list l.loop-at.invariant.holds)

bad-requires-2 : tie.Need-bad-requires-2 invariant-loop decreases-loop
bad-requires-2 c κs = tt

returns-3 : tie.Need-returns invariant-loop decreases-loop
returns-3 c = let l = c in absurd (omega (arith, l.loop-at.invariant.inside, c.loop-at-test.false))

pub read_poly_spec : {M : Type 1} → statement M
read_poly_spec =
    tie.close
    (tie.spec
    invariant-loop
    decreases-loop
    zero-requires
    loop-holds
    word-end-requires
    sub-read-ratio
    part-read-ratio-start
    part-read-ratio-end
    read-ratio-requires
    enum-known-c
    enum_told
    bad-requires
    returns
    top-requires
    returns-2
    push-requires
    add_at
    loop-less
    loop-again
    bad-requires-2
    returns-3)

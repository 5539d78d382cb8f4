-- `yun::rounds` meets its contract. The loop's invariant: what is left of the rounds gives all of them.
use mathlib.Core.Path.{◌≡◌, ap, ◌∙◌}
use mathlib.Core.List.{[]}
use Prim.Native.Nat.{◌-◌, ◌≤◌}
use native.Mathlib.Omega.{arith}
use lib.ListN.{length}
use borrow.Author.Rules.{rules}
use borrow.Author.Tests.{not-true, not-false}
use Rattle.terms.specs.Poly.{terms_of}
use Rattle.terms.proofs.Lists.{long, within-32}
use Rattle.yun.specs.Answer.{decomposition_of}
use Rattle.yun.specs.Yun.{rounds, found_or}
use Rattle.yun.proofs.CodeFound.{held-room, room-few}
use Rattle.yun.proofs.CodeRounds.{Going, going-none, going_end, going-held, going-refused, going-whole, going-over, going-empty, going_on}
use Rattle.yun.proofs.rounds.Statement.{statement}
use Rattle.yun.proofs.rounds.Tie as tie

abbrev invariant-loop : tie.invariant-loop-i
invariant-loop f n u₀ v₀ found₀ i₀ u v found i = (n ≡ length (terms_of f)) × (n ≤ 32) × Going n (terms_of u₀) (terms_of v₀) i (terms_of u) (terms_of v) found

abbrev decreases-loop : tie.decreases-loop-i
decreases-loop f n u₀ v₀ found₀ i₀ u v found i = n - i

length-requires : tie.Need-length-n-requires invariant-loop decreases-loop
length-requires c κs = tt

nothing-requires : tie.Need-nothing-found-requires invariant-loop decreases-loop
nothing-requires c κs = tt

short : (c : tie.Start invariant-loop decreases-loop) → length (terms_of c.args.f) ≤ 32
short c = within-32 c.args.f.len c.args.f.coeffs (search (rules, long))

loop-holds : tie.Need-loop-i-init invariant-loop decreases-loop
loop-holds c =
    let s = c.args in
    (c.length-n.ensures, omega (arith, c.length-n.ensures, short c.before.before), going-none c.length-n.result (terms_of s.b) (terms_of s.c) c.nothing-found.result c.nothing-found.ensures)

turn-requires : tie.Need-turn-t-requires invariant-loop decreases-loop
turn-requires c κs = tt

enum-known-o : tie.Need-enum_known-o invariant-loop decreases-loop
enum-known-o c = c.in-Err-1.keys1

refused-requires : tie.Need-refused-requires invariant-loop decreases-loop
refused-requires c κs = tt

returns : tie.Need-returns-in-Err invariant-loop decreases-loop
returns c =
    let l = c in
    let s = l.args in
    let n = l.length-n.result in
    c.refused.ensures ∙ ap (λ g. decomposition_of (found_or (terms_of s.f) g)) (going-refused n (terms_of s.b) (terms_of s.c) l.loop-i.i (terms_of l.loop-i.u) (terms_of l.loop-i.v) l.loop-i.found l.loop-i.invariant.2 (omega arith) c.turn-t.result c.turn-t.ensures _ c.in-Err.is) ∙ ap (λ k. decomposition_of (found_or (terms_of s.f) (rounds k 1 (terms_of s.b) (terms_of s.c) []))) l.loop-i.invariant.0

enum_told : tie.Need-enum_told-1 invariant-loop decreases-loop
enum_told c = c.in_default-1.keys2

whole-requires : tie.Need-whole-requires invariant-loop decreases-loop
whole-requires c κs =
    let l = c in
    let s = l.args in
    let n = l.length-n.result in
    l.requires

returns-2 : tie.Need-returns-then-t invariant-loop decreases-loop
returns-2 c =
    let l = c in
    let s = l.args in
    let n = l.length-n.result in
    c.whole.ensures ∙ ap (λ g. decomposition_of (found_or (terms_of s.f) g)) (going-whole n (terms_of s.b) (terms_of s.c) l.loop-i.i (terms_of l.loop-i.u) (terms_of l.loop-i.v) l.loop-i.found l.loop-i.invariant.2 (omega arith) c.turn-t.result c.turn-t.ensures c.in_default.is c.if-t.true) ∙ ap (λ k. decomposition_of (found_or (terms_of s.f) (rounds k 1 (terms_of s.b) (terms_of s.c) []))) l.loop-i.invariant.0

add-piece-of : tie.Need-overflow_add-i invariant-loop decreases-loop
add-piece-of c =
    let l = c in
    let s = l.args in
    let n = l.length-n.result in
    omega (arith, l.loop-i.invariant.1)

piece-of-requires : tie.Need-piece_of-requires invariant-loop decreases-loop
piece-of-requires c κs = c.turn-t.ensures.padded

mul-t19 : tie.Need-offset_bounds-found-k invariant-loop decreases-loop
mul-t19 c =
    let l = c in
    let s = l.args in
    let n = l.length-n.result in
    omega (arith, (held-room l.loop-i.found (going-held n (terms_of s.b) (terms_of s.c) l.loop-i.i (terms_of l.loop-i.u) (terms_of l.loop-i.v) l.loop-i.found l.loop-i.invariant.2 (omega arith) l.loop-i.invariant.1)))

element-set-from-found : tie.Need-bounds-found-k invariant-loop decreases-loop
element-set-from-found c =
    let l = c in
    let s = l.args in
    let n = l.length-n.result in
    held-room l.loop-i.found (going-held n (terms_of s.b) (terms_of s.c) l.loop-i.i (terms_of l.loop-i.u) (terms_of l.loop-i.v) l.loop-i.found l.loop-i.invariant.2 (omega arith) l.loop-i.invariant.1)

room-requires : tie.Need-room-requires invariant-loop decreases-loop
room-requires c κs = tt

add-found : tie.Need-overflow_add-found invariant-loop decreases-loop
add-found c =
    let l = c in
    let s = l.args in
    let n = l.length-n.result in
    omega (arith, (held-room l.loop-i.found (going-held n (terms_of s.b) (terms_of s.c) l.loop-i.i (terms_of l.loop-i.u) (terms_of l.loop-i.v) l.loop-i.found l.loop-i.invariant.2 (omega arith) l.loop-i.invariant.1)), c.room.ensures, room-few (terms_of c.turn-t.result.factor))

whole-requires-2 : tie.Need-whole-requires-then-found-eq0 invariant-loop decreases-loop
whole-requires-2 c κs =
    let l = c in
    let s = l.args in
    let n = l.length-n.result in
    l.requires

returns-3 : tie.Need-returns-then-found-eq0 invariant-loop decreases-loop
returns-3 c =
    let l = c in
    let s = l.args in
    let n = l.length-n.result in
    c.whole-then-found-eq0.ensures ∙ going-empty n (terms_of s.b) (terms_of s.c) l.loop-i.i (terms_of l.loop-i.u) (terms_of l.loop-i.v) l.loop-i.found l.loop-i.invariant.2 (omega (arith, c.loop-i-test.true)) c.turn-t.result c.turn-t.ensures c.in_default.is c.if-t.false l.loop-i.invariant.1 c.piece_of.result c.room.result c.piece_of.ensures c.room.ensures (terms_of s.f) (not-true _ c.if-not-t.true) (omega (arith, c.if-found-eq0.true)) ∙ ap (λ k. decomposition_of (found_or (terms_of s.f) (rounds k 1 (terms_of s.b) (terms_of s.c) []))) l.loop-i.invariant.0

returns-4 : tie.Need-returns-then-not-t invariant-loop decreases-loop
returns-4 c =
    let l = c in
    let s = l.args in
    let n = l.length-n.result in
    going-over n (terms_of s.b) (terms_of s.c) l.loop-i.i (terms_of l.loop-i.u) (terms_of l.loop-i.v) l.loop-i.found l.loop-i.invariant.2 (omega arith) c.turn-t.result c.turn-t.ensures c.in_default.is c.if-t.false l.loop-i.invariant.1 c.piece_of.result c.room.result c.piece_of.ensures c.room.ensures (terms_of s.f) (not-true _ c.if-not-t.true) (omega (arith, c.if-found-eq0.false)) ∙ ap (λ k. decomposition_of (found_or (terms_of s.f) (rounds k 1 (terms_of s.b) (terms_of s.c) []))) l.loop-i.invariant.0

add-i : tie.Need-overflow_add-i-in-loop-i invariant-loop decreases-loop
add-i c = omega arith

loop-less : tie.Need-loop-i-smaller invariant-loop decreases-loop
loop-less c = omega arith

loop-again : tie.Need-loop-i-preserved invariant-loop decreases-loop
loop-again c =
    let l = c in
    let s = l.args in
    let n = l.length-n.result in
    (l.loop-i.invariant.0, l.loop-i.invariant.1, going_on n (terms_of s.b) (terms_of s.c) l.loop-i.i (terms_of l.loop-i.u) (terms_of l.loop-i.v) l.loop-i.found l.loop-i.invariant.2 (omega arith) c.turn-t.result c.turn-t.ensures c.in_default.is c.if-t.false l.loop-i.invariant.1 c.piece_of.result c.room.result c.piece_of.ensures c.room.ensures (not-false _ c.if-not-t.false))

whole-requires-3 : tie.Need-whole-requires-2 invariant-loop decreases-loop
whole-requires-3 c κs =
    let l = c in
    let s = l.args in
    let n = l.length-n.result in
    l.requires

returns-5 : tie.Need-returns invariant-loop decreases-loop
returns-5 c =
    let l = c in
    let s = l.args in
    let n = l.length-n.result in
    c.whole-2.ensures ∙ ap (λ g. decomposition_of (found_or (terms_of s.f) g)) (going_end n (terms_of s.b) (terms_of s.c) l.loop-i.i (terms_of l.loop-i.u) (terms_of l.loop-i.v) l.loop-i.found l.loop-i.invariant.2 (omega arith)) ∙ ap (λ k. decomposition_of (found_or (terms_of s.f) (rounds k 1 (terms_of s.b) (terms_of s.c) []))) l.loop-i.invariant.0

pub rounds_spec : {M : Type 1} → statement M
rounds_spec =
    tie.close
    (tie.spec
    invariant-loop
    decreases-loop
    length-requires
    nothing-requires
    loop-holds
    turn-requires
    enum-known-o
    refused-requires
    returns
    enum_told
    whole-requires
    returns-2
    add-piece-of
    piece-of-requires
    mul-t19
    element-set-from-found
    room-requires
    add-found
    whole-requires-2
    returns-3
    returns-4
    add-i
    loop-less
    loop-again
    whole-requires-3
    returns-5)

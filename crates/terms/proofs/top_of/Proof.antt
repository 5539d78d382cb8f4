-- `terms::top_of` meets its contract. The loop's invariant: what lies above top is zero.
use mathlib.Core.Path.{◌≡◌}
use Prim.Native.Nat.{◌≤◌, ◌-◌}
use native.Mathlib.Omega.{arith}
use lib.IntN.{pos}
use lib.ListN.{length, get_or}
use Rattle.ratio.proofs.Words.{nil-bits, some_bits}
use Rattle.terms.proofs.Pairs.{Dropped, dropped-none, dropped-more, dropped-here, dropped-all}
use Rattle.terms.proofs.top_of.Statement.{statement}
use Rattle.terms.proofs.top_of.Tie as tie

abbrev invariant-loop : tie.invariant-loop-top
invariant-loop nums n top₀ top = (length nums ≡ 32) × (top ≤ 32) × Dropped nums n top

abbrev decreases-loop : tie.decreases-loop-top
decreases-loop nums n top₀ top = top

loop-holds : tie.Need-loop-top-init invariant-loop decreases-loop
loop-holds c = (c.requires.0, c.requires.1, dropped-none c.args.nums.now c.args.n)

sub-v : tie.Need-overflow_sub-v invariant-loop decreases-loop
sub-v c = omega arith

mul-v : tie.Need-offset_bounds-nums-top invariant-loop decreases-loop
mul-v c = omega arith

shared-slice-copy-out-v : tie.Need-bounds-nums-top invariant-loop decreases-loop
shared-slice-copy-out-v c = omega arith

returns : tie.Need-returns-then-v-ne0 invariant-loop decreases-loop
returns c =
    let l = c in
    let s = l.args in
    dropped-here s.nums.now s.n l.loop-top.top (omega arith) (omega arith) l.loop-top.invariant.2 (some_bits (get_or s.nums.now (l.loop-top.top - 1) (pos 0)) (record { sfits = c.v-1.given }) c.if-v-ne0.true)

sub-top : tie.Need-overflow_sub-top invariant-loop decreases-loop
sub-top c = omega arith

loop-less : tie.Need-loop-top-smaller invariant-loop decreases-loop
loop-less c = omega arith

loop-again : tie.Need-loop-top-preserved invariant-loop decreases-loop
loop-again c =
    let l = c in
    let s = l.args in (
      l.loop-top.invariant.0,
      omega arith,
      dropped-more s.nums.now s.n l.loop-top.top (omega arith) (omega arith) l.loop-top.invariant.2 (nil-bits (get_or s.nums.now (l.loop-top.top - 1) (pos 0)) (record { sfits = c.v-1.given }) c.if-v-ne0.false),
    )

returns-2 : tie.Need-returns invariant-loop decreases-loop
returns-2 c =
    let l = c in
    dropped-all l.args.nums.now l.args.n l.loop-top.top (omega arith) l.loop-top.invariant.2

pub top_of_spec : {M : Type 1} → statement M
top_of_spec =
    tie.close
    (tie.spec
    invariant-loop
    decreases-loop
    loop-holds
    sub-v
    mul-v
    shared-slice-copy-out-v
    returns
    sub-top
    loop-less
    loop-again
    returns-2)

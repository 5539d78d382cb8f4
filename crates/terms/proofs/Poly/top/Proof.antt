-- `terms::Poly::top` meets its contract. The loop's invariant: what lies above n is zero.
use mathlib.Core.Path.{◌≡◌, sym, ap, ◌∙◌}
use Prim.Native.Nat.{◌≤◌, ◌-◌}
use native.Mathlib.Omega.{arith}
use lib.ListN.{length, take, get_or, length-take}
use borrow.Author.Rules.{rules}
use Rattle.ratio.proofs.Words.{nil-bits, some_bits}
use Rattle.terms.specs.Poly.{terms_of, trim}
use Rattle.terms.proofs.Lists.{long, past, take-terms, top-less, top-here, top-none}
use Rattle.terms.proofs.Poly.top.Statement.{statement}
use Rattle.terms.proofs.Poly.top.Tie as tie

abbrev invariant-loop : tie.invariant-loop-n
invariant-loop self n₀ n =
    (n ≤ 32) × (length self.coeffs ≡ 32) × (length (trim (take n self.coeffs)) ≡ length (trim (terms_of self)))

abbrev decreases-loop : tie.decreases-loop-n
decreases-loop self n₀ n = n

length-requires : tie.Need-length-n-requires invariant-loop decreases-loop
length-requires c κs = tt

loop-holds : tie.Need-loop-n-init invariant-loop decreases-loop
loop-holds c =
    let s = c.args.self in
    let e : length s.coeffs ≡ 32 = search (rules, long) in
    let k : c.length-n.result ≡ Prim.Native.Nat.min s.len (length s.coeffs) = c.length-n.ensures ∙ length-take s.len s.coeffs in
    (omega arith, e, ap (λ (l : mathlib.Core.List.List _). length (trim l)) (take-terms s.len s.coeffs c.length-n.result c.length-n.ensures))

sub-c : tie.Need-overflow_sub-c invariant-loop decreases-loop
sub-c c = omega arith

mul-c : tie.Need-offset_bounds-self-n invariant-loop decreases-loop
mul-c c = omega arith

element-copy-out-c : tie.Need-bounds-self-n invariant-loop decreases-loop
element-copy-out-c c = omega arith

returns : tie.Need-returns-then-c-ne0 invariant-loop decreases-loop
returns c =
    let l = c in
    let cs = l.args.self.coeffs in
    let g = c.struct_told-1.given in
    sym (top-here cs l.loop-n.n past (omega arith) (omega arith) (some_bits (get_or cs (l.loop-n.n - 1) past).num (record { sfits = g.0.1 }) c.if-c-ne0.true)) ∙ l.loop-n.invariant.2

sub-n : tie.Need-overflow_sub-n invariant-loop decreases-loop
sub-n c = omega arith

loop-less : tie.Need-loop-n-smaller invariant-loop decreases-loop
loop-less c = omega arith

loop-again : tie.Need-loop-n-preserved invariant-loop decreases-loop
loop-again c =
    let l = c in
    let cs = l.args.self.coeffs in
    let g = c.struct_told-1.given in
    (omega arith, l.loop-n.invariant.1, ap length (sym (top-less cs l.loop-n.n past (omega arith) (omega arith) (nil-bits (get_or cs (l.loop-n.n - 1) past).num (record { sfits = g.0.1 }) c.if-c-ne0.false))) ∙ l.loop-n.invariant.2)

returns-2 : tie.Need-returns invariant-loop decreases-loop
returns-2 c =
    let l = c in
    top-none l.args.self.coeffs l.loop-n.n (omega arith) ∙ l.loop-n.invariant.2

pub top_spec : {M : Type 1} → statement M
top_spec =
    tie.close
    (tie.spec
    invariant-loop
    decreases-loop
    length-requires
    loop-holds
    sub-c
    mul-c
    element-copy-out-c
    returns
    sub-n
    loop-less
    loop-again
    returns-2)

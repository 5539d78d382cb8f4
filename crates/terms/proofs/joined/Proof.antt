-- `terms::joined` meets its contract. The loop's invariant: the first i fractions stand in the array, and zeros behind them.
use mathlib.Core.Path.{◌≡◌, sym, ap, ◌∙◌}
use Prim.Native.Nat.{◌≤◌, ◌-◌}
use native.Mathlib.Omega.{arith}
use lib.ListN.{length, take}
use Rattle.terms.specs.declared.Poly.{Poly}
use Rattle.terms.specs.Poly.{trim}
use Rattle.terms.specs.Pairs.{pairs}
use Rattle.terms.proofs.Pairs.{dropped-short, Laid, laid_none, laid-pair, laid-all}
use Rattle.terms.proofs.joined.Statement.{statement}
use Rattle.terms.proofs.joined.Tie as tie

abbrev invariant-loop : tie.invariant-loop-i
invariant-loop nums dens n top out₀ i₀ out i =
    (length nums ≡ 32) × (length dens ≡ 32) × (top ≡ length (trim (take n (pairs nums dens)))) × (top ≤ 32) × (i ≤ top) × Laid (trim (take n (pairs nums dens))) i out.coeffs

abbrev decreases-loop : tie.decreases-loop-i
decreases-loop nums dens n top out₀ i₀ out i = top - i

top-of-requires : tie.Need-top_of-top-requires invariant-loop decreases-loop
top-of-requires c κs = (c.requires.0, c.requires.2)

zero-requires : tie.Need-zero-out-requires invariant-loop decreases-loop
zero-requires c κs = tt

loop-holds : tie.Need-loop-i-init invariant-loop decreases-loop
loop-holds c =
    let b = c in
    let s = b.args in
    let e = c.top_of-top.ensures s.dens.now (b.requires.1 ∙ sym b.requires.0) in
    (b.requires.0, b.requires.1, e, omega (arith, b.requires.2, e, dropped-short s.n (pairs s.nums.now s.dens.now)), omega arith, laid_none _ _ (ap (λ (p : Poly). p.coeffs) c.zero-out.ensures))

mul-t10 : tie.Need-offset_bounds-nums-i invariant-loop decreases-loop
mul-t10 c = omega arith

shared-slice-copy-out-t12 : tie.Need-bounds-nums-i invariant-loop decreases-loop
shared-slice-copy-out-t12 c = omega arith

mul-t13 : tie.Need-offset_bounds-dens-i invariant-loop decreases-loop
mul-t13 c = omega arith

shared-slice-copy-out-t15 : tie.Need-bounds-dens-i invariant-loop decreases-loop
shared-slice-copy-out-t15 c = omega arith

mul-c : tie.Need-offset_bounds-out-i invariant-loop decreases-loop
mul-c c = omega arith

element-set-from-c : tie.Need-bounds-out-i invariant-loop decreases-loop
element-set-from-c c = omega arith

add-i : tie.Need-overflow_add-i invariant-loop decreases-loop
add-i c = omega arith

loop-less : tie.Need-loop-i-smaller invariant-loop decreases-loop
loop-less c = omega arith

loop-again : tie.Need-loop-i-preserved invariant-loop decreases-loop
loop-again c =
    let l = c in
    let s = l.args in (
      l.loop-i.invariant.0,
      l.loop-i.invariant.1,
      l.loop-i.invariant.2,
      l.loop-i.invariant.3,
      omega arith,
      laid-pair s.nums.now s.dens.now s.n l.loop-i.i l.loop-i.out.coeffs l.loop-i.invariant.0 l.loop-i.invariant.1 (omega arith) (record { sfits = c.c-1.given }) (record { sfits = c.c-in-loop-i-1.given }) l.loop-i.invariant.5,
    )

returns : tie.Need-returns invariant-loop decreases-loop
returns c =
    let l = c in
    let s = l.args in
    laid-all (trim (take s.n (pairs s.nums.now s.dens.now))) l.loop-i.i _ l.loop-i.out.coeffs l.loop-i.invariant.2 (omega arith) l.loop-i.invariant.5

pub joined_spec : {M : Type 1} → statement M
joined_spec =
    tie.close
    (tie.spec
    invariant-loop
    decreases-loop
    top-of-requires
    zero-requires
    loop-holds
    mul-t10
    shared-slice-copy-out-t12
    mul-t13
    shared-slice-copy-out-t15
    mul-c
    element-set-from-c
    add-i
    loop-less
    loop-again
    returns)

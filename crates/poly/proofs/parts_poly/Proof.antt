-- `poly::parts_poly` meets its contract. The loop's invariant: the first i pairs stand in the array, and zeros behind them.
use mathlib.Core.Path.{◌≡◌, refl, sym, ap, subst, ◌∙◌}
use Prim.Native.Nat.{◌≤◌, ◌-◌, ◌+◌}
use native.Mathlib.Omega.{arith}
use lib.ListN.{length, set}
use Rattle.ratio.specs.declared.Ratio.{Ratio}
use Rattle.terms.specs.declared.Poly.{Poly}
use Rattle.terms.specs.Answer.{done_with}
use Rattle.poly.specs.Parts.{paired}
use Rattle.poly.proofs.Parts.{paired-length, paired-read, Filled, filled_more, filled-all}
use Rattle.poly.proofs.parts_poly.Statement.{statement}
use Rattle.poly.proofs.parts_poly.Tie as tie

abbrev invariant-loop : tie.invariant-loop-i
invariant-loop nums dens n p₀ i₀ p i =
    (n ≡ length nums) × (length nums ≡ length dens) × (n ≤ 32) × (i ≤ n) × Filled (paired nums dens) i p.coeffs

abbrev decreases-loop : tie.decreases-loop-i
decreases-loop nums dens n p₀ i₀ p i = n - i

zero-requires : tie.Need-zero-p-requires invariant-loop decreases-loop
zero-requires c κs = tt

loop-holds : tie.Need-loop-i-init invariant-loop decreases-loop
loop-holds c = (refl, c.requires.0, c.requires.1, omega arith, ap (λ (p : Poly). p.coeffs) c.zero-p.ensures)

mul-t9 : tie.Need-offset_bounds-nums-i invariant-loop decreases-loop
mul-t9 c = omega arith

shared-slice-copy-out-t11 : tie.Need-bounds-nums-i invariant-loop decreases-loop
shared-slice-copy-out-t11 c = omega arith

mul-t12 : tie.Need-offset_bounds-dens-i invariant-loop decreases-loop
mul-t12 c = omega arith

shared-slice-copy-out-t14 : tie.Need-bounds-dens-i invariant-loop decreases-loop
shared-slice-copy-out-t14 c = omega arith

mul-c : tie.Need-offset_bounds-p-i invariant-loop decreases-loop
mul-c c = omega arith

element-set-from-c : tie.Need-bounds-p-i invariant-loop decreases-loop
element-set-from-c c = omega arith

add-i : tie.Need-overflow_add-i invariant-loop decreases-loop
add-i c = omega arith

loop-less : tie.Need-loop-i-smaller invariant-loop decreases-loop
loop-less c = omega arith

loop-again : tie.Need-loop-i-preserved invariant-loop decreases-loop
loop-again c =
    let l = c in
    let s = l.args in
    let g : length (paired s.nums.now s.dens.now) ≡ length s.nums.now = paired-length s.nums.now s.dens.now l.loop-i.invariant.1 in (
      l.loop-i.invariant.0,
      l.loop-i.invariant.1,
      l.loop-i.invariant.2,
      omega arith,
      subst (λ (r : Ratio). Filled (paired s.nums.now s.dens.now) (l.loop-i.i + 1) (set l.loop-i.p.coeffs l.loop-i.i r)) (sym (paired-read s.nums.now s.dens.now l.loop-i.i l.loop-i.invariant.1 (omega arith) (record { sfits = c.c-1.given }) (record { sfits = c.c-in-loop-i-1.given })))
          (filled_more (paired s.nums.now s.dens.now) l.loop-i.i l.loop-i.p.coeffs (omega arith) (omega arith) l.loop-i.invariant.4),
    )

done-requires : tie.Need-done-requires invariant-loop decreases-loop
done-requires c κs = tt

returns : tie.Need-returns invariant-loop decreases-loop
returns c =
    let l = c in
    let s = l.args in
    c.done.ensures ∙ ap (λ (p : Poly). done_with p 0) (filled-all (paired s.nums.now s.dens.now) l.loop-i.i _ l.loop-i.p.coeffs (sym (paired-length s.nums.now s.dens.now l.loop-i.invariant.1)) (omega arith) l.loop-i.invariant.4)

pub parts_poly_spec : {M : Type 1} → statement M
parts_poly_spec =
    tie.close
    (tie.spec
    invariant-loop
    decreases-loop
    zero-requires
    loop-holds
    mul-t9
    shared-slice-copy-out-t11
    mul-t12
    shared-slice-copy-out-t14
    mul-c
    element-set-from-c
    add-i
    loop-less
    loop-again
    done-requires
    returns)

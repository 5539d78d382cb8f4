-- `calls::dens` meets its contract. The loop's invariant: the first i stand in the array.
use mathlib.Core.Path.{◌≡◌, refl, sym, ◌∙◌}
use Prim.Native.Nat.{◌≤◌, ◌-◌}
use native.Mathlib.Omega.{arith}
use lib.ListN.{length, take, get_or, length-map, length-set, get_or-map}
use mir.Facts.{to_z-of_z}
use borrow.Author.Rules.{rules}
use Rattle.ratio.specs.declared.Ratio.{Ratio}
use Rattle.terms.proofs.Lists.{long, past}
use Rattle.calls.specs.Call.{dens_of}
use Rattle.calls.proofs.Telling.{copied_more, copied_all}
use Rattle.calls.proofs.dens.Statement.{statement}
use Rattle.calls.proofs.dens.Tie as tie

abbrev invariant-loop : tie.invariant-loop-i
invariant-loop p out₀ i₀ out i = (i ≤ 32) × (length out ≡ 32) × (length p.coeffs ≡ 32) × (take i out ≡ take i (dens_of p))

abbrev decreases-loop : tie.decreases-loop-i
decreases-loop p out₀ i₀ out i = 32 - i

loop-holds : tie.Need-loop-i-init invariant-loop decreases-loop
loop-holds c = (omega arith, refl, search (rules, long), refl)

mul-c : tie.Need-offset_bounds-p-i invariant-loop decreases-loop
mul-c c = omega arith

element-copy-out-c : tie.Need-bounds-p-i invariant-loop decreases-loop
element-copy-out-c c = omega arith

mul-out : tie.Need-offset_bounds-out-i invariant-loop decreases-loop
mul-out c = omega arith

array-set-from-out : tie.Need-bounds-out-i invariant-loop decreases-loop
array-set-from-out c = omega arith

add-i : tie.Need-overflow_add-i invariant-loop decreases-loop
add-i c = omega arith

loop-less : tie.Need-loop-i-smaller invariant-loop decreases-loop
loop-less c = omega arith

loop-again : tie.Need-loop-i-preserved invariant-loop decreases-loop
loop-again c =
    let l = c in
    let p = l.args.p in
    let i = l.loop-i.i in
    let n : length (dens_of p) ≡ 32 = length-map p.coeffs (λ (r : Ratio). r.den) ∙ l.loop-i.invariant.2 in (
      omega arith,
      length-set l.loop-i.out i _ ∙ l.loop-i.invariant.1,
      l.loop-i.invariant.2,
      copied_more (dens_of p) l.loop-i.out i _ (omega arith) (l.loop-i.invariant.1 ∙ sym n)
          (to_z-of_z {w = Rattle.std.proofs.Common.w64} {z = (get_or p.coeffs i past).den} (record { sfits = c.struct_told-1.given.1.0.1 }) ∙ sym (get_or-map (λ (r : Ratio). r.den) p.coeffs i past))
          l.loop-i.invariant.3,
    )

returns : tie.Need-returns invariant-loop decreases-loop
returns c =
    let l = c in
    let p = l.args.p in
    copied_all (dens_of p) l.loop-i.out l.loop-i.i 32 l.loop-i.invariant.1 (length-map p.coeffs (λ (r : Ratio). r.den) ∙ l.loop-i.invariant.2) (omega arith) l.loop-i.invariant.3

pub dens_spec : {M : Type 1} → statement M
dens_spec =
    tie.close
    (tie.spec
    invariant-loop
    decreases-loop
    loop-holds
    mul-c
    element-copy-out-c
    mul-out
    array-set-from-out
    add-i
    loop-less
    loop-again
    returns)

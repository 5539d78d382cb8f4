-- `roots::content_terms` meets its contract. The loop's invariant: what is left gives the whole content.
use mathlib.Core.Path.{◌≡◌, sym, ap, ap₂, ◌∙◌}
use Prim.Native.Nat.{◌≤◌, ◌-◌}
use native.Mathlib.Omega.{arith}
use lib.IntN.{ℤ, pos, nat_abs}
use lib.ListN.{length, get_or}
use mir.Facts.{to_z-of_z}
use Rattle.ratio.specs.Gcd.{gcd_of}
use Rattle.ratio.specs.Refusal.{zero_r, ratio_of}
use Rattle.ratio.specs.Step.{new_of}
use Rattle.ratio.specs.declared.Ratio.{Ratio}
use Rattle.ratio.proofs.Words.{fits, size_back}
use Rattle.terms.specs.Poly.{terms_of}
use Rattle.terms.proofs.Lists.{past, read-terms}
use Rattle.terms.proofs.MeaningLowest.{AllLowest}
use Rattle.poly.proofs.Canonical.{opened}
use Rattle.roots.specs.Content.{denominator_of}
use Rattle.roots.proofs.CodeContent.{Gathering, gathering-none, gathering-more, gathering-all}
use borrow.Author.Rules.{rules}
use Rattle.roots.proofs.content_terms.Statement.{statement}
use Rattle.roots.proofs.content_terms.Tie as tie

abbrev invariant-loop : tie.invariant-loop-i
invariant-loop p n num₀ den₀ i₀ num den i = (n ≤ 32) × (n ≡ length (terms_of p)) × AllLowest (terms_of p) × Gathering (terms_of p) i num den

abbrev decreases-loop : tie.decreases-loop-i
decreases-loop p n num₀ den₀ i₀ num den i = n - i

length-requires : tie.Need-length-n-requires invariant-loop decreases-loop
length-requires c κs = tt

loop-holds : tie.Need-loop-i-init invariant-loop decreases-loop
loop-holds c =
    let s = c.args in
    let o = opened s.p c.requires in
    (omega (arith, c.length-n.ensures, o.few), c.length-n.ensures, o.canonical.lowest, gathering-none (terms_of s.p))

mul-c : tie.Need-offset_bounds-p-i invariant-loop decreases-loop
mul-c c = omega arith

element-copy-out-c : tie.Need-bounds-p-i invariant-loop decreases-loop
element-copy-out-c c = omega arith

cast-gcd-i64 : tie.Need-overflow_cast-num invariant-loop decreases-loop
cast-gcd-i64 c = let l = c in fits (pos l.loop-i.num) l.loop-i.invariant.3.within

gcd-i64-requires : tie.Need-gcd_i64-num-requires invariant-loop decreases-loop
gcd-i64-requires c κs = tt

denominator-requires : tie.Need-denominator-den-requires invariant-loop decreases-loop
denominator-requires c κs = tt

add-i : tie.Need-overflow_add-i invariant-loop decreases-loop
add-i c = omega arith

loop-less : tie.Need-loop-i-smaller invariant-loop decreases-loop
loop-less c = omega arith

loop-again : tie.Need-loop-i-preserved invariant-loop decreases-loop
loop-again c =
    let g = c in
    let l = g in
    let s = l.args.p in
    let r : Ratio = get_or s.coeffs l.loop-i.i past in
    let e : r ≡ get_or (terms_of s) l.loop-i.i zero_r = read-terms s.len s.coeffs l.loop-i.i past zero_r (omega arith) in (
      l.loop-i.invariant.0,
      l.loop-i.invariant.1,
      l.loop-i.invariant.2,
      gathering-more (terms_of s) l.loop-i.i l.loop-i.num l.loop-i.den (omega arith) (l.loop-i.invariant.2 l.loop-i.i).fraction.num-within l.loop-i.invariant.3 _ _
          (g.gcd_i64-num.ensures.0 ∙ ap₂ (λ (x y : ℤ). gcd_of (nat_abs x) (nat_abs y)) (size_back l.loop-i.num l.loop-i.invariant.3.within) (to_z-of_z {w = Rattle.std.proofs.Common.w64} {z = r.num} (record { sfits = g.struct_told-1.given.0.1 }) ∙ ap (λ (x : Ratio). x.num) e))
          (c.denominator-den.ensures ∙ ap (denominator_of l.loop-i.den) (to_z-of_z {w = Rattle.std.proofs.Common.w64} {z = r.den} (record { sfits = c.struct_told-in-loop-i-1.given.1.0.1 }) ∙ ap (λ (x : Ratio). x.den) e)),
    )

cast-new : tie.Need-overflow_cast-num-2 invariant-loop decreases-loop
cast-new c = let l = c in fits (pos l.loop-i.num) l.loop-i.invariant.3.within

new-requires : tie.Need-new-requires invariant-loop decreases-loop
new-requires c κs = tt

enum-known-r : tie.Need-enum_known-r invariant-loop decreases-loop
enum-known-r c = search rules

enum_told : tie.Need-enum_told-1 invariant-loop decreases-loop
enum_told c = search rules

-- the fraction of the two
made : (c : tie.After-new invariant-loop decreases-loop) → new_of (pos c.loop-i.num) c.loop-i.den.num ≡ c.new.result
made c =
    let l = c in
    sym (c.new.ensures.0 ∙ ap₂ new_of (size_back l.loop-i.num l.loop-i.invariant.3.within) (to_z-of_z {w = Rattle.std.proofs.Common.w64} {z = l.loop-i.den.num} (record { sfits = c.struct_told-2-1.given.0.1 })))

returns : tie.Need-returns-in_default invariant-loop decreases-loop
returns c =
    let m = c in
    let l = m in
    let s = l.args.p in
    sym (ap ratio_of (made m.before ∙ c.in_default.is)) ∙ gathering-all (terms_of s) l.loop-i.i l.loop-i.num l.loop-i.den (omega arith) l.loop-i.invariant.3

returns-2 : tie.Need-returns invariant-loop decreases-loop
returns-2 c =
    let m = c in
    let l = m in
    let s = l.args.p in
    sym (ap ratio_of (made m.before ∙ c.in-Ok.is)) ∙ gathering-all (terms_of s) l.loop-i.i l.loop-i.num l.loop-i.den (omega arith) l.loop-i.invariant.3

pub content_terms_spec : {M : Type 1} → statement M
content_terms_spec =
    tie.close
    (tie.spec
    invariant-loop
    decreases-loop
    length-requires
    loop-holds
    mul-c
    element-copy-out-c
    cast-gcd-i64
    gcd-i64-requires
    denominator-requires
    add-i
    loop-less
    loop-again
    cast-new
    new-requires
    enum-known-r
    enum_told
    returns
    returns-2)

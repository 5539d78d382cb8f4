-- `terms::Poly::rows` meets its contract. The loop's invariant: what is left of row i behind place j, and of the rows after it, gives the whole product.
use mathlib.Core.Path.{◌≡◌, refl, sym, ap, ap₂, subst, ◌∙◌}
use Prim.Native.Nat.{ℕ, ◌≤◌, ◌<◌, ◌-◌, ◌+◌, ◌*◌}
use native.Mathlib.Omega.{arith}
use lib.ListN.{length, take, get_or, length-set}
use borrow.Author.Rules.{rules}
use Rattle.ratio.specs.Refusal.{zero_r}
use Rattle.ratio.specs.Step.{add_of, mul_of}
use Rattle.ratio.specs.declared.Ratio.{Ratio}
use Rattle.terms.specs.declared.Poly.{Poly}
use Rattle.terms.specs.Poly.{terms_of, poly_of, trim}
use Rattle.terms.specs.Pairs.{pairs}
use Rattle.terms.specs.Answer.{done_with}
use Rattle.terms.proofs.Lists.{past, read-terms}
use Rattle.terms.proofs.Pairs.{pairs-read, pairs-write, pairs-zero}
use Rattle.terms.proofs.Product.{Summed, summed-none, summed-row, summed-place, times-over, plus-over, product-refused, product-done}
use Rattle.terms.proofs.Poly.rows.Statement.{statement}
use Rattle.terms.proofs.Poly.rows.Tie as tie

abbrev invariant-loop : tie.invariant-loop-i
invariant-loop n m self other nums₀ dens₀ steps₀ i₀ j₀ nums dens steps i j =
    (n ≡ length (terms_of self)) × (m ≡ length (terms_of other)) × (0 < n) × (0 < m) × (n + m ≤ 33) × (i ≤ n) × (j ≤ m) × (steps ≤ 64 * i + 2 * j) × (length nums ≡ 32) × (length dens ≡ 32)
    × Summed (terms_of self) (terms_of other) i j steps (pairs nums dens)

abbrev decreases-loop : tie.decreases-loop-i
decreases-loop n m self other nums₀ dens₀ steps₀ i₀ j₀ nums dens steps i j = (n - i) * 33 + (m - j)

loop-holds : tie.Need-loop-i-init invariant-loop decreases-loop
loop-holds c =
    let s = c.args in
    (c.requires.0, c.requires.1, c.requires.2, c.requires.3, c.requires.4, omega arith, omega arith, omega arith, refl, refl, subst (Summed (terms_of s.self) (terms_of s.other) 0 0 0) (sym (pairs-zero 32)) (summed-none (terms_of s.self) (terms_of s.other)))

add-i : tie.Need-overflow_add-i invariant-loop decreases-loop
add-i c = omega arith

loop-less : tie.Need-loop-i-smaller-then-j-m invariant-loop decreases-loop
loop-less c = omega arith

loop-again : tie.Need-loop-i-preserved-then-j-m invariant-loop decreases-loop
loop-again c =
    let l = c in
    let s = l.args in
    let inv = l.loop-i.invariant in (
      inv.0,
      inv.1,
      inv.2,
      inv.3,
      inv.4,
      omega arith,
      omega arith,
      omega arith,
      inv.8,
      inv.9,
      summed-row (terms_of s.self) (terms_of s.other) l.loop-i.i l.loop-i.j l.loop-i.steps (pairs l.loop-i.nums l.loop-i.dens) (omega arith) inv.10 (omega arith),
    )

mul-x : tie.Need-offset_bounds-self-i invariant-loop decreases-loop
mul-x c = omega arith

element-copy-out-x : tie.Need-bounds-self-i invariant-loop decreases-loop
element-copy-out-x c = omega arith

mul-y : tie.Need-offset_bounds-other-j invariant-loop decreases-loop
mul-y c = omega arith

element-copy-out-y : tie.Need-bounds-other-j invariant-loop decreases-loop
element-copy-out-y c = omega arith

checked-mul-requires : tie.Need-checked_mul-requires invariant-loop decreases-loop
checked-mul-requires c κs = tt

-- the product of a turn
product : (c : tie.After-checked_mul invariant-loop decreases-loop) → mul_of (get_or (terms_of c.args.self) c.loop-i.i zero_r) (get_or (terms_of c.args.other) c.loop-i.j zero_r) ≡ c.checked_mul.result
product c =
    let l = c in
    let s = l.args in
    sym (c.checked_mul.ensures.0 ∙ ap₂ mul_of (read-terms s.self.len s.self.coeffs l.loop-i.i past zero_r (omega arith)) (read-terms s.other.len s.other.coeffs l.loop-i.j past zero_r (omega arith)))

enum-known-t : tie.Need-enum_known-t invariant-loop decreases-loop
enum-known-t c = search rules

enum_told : tie.Need-enum_told-1 invariant-loop decreases-loop
enum_told c = search rules

add-refused : tie.Need-overflow_add-steps invariant-loop decreases-loop
add-refused c = omega arith

refused-requires : tie.Need-refused-requires invariant-loop decreases-loop
refused-requires c κs = tt

returns : tie.Need-returns-in_default invariant-loop decreases-loop
returns c =
    let m = c in
    let l = m in
    let s = l.args in
    let inv = l.loop-i.invariant in
    c.refused.ensures
    ∙ product-refused (terms_of s.self) (terms_of s.other) (omega (arith, inv)) (omega (arith, inv)) (omega (arith, inv)) (l.loop-i.steps + 1)
    (times-over (terms_of s.self) (terms_of s.other) l.loop-i.i l.loop-i.j l.loop-i.steps (pairs l.loop-i.nums l.loop-i.dens) (omega arith) inv.10 (omega arith) _ (product m.before.before ∙ c.in_default.is))

add_at : tie.Need-overflow_add-at invariant-loop decreases-loop
add_at c = omega arith

mul-u : tie.Need-offset_bounds-nums-at invariant-loop decreases-loop
mul-u c = omega arith

array-copy-out-u : tie.Need-bounds-nums-at invariant-loop decreases-loop
array-copy-out-u c = omega arith

mul-v : tie.Need-offset_bounds-dens-at invariant-loop decreases-loop
mul-v c = omega arith

array-copy-out-v : tie.Need-bounds-dens-at invariant-loop decreases-loop
array-copy-out-v c = omega arith

checked-add-requires : tie.Need-checked_add-requires invariant-loop decreases-loop
checked-add-requires c κs = tt

-- the sum of a turn
added : (c : tie.After-checked_add invariant-loop decreases-loop) → add_of (get_or (pairs c.loop-i.nums c.loop-i.dens) (c.loop-i.i + c.loop-i.j) zero_r) c.in-Ok.t ≡ c.checked_add.result
added c =
    let l = c in
    sym (c.checked_add.ensures.0 ∙ ap (λ (r : Ratio). add_of r c.in-Ok.t) (pairs-read l.loop-i.nums l.loop-i.dens (l.loop-i.i + l.loop-i.j) (l.loop-i.invariant.9 ∙ sym l.loop-i.invariant.8) (omega arith) (record { sfits = c.u-1.given }) (record { sfits = c.v-1.given })))

enum-known-s : tie.Need-enum_known-s invariant-loop decreases-loop
enum-known-s c = search rules

enum-told-2 : tie.Need-enum_told-in_default-checked_add invariant-loop decreases-loop
enum-told-2 c = search rules

add-refused-2 : tie.Need-overflow_add-steps-in_default-checked_add invariant-loop decreases-loop
add-refused-2 c = omega arith

refused-requires-2 : tie.Need-refused-requires-in_default-checked_add invariant-loop decreases-loop
refused-requires-2 c κs = tt

returns-2 : tie.Need-returns-in_default-checked_add invariant-loop decreases-loop
returns-2 c =
    let a = c in
    let m = a in
    let l = m in
    let s = l.args in
    let inv = l.loop-i.invariant in
    c.refused-in_default-checked_add.ensures
    ∙ product-refused (terms_of s.self) (terms_of s.other) (omega (arith, inv)) (omega (arith, inv)) (omega (arith, inv)) (l.loop-i.steps + 2)
    (plus-over (terms_of s.self) (terms_of s.other) l.loop-i.i l.loop-i.j l.loop-i.steps (pairs l.loop-i.nums l.loop-i.dens) (omega arith) inv.10 (omega arith) _ _ (product m.before.before.before.before.before.before ∙ a.in-Ok.is) (added a.before.before ∙ c.in_default-checked_add.is))

mul-nums : tie.Need-offset_bounds-nums-at-in-loop-i invariant-loop decreases-loop
mul-nums c = omega arith

array-set-from-nums : tie.Need-bounds-nums-at-in-loop-i invariant-loop decreases-loop
array-set-from-nums c = omega arith

mul-dens : tie.Need-offset_bounds-dens-at-in-loop-i invariant-loop decreases-loop
mul-dens c = omega arith

array-set-from-dens : tie.Need-bounds-dens-at-in-loop-i invariant-loop decreases-loop
array-set-from-dens c = omega arith

add-steps : tie.Need-overflow_add-steps-in-loop-i invariant-loop decreases-loop
add-steps c = omega arith

add-j : tie.Need-overflow_add-j invariant-loop decreases-loop
add-j c = omega arith

loop-less-2 : tie.Need-loop-i-smaller invariant-loop decreases-loop
loop-less-2 c = omega arith

loop-again-2 : tie.Need-loop-i-preserved invariant-loop decreases-loop
loop-again-2 c =
    let k = c in
    let a = k in
    let m = a in
    let l = m in
    let s = l.args in
    let inv = l.loop-i.invariant in
    let at = l.loop-i.i + l.loop-i.j in (
      inv.0,
      inv.1,
      inv.2,
      inv.3,
      inv.4,
      inv.5,
      omega arith,
      omega arith,
      length-set l.loop-i.nums at _ ∙ inv.8,
      length-set l.loop-i.dens at _ ∙ inv.9,
      pairs-write l.loop-i.nums l.loop-i.dens inv.8 inv.9 (Summed (terms_of s.self) (terms_of s.other) l.loop-i.i (l.loop-i.j + 1) (l.loop-i.steps + 2)) at k.in-Ok-checked_add.s (record { sfits = c.struct_told-1.given.0.1 }) (record { sfits = c.struct_told-in-loop-i-1.given.1.0.1 })
          (summed-place (terms_of s.self) (terms_of s.other) l.loop-i.i l.loop-i.j l.loop-i.steps (pairs l.loop-i.nums l.loop-i.dens) (omega arith) inv.10 (omega arith) _ _ (product m.before.before.before.before.before.before.before ∙ a.in-Ok.is) (added a.before.before.before ∙ k.in-Ok-checked_add.is)),
    )

slice-aggregate-joined : tie.Need-slice_bounds-joined-end invariant-loop decreases-loop
slice-aggregate-joined c = search rules

slice-aggregate-joined-2 : tie.Need-slice_bounds-joined-end-2 invariant-loop decreases-loop
slice-aggregate-joined-2 c = search rules

add-joined : tie.Need-overflow_add-n invariant-loop decreases-loop
add-joined c = omega arith

sub-joined : tie.Need-overflow_sub-n invariant-loop decreases-loop
sub-joined c = omega arith

joined-requires : tie.Need-joined-requires invariant-loop decreases-loop
joined-requires c κs = let l = c in (l.loop-i.invariant.8, l.loop-i.invariant.9, omega arith)

done-requires : tie.Need-done-requires invariant-loop decreases-loop
done-requires c κs = tt

returns-3 : tie.Need-returns invariant-loop decreases-loop
returns-3 c =
    let l = c in
    let s = l.args in
    let inv = l.loop-i.invariant in
    let e : s.n + s.m - 1 ≡ length (terms_of s.self) + length (terms_of s.other) - 1 = omega (arith, inv) in
    c.done.ensures
    ∙ ap (λ (p : Poly). done_with p l.loop-i.steps) (c.joined.ensures ∙ ap (λ (k : ℕ). poly_of (trim (take k (pairs l.loop-i.nums l.loop-i.dens)))) e)
    ∙ product-done (terms_of s.self) (terms_of s.other) (omega (arith, inv)) (omega (arith, inv)) (omega (arith, inv)) l.loop-i.i l.loop-i.j l.loop-i.steps (pairs l.loop-i.nums l.loop-i.dens) (omega (arith, inv)) inv.10

pub rows_spec : {M : Type 1} → statement M
rows_spec =
    tie.close
    (tie.spec
    invariant-loop
    decreases-loop
    loop-holds
    add-i
    loop-less
    loop-again
    mul-x
    element-copy-out-x
    mul-y
    element-copy-out-y
    checked-mul-requires
    enum-known-t
    enum_told
    add-refused
    refused-requires
    returns
    add_at
    mul-u
    array-copy-out-u
    mul-v
    array-copy-out-v
    checked-add-requires
    enum-known-s
    enum-told-2
    add-refused-2
    refused-requires-2
    returns-2
    mul-nums
    array-set-from-nums
    mul-dens
    array-set-from-dens
    add-steps
    add-j
    loop-less-2
    loop-again-2
    slice-aggregate-joined
    slice-aggregate-joined-2
    add-joined
    sub-joined
    joined-requires
    done-requires
    returns-3)

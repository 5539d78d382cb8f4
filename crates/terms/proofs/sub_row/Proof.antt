-- `terms::sub_row` meets its contract: the row of the negative is added. The loop's invariant: what is left of the row gives the whole row.
use mathlib.Core.Path.{◌≡◌, sym, ap, ◌∙◌}
use Prim.Native.Nat.{◌≤◌, ◌-◌, ◌+◌, ◌*◌}
use native.Mathlib.Omega.{arith}
use lib.ListN.{length, get_or, length-set}
use borrow.Author.Rules.{rules}
use Rattle.ratio.specs.Refusal.{zero_r}
use Rattle.ratio.specs.Step.{add_of, mul_of}
use Rattle.terms.specs.Poly.{terms_of}
use Rattle.terms.specs.Machine.{plus}
use Rattle.terms.specs.Answer.{row_of}
use Rattle.terms.proofs.Lists.{long, past, get_d_any, read-terms}
use Rattle.terms.proofs.Rows.{Added, added_none, added_more, product-over, sum_over, added-all}
use Rattle.terms.proofs.sub_row.Statement.{statement}
use Rattle.terms.proofs.sub_row.Tie as tie

abbrev invariant-loop : tie.invariant-loop-j
invariant-loop k steps b y m out₀ made₀ j₀ out made j =
    (k + m ≤ 32) × (steps ≤ 65536) × (m ≡ length (terms_of b)) × (j ≤ m) × (made ≡ steps + 2 * j) × (length out ≡ 32) × Added plus out₀ k y (terms_of b) steps j made out

abbrev decreases-loop : tie.decreases-loop-j
decreases-loop k steps b y m out₀ made₀ j₀ out made j = m - j

negative-requires : tie.Need-negative-y-requires invariant-loop decreases-loop
negative-requires c κs = tt

length-requires : tie.Need-length-m-requires invariant-loop decreases-loop
length-requires c κs = tt

loop-holds : tie.Need-loop-j-init invariant-loop decreases-loop
loop-holds c =
    let s = c.args in
    (omega (arith, c.length-m.ensures, c.requires), omega arith, c.length-m.ensures, omega arith, omega arith, search (rules, long), added_none plus s.acc s.k c.negative-y.result (terms_of s.b) s.steps)

mul-c : tie.Need-offset_bounds-b-j invariant-loop decreases-loop
mul-c c = omega arith

element-copy-out-c : tie.Need-bounds-b-j invariant-loop decreases-loop
element-copy-out-c c = omega arith

checked-mul-requires : tie.Need-checked_mul-requires invariant-loop decreases-loop
checked-mul-requires c κs = tt

-- the product and the sum of a turn
product : (c : tie.After-checked_mul invariant-loop decreases-loop) → mul_of c.negative-y.result (get_or (terms_of c.args.b) c.loop-j.j zero_r) ≡ c.checked_mul.result
product c =
    let l = c in
    let s = l.args in
    sym (rw (read-terms s.b.len s.b.coeffs l.loop-j.j past zero_r (omega arith)) at c.checked_mul.ensures.0)

enum-known-t : tie.Need-enum_known-t invariant-loop decreases-loop
enum-known-t c = search rules

enum_told : tie.Need-enum_told-1 invariant-loop decreases-loop
enum_told c = search rules

add-row-refused : tie.Need-overflow_add-made invariant-loop decreases-loop
add-row-refused c = omega arith

row-refused-requires : tie.Need-row_refused-requires invariant-loop decreases-loop
row-refused-requires c κs = tt

returns : tie.Need-returns-in_default invariant-loop decreases-loop
returns c =
    let m = c in
    let l = m in
    let s = l.args in
    c.row_refused.ensures
    ∙ ap row_of (product-over plus s.acc s.k l.negative-y.result (terms_of s.b) s.steps l.loop-j.j l.loop-j.made l.loop-j.out (omega arith) l.loop-j.invariant.6 _ (product m.before.before ∙ c.in_default.is))
    ∙ ap row_of (l.negative-y.ensures s.acc (terms_of s.b) s.k s.steps)

add-old : tie.Need-overflow_add-old invariant-loop decreases-loop
add-old c = omega arith

mul-old : tie.Need-offset_bounds-out-k invariant-loop decreases-loop
mul-old c = omega arith

array-copy-out-old : tie.Need-bounds-out-k invariant-loop decreases-loop
array-copy-out-old c = omega arith

checked-add-requires : tie.Need-checked_add-requires invariant-loop decreases-loop
checked-add-requires c κs = tt

added : (c : tie.After-checked_add invariant-loop decreases-loop) →
    add_of (get_or c.loop-j.out (c.args.k + c.loop-j.j) zero_r) c.in-Ok.t ≡ c.checked_add.result
added c =
    let l = c in
    let s = l.args in
    sym (rw (get_d_any l.loop-j.out (s.k + l.loop-j.j) past zero_r (omega (arith, l.loop-j.invariant))) at c.checked_add.ensures.0)

enum-known-s : tie.Need-enum_known-s invariant-loop decreases-loop
enum-known-s c = search rules

enum-told-2 : tie.Need-enum_told-in_default-checked_add invariant-loop decreases-loop
enum-told-2 c = search rules

add-row-refused-2 : tie.Need-overflow_add-made-in_default-checked_add invariant-loop decreases-loop
add-row-refused-2 c = omega arith

row-refused-requires-2 : tie.Need-row_refused-requires-in_default-checked_add invariant-loop decreases-loop
row-refused-requires-2 c κs = tt

returns-2 : tie.Need-returns-in_default-checked_add invariant-loop decreases-loop
returns-2 c =
    let a = c in
    let m = a in
    let l = m in
    let s = l.args in
    c.row_refused-in_default-checked_add.ensures
    ∙ ap row_of (sum_over plus s.acc s.k l.negative-y.result (terms_of s.b) s.steps l.loop-j.j l.loop-j.made l.loop-j.out (omega arith) l.loop-j.invariant.6 _ _ (product m.before.before.before.before.before ∙ a.in-Ok.is) (added a.before.before ∙ c.in_default-checked_add.is))
    ∙ ap row_of (l.negative-y.ensures s.acc (terms_of s.b) s.k s.steps)

add-out : tie.Need-overflow_add-out invariant-loop decreases-loop
add-out c = omega arith

mul-out : tie.Need-offset_bounds-out-k-in-loop-j invariant-loop decreases-loop
mul-out c = omega arith

array-set-from-out : tie.Need-bounds-out-k-in-loop-j invariant-loop decreases-loop
array-set-from-out c = omega arith

add-made : tie.Need-overflow_add-made-in-loop-j invariant-loop decreases-loop
add-made c = omega arith

add-j : tie.Need-overflow_add-j invariant-loop decreases-loop
add-j c = omega arith

loop-less : tie.Need-loop-j-smaller invariant-loop decreases-loop
loop-less c = omega arith

loop-again : tie.Need-loop-j-preserved invariant-loop decreases-loop
loop-again c =
    let a = c in
    let m = a in
    let l = m in
    let s = l.args in (
      l.loop-j.invariant.0,
      l.loop-j.invariant.1,
      l.loop-j.invariant.2,
      omega arith,
      omega arith,
      length-set l.loop-j.out (s.k + l.loop-j.j) _ ∙ l.loop-j.invariant.5,
      added_more plus s.acc s.k l.negative-y.result (terms_of s.b) s.steps l.loop-j.j l.loop-j.made l.loop-j.out (omega arith) l.loop-j.invariant.6 _ _ (product m.before.before.before.before ∙ a.in-Ok.is) (added a.before ∙ c.in-Ok-checked_add.is),
    )

returns-3 : tie.Need-returns invariant-loop decreases-loop
returns-3 c =
    let l = c in
    let s = l.args in
    ap row_of (added-all plus s.acc s.k l.negative-y.result (terms_of s.b) s.steps l.loop-j.j l.loop-j.made l.loop-j.out (omega arith) l.loop-j.invariant.6)
    ∙ ap row_of (l.negative-y.ensures s.acc (terms_of s.b) s.k s.steps)

pub sub_row_spec : {M : Type 1} → statement M
sub_row_spec =
    tie.close
    (tie.spec
    invariant-loop
    decreases-loop
    negative-requires
    length-requires
    loop-holds
    mul-c
    element-copy-out-c
    checked-mul-requires
    enum-known-t
    enum_told
    add-row-refused
    row-refused-requires
    returns
    add-old
    mul-old
    array-copy-out-old
    checked-add-requires
    enum-known-s
    enum-told-2
    add-row-refused-2
    row-refused-requires-2
    returns-2
    add-out
    mul-out
    array-set-from-out
    add-made
    add-j
    loop-less
    loop-again
    returns-3)

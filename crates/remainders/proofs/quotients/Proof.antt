-- `remainders::quotients` meets its contract. The loop's invariant: what is left of the terms gives the whole division.
use mathlib.Core.Path.{◌≡◌, refl, sym, ap, ap₂, ◌∙◌}
use mathlib.Core.List.{List}
use Prim.Native.Nat.{◌≤◌}
use native.Mathlib.Omega.{arith}
use lib.ListN.{length, take, replicate}
use borrow.Author.Rules.{rules}
use borrow.Author.Tests.{not-true, not-false}
use Rattle.ratio.specs.Refusal.{ratio_of, no_refusal}
use Rattle.ratio.specs.Step.{inv_of}
use Rattle.ratio.specs.declared.Ratio.{Ratio}
use Rattle.terms.specs.declared.Poly.{Poly}
use Rattle.terms.specs.Poly.{terms_of}
use Rattle.terms.proofs.Lists.{long, within-32, take-terms}
use Rattle.remainders.specs.declared.Division.{Division}
use Rattle.remainders.specs.Answer.{divided_of}
use Rattle.remainders.proofs.CodeDivision.{Left, left-all, left-none, left_less, product-over, row-refused}
use Rattle.remainders.proofs.quotients.Statement.{statement}
use Rattle.remainders.proofs.quotients.Tie as tie

abbrev invariant-loop : tie.invariant-loop-k
invariant-loop b n m inv rem₀ quot₀ steps₀ k₀ rem quot steps k = Left (take n rem₀) (terms_of b) n m inv k steps rem quot

abbrev decreases-loop : tie.decreases-loop-k
decreases-loop b n m inv rem₀ quot₀ steps₀ k₀ rem quot steps k = k

length-requires : tie.Need-length-n-requires invariant-loop decreases-loop
length-requires c κs = tt

length-requires-2 : tie.Need-length-m-requires invariant-loop decreases-loop
length-requires-2 c κs = tt

lead-requires : tie.Need-lead-requires invariant-loop decreases-loop
lead-requires c κs = tt

inverse-requires : tie.Need-inverse-inv-requires invariant-loop decreases-loop
inverse-requires c κs = tt

whole-requires : tie.Need-whole-quot-requires invariant-loop decreases-loop
whole-requires c κs = tt

-- at most 32 coefficients, and as many as the array has in use
short : (c : tie.After-length-n invariant-loop decreases-loop) → c.length-n.result ≤ 32
short c =
    let a = c.args.a in
    omega (arith, c.length-n.ensures, within-32 a.len a.coeffs (search (rules, long)))

same : (c : tie.After-length-n invariant-loop decreases-loop) → take c.length-n.result c.args.a.coeffs ≡ terms_of c.args.a
same c =
    let a = c.args.a in
    take-terms a.len a.coeffs c.length-n.result c.length-n.ensures

sub-k : tie.Need-overflow_sub-k invariant-loop decreases-loop
sub-k c = let l = c in omega (arith, l.requires, l.length-m.ensures, l.length-n.ensures)

add-k : tie.Need-overflow_add-k invariant-loop decreases-loop
add-k c = omega (arith, short c.before.before.before.before.before)

loop-holds : tie.Need-loop-k-init invariant-loop decreases-loop
loop-holds c =
    let m = c in
    let n = m in
    let s = n.args in
    left-all
    (take n.length-n.result s.a.coeffs)
    (terms_of s.b)
    n.length-n.result
    m.length-m.result
    c.inverse-inv.result
    s.a.coeffs
    (replicate 32 c.whole-quot.result)
    refl
    (n.length-n.ensures ∙ sym (ap length (same n.before.before.before.before.before)))
    m.length-m.ensures
    (omega (arith, n.requires, m.length-m.ensures))
    (omega (arith, n.requires, m.length-m.ensures, n.length-n.ensures))
    (short n.before.before.before.before.before)
    (c.inverse-inv.ensures ∙ ap (λ (x : Ratio). ratio_of (inv_of x)) c.lead.ensures)
    (search (rules, long))
    refl

sub-k-2 : tie.Need-overflow_sub-k-in-loop-k invariant-loop decreases-loop
sub-k-2 c = omega arith

add-c : tie.Need-overflow_add-c invariant-loop decreases-loop
add-c c = omega (arith, c.loop-k.invariant)

sub-c : tie.Need-overflow_sub-c invariant-loop decreases-loop
sub-c c = omega (arith, c.loop-k.invariant)

mul-c : tie.Need-offset_bounds-rem-k invariant-loop decreases-loop
mul-c c = omega (arith, c.loop-k.invariant)

array-copy-out-c : tie.Need-bounds-rem-k invariant-loop decreases-loop
array-copy-out-c c = omega (arith, c.loop-k.invariant)

checked-mul-requires : tie.Need-checked_mul-requires invariant-loop decreases-loop
checked-mul-requires c κs = tt

enum-known-t : tie.Need-enum_known-t invariant-loop decreases-loop
enum-known-t c = search rules

enum_told : tie.Need-enum_told-1 invariant-loop decreases-loop
enum_told c = search rules

add-no-division : tie.Need-overflow_add-steps invariant-loop decreases-loop
add-no-division c = omega (arith, c.loop-k.invariant)

no-division-requires : tie.Need-no_division-requires invariant-loop decreases-loop
no-division-requires c κs = tt

returns : tie.Need-returns-in_default invariant-loop decreases-loop
returns c =
    let m = c in
    let l = m in
    let n = l in
    let s = n.args in
    let dividend = take n.length-n.result s.a.coeffs in
    c.no_division.ensures
    ∙ product-over dividend (terms_of s.b) n.length-n.result l.length-m.result l.inverse-inv.result l.loop-k.k l.loop-k.steps l.loop-k.rem l.loop-k.quot l.loop-k.invariant (omega arith) _ (sym m.checked_mul.ensures.0 ∙ c.in_default.is)
    ∙ ap (λ (t : List Ratio). divided_of t (terms_of s.b)) (same n.before.before.before.before.before.before.before.before.before.before.before)

add-row-for : tie.Need-overflow_add-steps-in-loop-k invariant-loop decreases-loop
add-row-for c = omega (arith, c.loop-k.invariant)

row-for-requires : tie.Need-row_for-row-requires invariant-loop decreases-loop
row-for-requires c κs = tt

no-division-requires-2 : tie.Need-no_division-requires-then-not-row invariant-loop decreases-loop
no-division-requires-2 c κs = tt

returns-2 : tie.Need-returns-then-not-row invariant-loop decreases-loop
returns-2 c =
    let r = c in
    let m = r in
    let l = m in
    let n = l in
    let s = n.args in
    let dividend = take n.length-n.result s.a.coeffs in
    c.no_division-then-not-row.ensures
    ∙ row-refused dividend (terms_of s.b) n.length-n.result l.length-m.result l.inverse-inv.result l.loop-k.k l.loop-k.steps l.loop-k.rem l.loop-k.quot l.loop-k.invariant (omega arith) _ r.row_for-row.result (sym m.checked_mul.ensures.0 ∙ r.in-Ok.is) r.row_for-row.ensures (not-true _ c.if-not-row.true)
    ∙ ap (λ (t : List Ratio). divided_of t (terms_of s.b)) (same n.before.before.before.before.before.before.before.before.before.before.before.before.before.before)

mul-quot : tie.Need-offset_bounds-quot-k invariant-loop decreases-loop
mul-quot c = omega (arith, c.loop-k.invariant)

array-set-from-quot : tie.Need-bounds-quot-k invariant-loop decreases-loop
array-set-from-quot c = omega (arith, c.loop-k.invariant)

loop-less : tie.Need-loop-k-smaller invariant-loop decreases-loop
loop-less c = omega arith

loop-again : tie.Need-loop-k-preserved invariant-loop decreases-loop
loop-again c =
    let r = c in
    let m = r in
    let l = m in
    let n = l in
    let s = n.args in
    let dividend = take n.length-n.result s.a.coeffs in
    left_less dividend (terms_of s.b) n.length-n.result l.length-m.result l.inverse-inv.result l.loop-k.k l.loop-k.steps l.loop-k.rem l.loop-k.quot l.loop-k.invariant (omega arith) _ r.row_for-row.result (sym m.checked_mul.ensures.0 ∙ r.in-Ok.is) r.row_for-row.ensures (not-false _ c.if-not-row.false)

sub-t16 : tie.Need-overflow_sub-quotient invariant-loop decreases-loop
sub-t16 c = omega (arith, c.loop-k.invariant)

add-t33 : tie.Need-overflow_add-quotient invariant-loop decreases-loop
add-t33 c = omega (arith, c.loop-k.invariant)

sub-t33 : tie.Need-overflow_sub-rest invariant-loop decreases-loop
sub-t33 c = omega (arith, c.loop-k.invariant)

normalise-requires : tie.Need-normalise-requires invariant-loop decreases-loop
normalise-requires c κs = tt

normalise-requires-2 : tie.Need-normalise-requires-2 invariant-loop decreases-loop
normalise-requires-2 c κs = tt

returns-3 : tie.Need-returns invariant-loop decreases-loop
returns-3 c =
    let l = c in
    let n = l in
    let s = n.args in
    let dividend = take n.length-n.result s.a.coeffs in
    ap₂ {C = Division} (λ (p q : Poly). record { outcome = no_refusal; quotient = p; rest = q; steps = l.loop-k.steps }) c.normalise.ensures c.normalise-2.ensures
    ∙ left-none dividend (terms_of s.b) n.length-n.result l.length-m.result l.inverse-inv.result l.loop-k.k l.loop-k.steps l.loop-k.rem l.loop-k.quot l.loop-k.invariant (omega arith)
    ∙ ap (λ (t : List Ratio). divided_of t (terms_of s.b)) (same n.before.before.before.before.before.before.before.before.before)

pub quotients_spec : {M : Type 1} → statement M
quotients_spec =
    tie.close
    (tie.spec
    invariant-loop
    decreases-loop
    length-requires
    length-requires-2
    lead-requires
    inverse-requires
    whole-requires
    sub-k
    add-k
    loop-holds
    sub-k-2
    add-c
    sub-c
    mul-c
    array-copy-out-c
    checked-mul-requires
    enum-known-t
    enum_told
    add-no-division
    no-division-requires
    returns
    add-row-for
    row-for-requires
    no-division-requires-2
    returns-2
    mul-quot
    array-set-from-quot
    loop-less
    loop-again
    sub-t16
    add-t33
    sub-t33
    normalise-requires
    normalise-requires-2
    returns-3)

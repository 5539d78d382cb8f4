-- `remainders::discriminant_ratio` meets its contract: the derivative, the resultant, and the two products.
use mathlib.Core.Path.{◌≡◌, sym, ap, ◌∙◌}
use Prim.Native.Nat.{◌+◌, ◌-◌, ◌≤◌}
use native.Mathlib.Nat.{mul-le-mul}
use native.Mathlib.Omega.{arith}
use lib.ListN.{length}
use borrow.Author.Rules.{rules}
use Rattle.ratio.specs.declared.Ratio.{Ratio}
use Rattle.terms.specs.Poly.{terms_of}
use Rattle.terms.specs.Machine.{fine}
use Rattle.terms.proofs.Lists.{long, within-32}
use Rattle.remainders.specs.Answer.{number_of}
use Rattle.remainders.proofs.CodeResultant.{discriminant-zero, discriminant-one, derivative-refused, derivative-few, resultant-refused, discriminant-made, resultant-few}
use Rattle.remainders.proofs.discriminant_ratio.Statement.{statement}
use Rattle.remainders.proofs.discriminant_ratio.Tie as tie

first-32 : (c : tie.Start) → length (terms_of c.args.f) ≤ 32
first-32 c =
    let e : length c.args.f.coeffs ≡ 32 = search (rules, long) in
    within-32 c.args.f.len c.args.f.coeffs e

two : (c : tie.After-differentiate-d) → 2 ≤ length (terms_of c.args.f)
two c =
    let l = c in
    omega (arith, l.length-n.ensures, c.if-n-eq0.false, c.if-n-eq1.false)

few : (c : tie.After-resultant_ratio-r) → c.differentiate-d.result.steps + c.resultant_ratio-r.result.steps ≤ 2264
few c =
    let x = c in
    let s = x in
    let f = terms_of s.args.f in
    let l = first-32 s.before.before.before.before.before.before.before in
    let e : length x.differentiate-d.result.poly.coeffs ≡ 32 = search (rules, long) in
    let m = within-32 x.differentiate-d.result.poly.len x.differentiate-d.result.poly.coeffs e in
    let p = derivative-few f (two x.before.before.before) x.differentiate-d.result x.differentiate-d.ensures l in
    let q = resultant-few f (terms_of x.differentiate-d.result.poly) c.resultant_ratio-r.result c.resultant_ratio-r.ensures l m in
    omega arith

length-requires : tie.Need-length-n-requires
length-requires c κs = search rules

whole-requires : tie.Need-whole-requires
whole-requires c κs = search rules

worked-requires : tie.Need-worked-requires
worked-requires c κs = search rules

returns : tie.Need-returns-then-n-eq0
returns c =
    let l = c in
    c.worked.ensures ∙ ap (λ (r : Ratio). number_of (fine 0 r)) c.whole.ensures ∙ ap number_of (discriminant-zero (terms_of l.args.f) (sym l.length-n.ensures ∙ c.if-n-eq0.true))

whole-requires-2 : tie.Need-whole-requires-then-n-eq1
whole-requires-2 c κs = search rules

worked-requires-2 : tie.Need-worked-requires-then-n-eq1
worked-requires-2 c κs = search rules

returns-2 : tie.Need-returns-then-n-eq1
returns-2 c =
    let l = c in
    c.worked-then-n-eq1.ensures ∙ ap (λ (r : Ratio). number_of (fine 0 r)) c.whole-then-n-eq1.ensures ∙ ap number_of (discriminant-one (terms_of l.args.f) (sym l.length-n.ensures ∙ c.if-n-eq1.true))

differentiate-requires : tie.Need-differentiate-d-requires
differentiate-requires c κs = search rules

enum_told : tie.Need-enum_told-1
enum_told c = search rules

no-number-requires : tie.Need-no_number-requires
no-number-requires c κs = search rules

returns-3 : tie.Need-returns-in-Err
returns-3 c =
    let x = c in
    let f = terms_of x.args.f in
    c.no_number.ensures ∙ derivative-refused f (two x.before.before) x.differentiate-d.result x.differentiate-d.ensures _ c.in-Err.is

enum-told-2 : tie.Need-enum_told-in_default
enum-told-2 c = search rules

resultant-ratio-requires : tie.Need-resultant_ratio-r-requires
resultant-ratio-requires c κs = search rules

enum-told-3 : tie.Need-enum_told-in-Err-o
enum-told-3 c = search rules

add-no-number : tie.Need-overflow_add-d
add-no-number c = omega (arith, few c.before.before.before)

no-number-requires-2 : tie.Need-no_number-requires-in-Err-o
no-number-requires-2 c κs = search rules

returns-4 : tie.Need-returns-in-Err-o
returns-4 c =
    let y = c in
    let x = y in
    let f = terms_of x.args.f in
    c.no_number-in-Err-o.ensures ∙ resultant-refused f (two x.before.before.before.before.before.before.before) x.differentiate-d.result x.differentiate-d.ensures y.in_default.is y.resultant_ratio-r.result y.resultant_ratio-r.ensures _ c.in-Err-o.is

enum-told-4 : tie.Need-enum_told-in_default-o
enum-told-4 c = search rules

sub-sign : tie.Need-overflow_sub-n
sub-sign c = search rules

sub-sign-2 : tie.Need-overflow_sub-n-2
sub-sign-2 c = search rules

mul-sign : tie.Need-overflow_mul-n
mul-sign c =
    let l = c in
    let n = first-32 l.before.before.before.before.before.before.before.before in
    let p : l.length-n.result - 1 ≤ 31 = omega (arith, l.length-n.ensures) in
    let q : l.length-n.result - 2 ≤ 30 = omega (arith, l.length-n.ensures) in
    omega (arith, mul-le-mul p q)

sign-requires : tie.Need-sign-sg-requires
sign-requires c κs = search rules

lead-requires : tie.Need-lead-requires
lead-requires c κs = search rules

inverse-requires : tie.Need-inverse-inv-requires
inverse-requires c κs = search rules

add-join : tie.Need-overflow_add-d-2
add-join c = omega (arith, few c.before.before.before.before.before.before.before)

join-requires : tie.Need-join-requires
join-requires c κs = omega (arith, few c.before.before.before.before.before.before.before)

returns-5 : tie.Need-returns
returns-5 c =
    let y = c in
    let x = y in
    let f = terms_of x.args.f in
    discriminant-made f (two x.before.before.before.before.before.before.before.before.before.before.before) x.differentiate-d.result x.differentiate-d.ensures y.in_default.is y.resultant_ratio-r.result y.resultant_ratio-r.ensures c.in_default-o.is _ _ _ _ _ x.length-n.ensures c.sign-sg.ensures c.lead.ensures c.inverse-inv.ensures c.join.ensures

pub discriminant_ratio_spec : {M : Type 1} → statement M
discriminant_ratio_spec =
    tie.close
    (tie.spec
    length-requires
    whole-requires
    worked-requires
    returns
    whole-requires-2
    worked-requires-2
    returns-2
    differentiate-requires
    enum_told
    no-number-requires
    returns-3
    enum-told-2
    resultant-ratio-requires
    enum-told-3
    add-no-number
    no-number-requires-2
    returns-4
    enum-told-4
    sub-sign
    sub-sign-2
    mul-sign
    sign-requires
    lead-requires
    inverse-requires
    add-join
    join-requires
    returns-5)

-- `remainders::swapped` meets its contract: the resultant in the other order, and one product with the sign.
use mathlib.Core.Path.{◌≡◌, refl, sym, ◌∙◌}
use Prim.Native.Nat.{◌≤◌}
use native.Mathlib.Omega.{arith}
use lib.ListN.{length}
use borrow.Author.Rules.{rules}
use Rattle.terms.specs.Poly.{terms_of}
use Rattle.terms.proofs.Lists.{long, within-32}
use Rattle.remainders.proofs.CodeOrdered.{degrees-fit, ordered-few}
use Rattle.remainders.proofs.CodeResultant.{swapped-refused, sign-refused, sign-made}
use Rattle.remainders.proofs.swapped.Statement.{statement}
use Rattle.remainders.proofs.swapped.Tie as tie

second-32 : (c : tie.Start) → length (terms_of c.args.b) ≤ 32
second-32 c =
    let e : length c.args.b.coeffs ≡ 32 = search (rules, long) in
    within-32 c.args.b.len c.args.b.coeffs e

few : (c : tie.After-ordered-r) → c.ordered-r.result.steps ≤ 2232
few c =
    let s = c in
    ordered-few (terms_of s.args.b) (terms_of s.args.a) c.ordered-r.result c.ordered-r.ensures (second-32 s.before.before.before) (omega (arith, s.requires.1))

length-requires : tie.Need-length-n-requires
length-requires c κs = search rules

length-requires-2 : tie.Need-length-m-requires
length-requires-2 c κs = search rules

ordered-requires : tie.Need-ordered-r-requires
ordered-requires c κs = search rules

enum_told : tie.Need-enum_told-1
enum_told c = search rules

no-number-requires : tie.Need-no_number-requires
no-number-requires c κs = search rules

returns : tie.Need-returns-in-Err
returns c =
    let r = c in
    let s = r in
    c.no_number.ensures ∙ swapped-refused (terms_of s.args.a) (terms_of s.args.b) s.requires.0 s.requires.1 r.ordered-r.result r.ordered-r.ensures _ c.in-Err.is

enum-told-2 : tie.Need-enum_told-in_default
enum-told-2 c = search rules

sub-sign : tie.Need-overflow_sub-n
sub-sign c = search rules

sub-sign-2 : tie.Need-overflow_sub-m
sub-sign-2 c = search rules

mul-sign : tie.Need-overflow_mul-n
mul-sign c =
    let r = c in
    let s = r in
    let f = degrees-fit r.length-n.result r.length-m.result _ refl (omega (arith, r.length-n.ensures, second-32 s.before.before.before.before.before)) (omega (arith, r.length-m.ensures, second-32 s.before.before.before.before.before)) in
    omega arith

sign-requires : tie.Need-sign-requires
sign-requires c κs = search rules

checked-mul-requires : tie.Need-checked_mul-requires
checked-mul-requires c κs = search rules

enum-known-s : tie.Need-enum_known-s
enum-known-s c = search rules

enum-told-3 : tie.Need-enum_told-in_default-checked_mul
enum-told-3 c = search rules

add-no-number : tie.Need-overflow_add-r
add-no-number c = omega (arith, few c.before.before.before.before.before.before)

no-number-requires-2 : tie.Need-no_number-requires-in_default-checked_mul
no-number-requires-2 c κs = search rules

returns-2 : tie.Need-returns-in_default-checked_mul
returns-2 c =
    let m = c in
    let r = m in
    let s = r in
    c.no_number-in_default-checked_mul.ensures ∙ sign-refused (terms_of s.args.a) (terms_of s.args.b) s.requires.0 s.requires.1 r.ordered-r.result r.ordered-r.ensures m.in_default.is _ _ _ r.length-n.ensures r.length-m.ensures m.sign.ensures _ (sym m.checked_mul.ensures.0 ∙ c.in_default-checked_mul.is)

add-worked : tie.Need-overflow_add-r-2
add-worked c = omega (arith, few c.before.before.before.before.before.before)

worked-requires : tie.Need-worked-requires
worked-requires c κs = search rules

returns-3 : tie.Need-returns
returns-3 c =
    let m = c in
    let r = m in
    let s = r in
    c.worked.ensures ∙ sign-made (terms_of s.args.a) (terms_of s.args.b) s.requires.0 s.requires.1 r.ordered-r.result r.ordered-r.ensures m.in_default.is _ _ _ r.length-n.ensures r.length-m.ensures m.sign.ensures _ (sym m.checked_mul.ensures.0 ∙ c.in-Ok.is)

pub swapped_spec : {M : Type 1} → statement M
swapped_spec =
    tie.close
    (tie.spec
    length-requires
    length-requires-2
    ordered-requires
    enum_told
    no-number-requires
    returns
    enum-told-2
    sub-sign
    sub-sign-2
    mul-sign
    sign-requires
    checked-mul-requires
    enum-known-s
    enum-told-3
    add-no-number
    no-number-requires-2
    returns-2
    add-worked
    worked-requires
    returns-3)

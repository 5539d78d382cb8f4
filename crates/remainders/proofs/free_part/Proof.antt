-- `remainders::free_part` meets its contract.
use mathlib.Core.Path.{ap, ◌∙◌}
use Prim.Native.Nat.{◌≤◌}
use native.Mathlib.Omega.{arith}
use lib.ListN.{length}
use Rattle.terms.specs.declared.Poly.{Poly}
use Rattle.terms.specs.Poly.{terms_of}
use Rattle.terms.specs.Answer.{done_with}
use Rattle.terms.proofs.Lists.{long, within-32}
use Rattle.remainders.proofs.CodeFree.{square-none, derivative-refused, derivative-few, divisor-few, divisor-refused, left-few, square-done}
use borrow.Author.Rules.{rules}
use Rattle.remainders.proofs.free_part.Statement.{statement}
use Rattle.remainders.proofs.free_part.Tie as tie

length-requires : tie.Need-length-requires
length-requires c κs = search rules

zero-requires : tie.Need-zero-requires
zero-requires c κs = search rules

done-requires : tie.Need-done-requires
done-requires c κs = search rules

returns : tie.Need-returns-then-length-eq0
returns c =
    let l = c in
    c.done.ensures ∙ ap (λ (p : Poly). done_with p 0) c.zero.ensures ∙ square-none (terms_of l.args.f) (omega (arith, l.length.ensures))

short : (c : tie.Start) → length (terms_of c.args.f) ≤ 32
short c = within-32 c.args.f.len c.args.f.coeffs (search (rules, long))

some : (c : tie.Else-length-eq0) → 1 ≤ length (terms_of c.args.f)
some c = omega (arith, c.length.ensures)

differentiate-requires : tie.Need-differentiate-d-requires
differentiate-requires c κs = search rules

enum_told : tie.Need-enum_told-1
enum_told c = search rules

refused-requires : tie.Need-refused-requires
refused-requires c κs = search rules

returns-2 : tie.Need-returns-in-Err
returns-2 c =
    let d = c in
    c.refused.ensures ∙ derivative-refused (terms_of d.args.f) (some d.before.before.before) (short d.before.before.before.before.before) d.differentiate-d.result d.differentiate-d.ensures _ c.in-Err.is

enum-told-2 : tie.Need-enum_told-in_default
enum-told-2 c = search rules

greatest-requires : tie.Need-greatest-g-requires
greatest-requires c κs = search rules

enum-told-3 : tie.Need-enum_told-in-Err-og
enum-told-3 c = search rules

add-refused : tie.Need-overflow_add-d
add-refused c =
    let g = c in
    let t = g in
    let d = t in
    omega (arith, derivative-few (terms_of d.args.f) (some d.before.before.before.before.before.before.before) (short d.before.before.before.before.before.before.before.before.before) d.differentiate-d.result d.differentiate-d.ensures, divisor-few (terms_of d.args.f) (some d.before.before.before.before.before.before.before) (short d.before.before.before.before.before.before.before.before.before) d.differentiate-d.result d.differentiate-d.ensures t.in_default.is g.greatest-g.result g.greatest-g.ensures)

refused-requires-2 : tie.Need-refused-requires-in-Err-og
refused-requires-2 c κs = search rules

returns-3 : tie.Need-returns-in-Err-og
returns-3 c =
    let g = c in
    let t = g in
    let d = t in
    c.refused-in-Err-og.ensures ∙ divisor-refused (terms_of d.args.f) (some d.before.before.before.before.before.before.before.before) (short d.before.before.before.before.before.before.before.before.before.before) d.differentiate-d.result d.differentiate-d.ensures t.in_default.is g.greatest-g.result g.greatest-g.ensures _ c.in-Err-og.is

enum-told-4 : tie.Need-enum_told-in_default-og
enum-told-4 c = search rules

free-of-requires : tie.Need-free_of-requires
free-of-requires c κs = search rules

add-later : tie.Need-overflow_add-d-2
add-later c =
    let w = c in
    let p = w in
    let g = p in
    let t = g in
    let d = t in
    omega (arith, derivative-few (terms_of d.args.f) (some d.before.before.before.before.before.before.before.before.before) (short d.before.before.before.before.before.before.before.before.before.before.before) d.differentiate-d.result d.differentiate-d.ensures, divisor-few (terms_of d.args.f) (some d.before.before.before.before.before.before.before.before.before) (short d.before.before.before.before.before.before.before.before.before.before.before) d.differentiate-d.result d.differentiate-d.ensures t.in_default.is g.greatest-g.result g.greatest-g.ensures)

later-requires : tie.Need-later-requires
later-requires c κs =
    let w = c in
    let p = w in
    let g = p in
    let t = g in
    let d = t in
    (omega (arith, derivative-few (terms_of d.args.f) (some d.before.before.before.before.before.before.before.before.before) (short d.before.before.before.before.before.before.before.before.before.before.before) d.differentiate-d.result d.differentiate-d.ensures, divisor-few (terms_of d.args.f) (some d.before.before.before.before.before.before.before.before.before) (short d.before.before.before.before.before.before.before.before.before.before.before) d.differentiate-d.result d.differentiate-d.ensures t.in_default.is g.greatest-g.result g.greatest-g.ensures), omega (arith, left-few (terms_of d.args.f) (some d.before.before.before.before.before.before.before.before.before) (short d.before.before.before.before.before.before.before.before.before.before.before) d.differentiate-d.result d.differentiate-d.ensures t.in_default.is g.greatest-g.result g.greatest-g.ensures p.in_default-og.is w.free_of.result w.free_of.ensures))

returns-4 : tie.Need-returns
returns-4 c =
    let w = c in
    let p = w in
    let g = p in
    let t = g in
    let d = t in
    c.later.ensures ∙ square-done (terms_of d.args.f) (some d.before.before.before.before.before.before.before.before.before.before) (short d.before.before.before.before.before.before.before.before.before.before.before.before) d.differentiate-d.result d.differentiate-d.ensures t.in_default.is g.greatest-g.result g.greatest-g.ensures p.in_default-og.is w.free_of.result w.free_of.ensures

pub free_part_spec : {M : Type 1} → statement M
free_part_spec =
    tie.close
    (tie.spec
    length-requires
    zero-requires
    done-requires
    returns
    differentiate-requires
    enum_told
    refused-requires
    returns-2
    enum-told-2
    greatest-requires
    enum-told-3
    add-refused
    refused-requires-2
    returns-3
    enum-told-4
    free-of-requires
    add-later
    later-requires
    returns-4)

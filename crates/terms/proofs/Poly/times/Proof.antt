-- `terms::Poly::times` meets its contract: what `rows` requires is tested.
use mathlib.Core.Path.{◌≡◌, ap, ◌∙◌}
use native.Mathlib.Omega.{arith}
use lib.ListN.{length}
use borrow.Author.Rules.{rules}
use Rattle.terms.specs.declared.Poly.{Poly}
use Rattle.terms.specs.Poly.{terms_of}
use Rattle.terms.specs.Answer.{done_with}
use Rattle.terms.proofs.Lists.{long, within-32}
use Rattle.terms.proofs.Product.{none_left, none_right, product-long}
use Rattle.terms.proofs.Poly.times.Statement.{statement}
use Rattle.terms.proofs.Poly.times.Tie as tie

length-requires : tie.Need-length-n-requires
length-requires c κs = tt

length-requires-2 : tie.Need-length-m-requires
length-requires-2 c κs = tt

zero-requires : tie.Need-zero-requires
zero-requires c κs = tt

done-requires : tie.Need-done-requires
done-requires c κs = tt

returns : tie.Need-returns-then-n-eq0
returns c =
    let l = c in
    let s = l.args in
    c.done.ensures ∙ ap (λ (p : Poly). done_with p 0) c.zero.ensures ∙ none_left (terms_of s.self) (terms_of s.other) (omega (arith, l.length-n.ensures))

zero-requires-2 : tie.Need-zero-requires-then-m-eq0
zero-requires-2 c κs = tt

done-requires-2 : tie.Need-done-requires-then-m-eq0
done-requires-2 c κs = tt

returns-2 : tie.Need-returns-then-m-eq0
returns-2 c =
    let l = c in
    let s = l.args in
    c.done-then-m-eq0.ensures ∙ ap (λ (p : Poly). done_with p 0) c.zero-then-m-eq0.ensures ∙ none_right (terms_of s.self) (terms_of s.other) (omega (arith, l.length-m.ensures))

add-if3 : tie.Need-overflow_add-n
add-if3 c =
    let l = c in
    let s = l.args in
    let e : length s.self.coeffs ≡ 32 = search (rules, long) in
    let f : length s.other.coeffs ≡ 32 = search (rules, long) in
    omega (arith, l.length-n.ensures, l.length-m.ensures, within-32 s.self.len s.self.coeffs e, within-32 s.other.len s.other.coeffs f)

refused-requires : tie.Need-refused-requires
refused-requires c κs = tt

returns-3 : tie.Need-returns-then-n-m-gt33
returns-3 c =
    let l = c in
    let s = l.args in
    c.refused.ensures ∙ product-long (terms_of s.self) (terms_of s.other) (omega (arith, l.length-n.ensures)) (omega (arith, l.length-m.ensures)) (omega (arith, l.length-n.ensures, l.length-m.ensures))

rows-requires : tie.Need-rows-requires
rows-requires c κs =
    let l = c in
    (l.length-n.ensures, l.length-m.ensures, omega arith, omega arith, omega arith)

returns-4 : tie.Need-returns
returns-4 c = c.rows.ensures

pub times_spec : {M : Type 1} → statement M
times_spec =
    tie.close
    (tie.spec
    length-requires
    length-requires-2
    zero-requires
    done-requires
    returns
    zero-requires-2
    done-requires-2
    returns-2
    add-if3
    refused-requires
    returns-3
    rows-requires
    returns-4)

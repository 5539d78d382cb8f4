-- `remainders::free_of` meets its contract.
use mathlib.Core.Path.{ap, ◌∙◌}
use Prim.Native.Nat.{◌≤◌}
use native.Mathlib.Omega.{arith}
use lib.ListN.{length}
use Rattle.terms.specs.declared.Poly.{Poly}
use Rattle.terms.specs.Poly.{terms_of}
use Rattle.terms.specs.Answer.{done_with}
use Rattle.terms.proofs.Lists.{long, within-32}
use Rattle.remainders.proofs.CodeAnswer.{division-few}
use Rattle.remainders.proofs.CodeFree.{freed-constant, freed-refused, freed-not, freed-done, quotient-few}
use borrow.Author.Rules.{rules}
use Rattle.remainders.proofs.free_of.Statement.{statement}
use Rattle.remainders.proofs.free_of.Tie as tie

length-requires : tie.Need-length-requires
length-requires c κs = search rules

normalise-requires : tie.Need-normalise-requires
normalise-requires c κs = search rules

done-requires : tie.Need-done-requires
done-requires c κs = search rules

returns : tie.Need-returns-then-length-lt2
returns c =
    let s = c.args in
    c.done.ensures ∙ ap (λ (p : Poly). done_with p 0) c.normalise.ensures ∙ freed-constant (terms_of s.f) (terms_of s.g) (omega (arith, c.length.ensures))

divide-requires : tie.Need-divide-d-requires
divide-requires c κs = search rules

enum_told : tie.Need-enum_told-1
enum_told c = search rules

refused-requires : tie.Need-refused-requires
refused-requires c κs = search rules

returns-2 : tie.Need-returns-in-Err
returns-2 c =
    let d = c in
    let s = d.args in
    c.refused.ensures ∙ freed-refused (terms_of s.f) (terms_of s.g) d.divide-d.result (omega (arith, d.length.ensures)) d.divide-d.ensures _ c.in-Err.is

enum-told-2 : tie.Need-enum_told-in_default
enum-told-2 c = search rules

length-requires-2 : tie.Need-length-requires-2
length-requires-2 c κs = search rules

normalise-requires-2 : tie.Need-normalise-requires-then-length-gt0
normalise-requires-2 c κs = search rules

done-requires-2 : tie.Need-done-requires-then-length-gt0
done-requires-2 c κs = search rules

returns-3 : tie.Need-returns-then-length-gt0
returns-3 c =
    let l = c in
    let t = l in
    let d = t in
    let s = d.args in
    c.done-then-length-gt0.ensures
    ∙ ap (λ (p : Poly). done_with p d.divide-d.result.steps) c.normalise-then-length-gt0.ensures
    ∙ freed-not (terms_of s.f) (terms_of s.g) d.divide-d.result (omega (arith, d.length.ensures)) d.divide-d.ensures t.in_default.is (omega (arith, l.length-2.ensures))

monic-requires : tie.Need-monic-requires
monic-requires c κs = search rules

short-f : (c : tie.Start) → length (terms_of c.args.f) ≤ 32
short-f c = within-32 c.args.f.len c.args.f.coeffs (search (rules, long))

short-g : (c : tie.Start) → length (terms_of c.args.g) ≤ 32
short-g c = within-32 c.args.g.len c.args.g.coeffs (search (rules, long))

later-requires : tie.Need-later-requires
later-requires c κs =
    let t = c in
    let d = t in
    let s = d.args in
    let n = short-f d.before.before.before.before.before.before.before.before.before in
    let m = short-g d.before.before.before.before.before.before.before.before.before in (
      omega (arith, division-few (terms_of s.f) (terms_of s.g) d.divide-d.result (omega (arith, d.length.ensures)) d.divide-d.ensures n m),
      omega (arith, quotient-few (terms_of s.f) (terms_of s.g) d.divide-d.result (omega (arith, d.length.ensures)) d.divide-d.ensures t.in_default.is n c.monic.result c.monic.ensures),
    )

returns-4 : tie.Need-returns
returns-4 c =
    let m = c in
    let l = m in
    let t = l in
    let d = t in
    let s = d.args in
    c.later.ensures ∙ freed-done (terms_of s.f) (terms_of s.g) d.divide-d.result (omega (arith, d.length.ensures)) d.divide-d.ensures t.in_default.is (omega (arith, l.length-2.ensures)) m.monic.result m.monic.ensures

pub free_of_spec : {M : Type 1} → statement M
free_of_spec =
    tie.close
    (tie.spec
    length-requires
    normalise-requires
    done-requires
    returns
    divide-requires
    enum_told
    refused-requires
    returns-2
    enum-told-2
    length-requires-2
    normalise-requires-2
    done-requires-2
    returns-3
    monic-requires
    later-requires
    returns-4)

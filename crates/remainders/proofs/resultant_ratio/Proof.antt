-- `remainders::resultant_ratio` meets its contract: by the two lengths.
use mathlib.Core.Path.{◌≡◌, sym, ap, ◌∙◌}
use Prim.Native.Nat.{◌≤◌}
use native.Mathlib.Omega.{arith}
use lib.ListN.{length}
use borrow.Author.Rules.{rules}
use Rattle.ratio.specs.Refusal.{zero_r}
use Rattle.ratio.specs.declared.Ratio.{Ratio}
use Rattle.terms.specs.Poly.{terms_of}
use Rattle.terms.specs.Machine.{fine}
use Rattle.terms.proofs.Lists.{long, past, within-32, read-terms}
use Rattle.remainders.specs.Answer.{number_of}
use Rattle.remainders.proofs.CodeResultant.{left-zero, right_zero, left-constant-told, right-constant-told, ordered-is}
use Rattle.remainders.proofs.resultant_ratio.Statement.{statement}
use Rattle.remainders.proofs.resultant_ratio.Tie as tie

first-32 : (c : tie.Start) → length (terms_of c.args.a) ≤ 32
first-32 c =
    let e : length c.args.a.coeffs ≡ 32 = search (rules, long) in
    within-32 c.args.a.len c.args.a.coeffs e

second-32 : (c : tie.Start) → length (terms_of c.args.b) ≤ 32
second-32 c =
    let e : length c.args.b.coeffs ≡ 32 = search (rules, long) in
    within-32 c.args.b.len c.args.b.coeffs e

length-requires : tie.Need-length-n-requires
length-requires c κs = search rules

length-requires-2 : tie.Need-length-m-requires
length-requires-2 c κs = search rules

whole-requires : tie.Need-whole-requires
whole-requires c κs = search rules

worked-requires : tie.Need-worked-requires
worked-requires c κs = search rules

returns : tie.Need-returns-then-n-eq0
returns c =
    let l = c in
    let s = l.args in
    c.worked.ensures ∙ ap (λ (r : Ratio). number_of (fine 0 r)) c.whole.ensures ∙ ap number_of (left-zero (terms_of s.a) (terms_of s.b) (sym l.length-n.ensures ∙ c.if-n-eq0.true))

whole-requires-2 : tie.Need-whole-requires-then-m-eq0
whole-requires-2 c κs = search rules

worked-requires-2 : tie.Need-worked-requires-then-m-eq0
worked-requires-2 c κs = search rules

returns-2 : tie.Need-returns-then-m-eq0
returns-2 c =
    let l = c in
    let s = l.args in
    c.worked-then-m-eq0.ensures ∙ ap (λ (r : Ratio). number_of (fine 0 r)) c.whole-then-m-eq0.ensures ∙ ap number_of (right_zero (terms_of s.a) (terms_of s.b) (sym l.length-m.ensures ∙ c.if-m-eq0.true))

element-copy-out-c : tie.Need-bounds-a-0
element-copy-out-c c = search rules

sub-power : tie.Need-overflow_sub-m
sub-power c = search rules

power-requires : tie.Need-power-requires
power-requires c κs = let l = c in omega (arith, l.length-m.ensures, second-32 l.before.before.before.before.before.before)

returns-3 : tie.Need-returns-then-n-eq1
returns-3 c =
    let l = c in
    let s = l.args in
    let one : length (terms_of s.a) ≡ 1 = sym l.length-n.ensures ∙ c.if-n-eq1.true in
    left-constant-told (terms_of s.a) (terms_of s.b) _ _ _ one (omega (arith, l.length-m.ensures, c.if-m-eq0.false)) (read-terms s.a.len s.a.coeffs 0 past zero_r (omega arith)) l.length-m.ensures c.power.ensures

element-copy-out-c-2 : tie.Need-bounds-b-0
element-copy-out-c-2 c = search rules

sub-power-2 : tie.Need-overflow_sub-n
sub-power-2 c = search rules

power-requires-2 : tie.Need-power-requires-then-m-eq1
power-requires-2 c κs = let l = c in omega (arith, l.length-n.ensures, first-32 l.before.before.before.before.before.before.before)

returns-4 : tie.Need-returns-then-m-eq1
returns-4 c =
    let l = c in
    let s = l.args in
    let one : length (terms_of s.b) ≡ 1 = sym l.length-m.ensures ∙ c.if-m-eq1.true in
    right-constant-told (terms_of s.a) (terms_of s.b) _ _ _ (omega (arith, l.length-n.ensures, c.if-n-eq0.false, c.if-n-eq1.false)) one (read-terms s.b.len s.b.coeffs 0 past zero_r (omega arith)) l.length-n.ensures c.power-then-m-eq1.ensures

swapped-requires : tie.Need-swapped-requires
swapped-requires c κs = search rules

returns-5 : tie.Need-returns-then-n-m
returns-5 c = search rules

ordered-requires : tie.Need-ordered-requires
ordered-requires c κs = search rules

returns-6 : tie.Need-returns
returns-6 c =
    let l = c in
    let s = l.args in
    c.ordered.ensures ∙ ap number_of (ordered-is (terms_of s.a) (terms_of s.b) (omega (arith, l.length-m.ensures, c.if-m-eq0.false, c.if-m-eq1.false)) (omega (arith, l.length-m.ensures, l.length-n.ensures, c.if-n-m.false)))

pub resultant_ratio_spec : {M : Type 1} → statement M
resultant_ratio_spec =
    tie.close
    (tie.spec
    length-requires
    length-requires-2
    whole-requires
    worked-requires
    returns
    whole-requires-2
    worked-requires-2
    returns-2
    element-copy-out-c
    sub-power
    power-requires
    returns-3
    element-copy-out-c-2
    sub-power-2
    power-requires-2
    returns-4
    swapped-requires
    returns-5
    ordered-requires
    returns-6)

-- `calls::two` meets its contract.
use mathlib.Core.Path.{ap, ◌∙◌}
use borrow.Author.Tests.{eq-eqb, ne_eqb}
use Rattle.terms.specs.Poly.{terms_of}
use Rattle.terms.specs.Answer.{value_of}
use Rattle.calls.specs.Call.{told_answer, told_whole, told_step}
use Rattle.calls.proofs.Telling.{open-add, open-sub, open-mul, open-divide, open-gcd, open-value}
use borrow.Author.Rules.{rules}
use Rattle.calls.proofs.two.Statement.{statement}
use Rattle.calls.proofs.two.Tie as tie

zip-requires : tie.Need-zip-requires
zip-requires c κs = search rules

told-requires : tie.Need-told-requires
told-requires c κs = search rules

zip-requires-2 : tie.Need-zip-requires-then-op-eq1
zip-requires-2 c κs = search rules

told-requires-2 : tie.Need-told-requires-then-op-eq1
told-requires-2 c κs = search rules

times-requires : tie.Need-times-requires
times-requires c κs = search rules

told-requires-3 : tie.Need-told-requires-then-op-eq2
told-requires-3 c κs = search rules

divide-requires : tie.Need-divide-requires
divide-requires c κs = search rules

greatest-requires : tie.Need-greatest-requires
greatest-requires c κs = search rules

told-requires-4 : tie.Need-told-requires-then-op-eq4
told-requires-4 c κs = search rules

resultant-requires : tie.Need-resultant-requires
resultant-requires c κs = search rules

told-whole-requires : tie.Need-told_whole-requires
told-whole-requires c κs = search rules

point-requires : tie.Need-point-requires
point-requires c κs = search rules

value-at-requires : tie.Need-value_at-requires
value-at-requires c κs = search rules

told-step-requires : tie.Need-told_step-requires
told-step-requires c κs = search rules

factored-requires : tie.Need-factored-requires
factored-requires c κs = search rules

returns : tie.Need-returns-then-op-eq0
returns c = rw (eq-eqb c.args.op 0 c.if-op-eq0.true) (c.told.ensures ∙ ap told_answer (c.zip.ensures ∙ open-add c.args.a c.args.b c.requires.0 c.requires.1))

returns-2 : tie.Need-returns-then-op-eq1
returns-2 c = rw (ne_eqb c.args.op 0 c.if-op-eq0.false, eq-eqb c.args.op 1 c.if-op-eq1.true) (c.told-then-op-eq1.ensures ∙ ap told_answer (c.zip-then-op-eq1.ensures ∙ open-sub c.args.a c.args.b c.requires.0 c.requires.1))

returns-3 : tie.Need-returns-then-op-eq2
returns-3 c = rw (ne_eqb c.args.op 0 c.if-op-eq0.false, ne_eqb c.args.op 1 c.if-op-eq1.false, eq-eqb c.args.op 2 c.if-op-eq2.true) (c.told-then-op-eq2.ensures ∙ ap told_answer (c.times.ensures ∙ open-mul c.args.a c.args.b c.requires.0 c.requires.1))

returns-4 : tie.Need-returns-then-op-eq3
returns-4 c = rw (ne_eqb c.args.op 0 c.if-op-eq0.false, ne_eqb c.args.op 1 c.if-op-eq1.false, ne_eqb c.args.op 2 c.if-op-eq2.false, eq-eqb c.args.op 3 c.if-op-eq3.true) (c.divide.ensures ∙ open-divide c.args.a c.args.b c.requires.0 c.requires.1)

returns-5 : tie.Need-returns-then-op-eq4
returns-5 c = rw (ne_eqb c.args.op 0 c.if-op-eq0.false, ne_eqb c.args.op 1 c.if-op-eq1.false, ne_eqb c.args.op 2 c.if-op-eq2.false, ne_eqb c.args.op 3 c.if-op-eq3.false, eq-eqb c.args.op 4 c.if-op-eq4.true) (c.told-then-op-eq4.ensures ∙ ap told_answer (c.greatest.ensures ∙ open-gcd c.args.a c.args.b c.requires.0 c.requires.1))

returns-6 : tie.Need-returns-then-op-eq5
returns-6 c = rw (ne_eqb c.args.op 0 c.if-op-eq0.false, ne_eqb c.args.op 1 c.if-op-eq1.false, ne_eqb c.args.op 2 c.if-op-eq2.false, ne_eqb c.args.op 3 c.if-op-eq3.false, ne_eqb c.args.op 4 c.if-op-eq4.false, eq-eqb c.args.op 5 c.if-op-eq5.true) (c.told_whole.ensures ∙ ap told_whole c.resultant.ensures.0)

returns-7 : tie.Need-returns-then-op-eq12
returns-7 c = rw (ne_eqb c.args.op 0 c.if-op-eq0.false, ne_eqb c.args.op 1 c.if-op-eq1.false, ne_eqb c.args.op 2 c.if-op-eq2.false, ne_eqb c.args.op 3 c.if-op-eq3.false, ne_eqb c.args.op 4 c.if-op-eq4.false, ne_eqb c.args.op 5 c.if-op-eq5.false, eq-eqb c.args.op 12 c.if-op-eq12.true) (c.told_step.ensures ∙ ap told_step (c.value_at.ensures ∙ ap (value_of (terms_of c.args.a)) c.point.ensures ∙ open-value c.args.a c.args.b c.requires.0 c.requires.1))

returns-8 : tie.Need-returns-else-op-eq12
returns-8 c = rw (ne_eqb c.args.op 0 c.if-op-eq0.false, ne_eqb c.args.op 1 c.if-op-eq1.false, ne_eqb c.args.op 2 c.if-op-eq2.false, ne_eqb c.args.op 3 c.if-op-eq3.false, ne_eqb c.args.op 4 c.if-op-eq4.false, ne_eqb c.args.op 5 c.if-op-eq5.false, ne_eqb c.args.op 12 c.if-op-eq12.false) c.factored.ensures

pub two_spec : {M : Type 1} → statement M
two_spec =
    tie.close
    (tie.spec
    zip-requires
    told-requires
    zip-requires-2
    told-requires-2
    times-requires
    told-requires-3
    divide-requires
    greatest-requires
    told-requires-4
    resultant-requires
    told-whole-requires
    point-requires
    value-at-requires
    told-step-requires
    factored-requires
    returns
    returns-2
    returns-3
    returns-4
    returns-5
    returns-6
    returns-7
    returns-8)

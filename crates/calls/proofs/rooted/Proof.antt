-- `calls::rooted` meets its contract.
use mathlib.Core.Path.{ap, ◌∙◌}
use borrow.Author.Tests.{eq-eqb, ne_eqb}
use Rattle.calls.specs.Call.{told_answer, told_step, told_roots}
use borrow.Author.Rules.{rules}
use Rattle.calls.proofs.rooted.Statement.{statement}
use Rattle.calls.proofs.rooted.Tie as tie

rational-roots-requires : tie.Need-rational_roots-requires
rational-roots-requires c κs = search rules

told-roots-requires : tie.Need-told_roots-requires
told-roots-requires c κs = search rules

content-requires : tie.Need-content-requires
content-requires c κs = search rules

told-step-requires : tie.Need-told_step-requires
told-step-requires c κs = search rules

primitive-part-requires : tie.Need-primitive_part-requires
primitive-part-requires c κs = search rules

told-requires : tie.Need-told-requires
told-requires c κs = search rules

no-division-requires : tie.Need-no_division-requires
no-division-requires c κs = search rules

returns : tie.Need-returns-then-op-eq9
returns c = rw (eq-eqb c.args.op 9 c.if-op-eq9.true) (c.told_roots.ensures ∙ ap told_roots c.rational_roots.ensures.0)

returns-2 : tie.Need-returns-then-op-eq17
returns-2 c = rw (ne_eqb c.args.op 9 c.if-op-eq9.false, eq-eqb c.args.op 17 c.if-op-eq17.true) (c.told_step.ensures ∙ ap told_step c.content.ensures.0)

returns-3 : tie.Need-returns-then-op-eq18
returns-3 c = rw (ne_eqb c.args.op 9 c.if-op-eq9.false, ne_eqb c.args.op 17 c.if-op-eq17.false, eq-eqb c.args.op 18 c.if-op-eq18.true) (c.told.ensures ∙ ap told_answer c.primitive_part.ensures.0)

returns-4 : tie.Need-returns-else-op-eq18
returns-4 c = rw (ne_eqb c.args.op 9 c.if-op-eq9.false, ne_eqb c.args.op 17 c.if-op-eq17.false, ne_eqb c.args.op 18 c.if-op-eq18.false) c.no_division.ensures

pub rooted_spec : {M : Type 1} → statement M
rooted_spec =
    tie.close
    (tie.spec
    rational-roots-requires
    told-roots-requires
    content-requires
    told-step-requires
    primitive-part-requires
    told-requires
    no-division-requires
    returns
    returns-2
    returns-3
    returns-4)

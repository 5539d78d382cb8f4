-- `calls::factored` meets its contract.
use mathlib.Core.Path.{ap, ap₂, ◌∙◌}
use borrow.Author.Tests.{eq-eqb, ne_eqb}
use Rattle.calls.specs.Call.{told_answer, told_factor, whole_factors}
use borrow.Author.Rules.{rules}
use Rattle.calls.proofs.factored.Statement.{statement}
use Rattle.calls.proofs.factored.Tie as tie

factor-requires : tie.Need-factor-requires
factor-requires c κs = search rules

place-requires : tie.Need-place-requires
place-requires c κs = search rules

told-factor-requires : tie.Need-told_factor-requires
told-factor-requires c κs = search rules

rebuild-requires : tie.Need-rebuild-requires
rebuild-requires c κs = search rules

told-requires : tie.Need-told-requires
told-requires c κs = search rules

square-free-decomposition-requires : tie.Need-square_free_decomposition-requires
square-free-decomposition-requires c κs = search rules

as-factors-requires : tie.Need-as_factors-requires
as-factors-requires c κs = search rules

place-requires-2 : tie.Need-place-requires-then-op-eq19
place-requires-2 c κs = search rules

told-factor-requires-2 : tie.Need-told_factor-requires-then-op-eq19
told-factor-requires-2 c κs = search rules

one-requires : tie.Need-one-requires
one-requires c κs = search rules

returns : tie.Need-returns-then-op-eq10
returns c = rw (eq-eqb c.args.op 10 c.if-op-eq10.true) (c.told_factor.ensures ∙ ap₂ told_factor c.factor.ensures.0 c.place.ensures)

returns-2 : tie.Need-returns-then-op-eq11
returns-2 c = rw (ne_eqb c.args.op 10 c.if-op-eq10.false, eq-eqb c.args.op 11 c.if-op-eq11.true) (c.told.ensures ∙ ap told_answer c.rebuild.ensures.0)

returns-3 : tie.Need-returns-then-op-eq19
returns-3 c = rw (ne_eqb c.args.op 10 c.if-op-eq10.false, ne_eqb c.args.op 11 c.if-op-eq11.false, eq-eqb c.args.op 19 c.if-op-eq19.true) (c.told_factor-then-op-eq19.ensures ∙ ap₂ told_factor (c.as_factors.ensures ∙ ap whole_factors c.square_free_decomposition.ensures.0) c.place-then-op-eq19.ensures)

returns-4 : tie.Need-returns-else-op-eq19
returns-4 c = rw (ne_eqb c.args.op 10 c.if-op-eq10.false, ne_eqb c.args.op 11 c.if-op-eq11.false, ne_eqb c.args.op 19 c.if-op-eq19.false) c.one.ensures

pub factored_spec : {M : Type 1} → statement M
factored_spec =
    tie.close
    (tie.spec
    factor-requires
    place-requires
    told-factor-requires
    rebuild-requires
    told-requires
    square-free-decomposition-requires
    as-factors-requires
    place-requires-2
    told-factor-requires-2
    one-requires
    returns
    returns-2
    returns-3
    returns-4)

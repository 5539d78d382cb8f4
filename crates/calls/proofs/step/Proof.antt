-- `calls::step` meets its contract.
use mathlib.Core.Path.{ap₂, ◌∙◌}
use borrow.Author.Tests.{eq-eqb, ne_eqb}
use mir.Facts.{to_z-of_z}
use Rattle.ratio.specs.Step.{new_of}
use borrow.Author.Rules.{rules}
use Rattle.calls.proofs.step.Statement.{statement}
use Rattle.calls.proofs.step.Tie as tie

checked-add-requires : tie.Need-checked_add-requires
checked-add-requires c κs = search rules

checked-sub-requires : tie.Need-checked_sub-requires
checked-sub-requires c κs = search rules

checked-mul-requires : tie.Need-checked_mul-requires
checked-mul-requires c κs = search rules

checked-neg-requires : tie.Need-checked_neg-requires
checked-neg-requires c κs = search rules

inverse-requires : tie.Need-inverse-requires
inverse-requires c κs = search rules

new-requires : tie.Need-new-requires
new-requires c κs = search rules

returns : tie.Need-returns-then-op-eq0
returns c = rw (eq-eqb c.args.op 0 c.if-op-eq0.true) c.checked_add.ensures.0

returns-2 : tie.Need-returns-then-op-eq1
returns-2 c = rw (ne_eqb c.args.op 0 c.if-op-eq0.false, eq-eqb c.args.op 1 c.if-op-eq1.true) c.checked_sub.ensures.0

returns-3 : tie.Need-returns-then-op-eq2
returns-3 c = rw (ne_eqb c.args.op 0 c.if-op-eq0.false, ne_eqb c.args.op 1 c.if-op-eq1.false, eq-eqb c.args.op 2 c.if-op-eq2.true) c.checked_mul.ensures.0

returns-4 : tie.Need-returns-then-op-eq3
returns-4 c = rw (ne_eqb c.args.op 0 c.if-op-eq0.false, ne_eqb c.args.op 1 c.if-op-eq1.false, ne_eqb c.args.op 2 c.if-op-eq2.false, eq-eqb c.args.op 3 c.if-op-eq3.true) c.checked_neg.ensures.0

returns-5 : tie.Need-returns-then-op-eq4
returns-5 c = rw (ne_eqb c.args.op 0 c.if-op-eq0.false, ne_eqb c.args.op 1 c.if-op-eq1.false, ne_eqb c.args.op 2 c.if-op-eq2.false, ne_eqb c.args.op 3 c.if-op-eq3.false, eq-eqb c.args.op 4 c.if-op-eq4.true) c.inverse.ensures.0

returns-6 : tie.Need-returns-then-op-eq5
returns-6 c = let a = c.args.a in rw (ne_eqb c.args.op 0 c.if-op-eq0.false, ne_eqb c.args.op 1 c.if-op-eq1.false, ne_eqb c.args.op 2 c.if-op-eq2.false, ne_eqb c.args.op 3 c.if-op-eq3.false, ne_eqb c.args.op 4 c.if-op-eq4.false, eq-eqb c.args.op 5 c.if-op-eq5.true) (c.new.ensures.0 ∙ ap₂ new_of (to_z-of_z {w = Rattle.std.proofs.Common.w64} {z = a.num} (record { sfits = c.struct_told-1.given.0.1 })) (to_z-of_z {w = Rattle.std.proofs.Common.w64} {z = a.den} (record { sfits = c.struct_told-then-op-eq5-1.given.1.0.1 })))

returns-7 : tie.Need-returns-else-op-eq5
returns-7 c = rw (ne_eqb c.args.op 0 c.if-op-eq0.false, ne_eqb c.args.op 1 c.if-op-eq1.false, ne_eqb c.args.op 2 c.if-op-eq2.false, ne_eqb c.args.op 3 c.if-op-eq3.false, ne_eqb c.args.op 4 c.if-op-eq4.false, ne_eqb c.args.op 5 c.if-op-eq5.false)

pub step_spec : {M : Type 1} → statement M
step_spec =
    tie.close
    (tie.spec
    checked-add-requires
    checked-sub-requires
    checked-mul-requires
    checked-neg-requires
    inverse-requires
    new-requires
    returns
    returns-2
    returns-3
    returns-4
    returns-5
    returns-6
    returns-7)

-- `calls::one` meets its contract.
use mathlib.Core.Path.{ap, ◌∙◌}
use borrow.Author.Tests.{eq-eqb, ne_eqb}
use Rattle.calls.specs.Call.{told_answer, told_whole}
use borrow.Author.Rules.{rules}
use Rattle.calls.proofs.one.Statement.{statement}
use Rattle.calls.proofs.one.Tie as tie

neg-requires : tie.Need-neg-requires
neg-requires c κs = search rules

told-requires : tie.Need-told-requires
told-requires c κs = search rules

diff-requires : tie.Need-diff-requires
diff-requires c κs = search rules

told-requires-2 : tie.Need-told-requires-then-op-eq7
told-requires-2 c κs = search rules

discriminant-requires : tie.Need-discriminant-requires
discriminant-requires c κs = search rules

told-whole-requires : tie.Need-told_whole-requires
told-whole-requires c κs = search rules

pow-requires : tie.Need-pow-requires
pow-requires c κs = search rules

told-requires-3 : tie.Need-told-requires-then-op-eq15
told-requires-3 c κs = search rules

square-free-requires : tie.Need-square_free-requires
square-free-requires c κs = search rules

told-requires-4 : tie.Need-told-requires-then-op-eq16
told-requires-4 c κs = search rules

rooted-requires : tie.Need-rooted-requires
rooted-requires c κs = search rules

returns : tie.Need-returns-then-op-eq6
returns c = rw (eq-eqb c.args.op 6 c.if-op-eq6.true) (c.told.ensures ∙ ap told_answer c.neg.ensures.0)

returns-2 : tie.Need-returns-then-op-eq7
returns-2 c = rw (ne_eqb c.args.op 6 c.if-op-eq6.false, eq-eqb c.args.op 7 c.if-op-eq7.true) (c.told-then-op-eq7.ensures ∙ ap told_answer c.diff.ensures.0)

returns-3 : tie.Need-returns-then-op-eq8
returns-3 c = rw (ne_eqb c.args.op 6 c.if-op-eq6.false, ne_eqb c.args.op 7 c.if-op-eq7.false, eq-eqb c.args.op 8 c.if-op-eq8.true) (c.told_whole.ensures ∙ ap told_whole c.discriminant.ensures.0)

returns-4 : tie.Need-returns-then-op-eq15
returns-4 c = rw (ne_eqb c.args.op 6 c.if-op-eq6.false, ne_eqb c.args.op 7 c.if-op-eq7.false, ne_eqb c.args.op 8 c.if-op-eq8.false, eq-eqb c.args.op 15 c.if-op-eq15.true) (c.told-then-op-eq15.ensures ∙ ap told_answer c.pow.ensures.0)

returns-5 : tie.Need-returns-then-op-eq16
returns-5 c = rw (ne_eqb c.args.op 6 c.if-op-eq6.false, ne_eqb c.args.op 7 c.if-op-eq7.false, ne_eqb c.args.op 8 c.if-op-eq8.false, ne_eqb c.args.op 15 c.if-op-eq15.false, eq-eqb c.args.op 16 c.if-op-eq16.true) (c.told-then-op-eq16.ensures ∙ ap told_answer c.square_free.ensures.0)

returns-6 : tie.Need-returns-else-op-eq16
returns-6 c = rw (ne_eqb c.args.op 6 c.if-op-eq6.false, ne_eqb c.args.op 7 c.if-op-eq7.false, ne_eqb c.args.op 8 c.if-op-eq8.false, ne_eqb c.args.op 15 c.if-op-eq15.false, ne_eqb c.args.op 16 c.if-op-eq16.false) c.rooted.ensures

pub one_spec : {M : Type 1} → statement M
one_spec =
    tie.close
    (tie.spec
    neg-requires
    told-requires
    diff-requires
    told-requires-2
    discriminant-requires
    told-whole-requires
    pow-requires
    told-requires-3
    square-free-requires
    told-requires-4
    rooted-requires
    returns
    returns-2
    returns-3
    returns-4
    returns-5
    returns-6)

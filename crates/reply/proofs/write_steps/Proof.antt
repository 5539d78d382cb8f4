-- `reply::write_steps` meets its contract.
use borrow.Author.Rules.{rules}
use mathlib.Core.Path.{sym, ◌∙◌}
use Rattle.text.proofs.Pages.{lays-none, lays-as}
use Rattle.reply.proofs.Parts.{counted-steps, other-steps}
use Rattle.reply.proofs.write_steps.Statement.{statement}
use Rattle.reply.proofs.write_steps.Tie as tie

counted-requires : tie.Need-counted-requires
counted-requires c κs = tt

write-decimal-requires : tie.Need-write_decimal-requires
write-decimal-requires c κs = tt

same_length : tie.Need-shape_of-out
same_length c = search rules

returns : tie.Need-returns-then-counted
returns c = lays-as _ _ _ _ (counted-steps c.args.op c.args.steps (sym c.counted.ensures ∙ c.if-counted.true)) c.write_decimal.ensures

returns-2 : tie.Need-returns-else-counted
returns-2 c = lays-as _ _ _ _ (other-steps c.args.op c.args.steps (sym c.counted.ensures ∙ c.if-counted.false)) (lays-none c.args.at c.args.out.now)

pub write_steps_spec : {M : Type 1} → statement M
write_steps_spec =
    tie.close (tie.spec counted-requires write-decimal-requires same_length returns returns-2)

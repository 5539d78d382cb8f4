-- `reply::show_refusal` meets its contract.
use borrow.Author.Rules.{rules}
use Rattle.reply.proofs.Sizes.{refused-fits}
use Rattle.reply.proofs.show_refusal.Statement.{statement}
use Rattle.reply.proofs.show_refusal.Tie as tie

refuse-requires : tie.Need-refuse-requires
refuse-requires c κs = tt

same_length : tie.Need-shape_of-out
same_length c = search rules

returns : tie.Need-returns
returns c = let e = c.refuse.ensures in (e.0, (e.1, refused-fits c.args.op c.args.why 0))

pub show_refusal_spec : {M : Type 1} → statement M
show_refusal_spec = tie.close (tie.spec refuse-requires same_length returns)

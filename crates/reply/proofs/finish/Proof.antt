-- `reply::finish` meets its contract.
use borrow.Author.Rules.{rules}
use mathlib.Core.Path.{refl}
use Rattle.text.proofs.Pages.{lays-then, lays-as}
use Rattle.reply.specs.Reply.{finish_text}
use Rattle.reply.proofs.finish.Statement.{statement}
use Rattle.reply.proofs.finish.Tie as tie

write-bytes-requires : tie.Need-write_bytes-a-requires
write-bytes-requires c κs = tt

write-steps-requires : tie.Need-write_steps-b-requires
write-steps-requires c κs = tt

put-requires : tie.Need-put-requires
put-requires c κs = tt

same_length : tie.Need-shape_of-out
same_length c = search rules

returns : tie.Need-returns
unfolding finish_text
returns c = lays-as _ _ _ _ refl (lays-then _ _ _ _ c.write_bytes-a.ensures (lays-then _ _ _ _ c.write_steps-b.ensures c.put.ensures))

pub finish_spec : {M : Type 1} → statement M
finish_spec =
    tie.close
    (tie.spec write-bytes-requires write-steps-requires put-requires same_length returns)

-- `reply::end` meets its contract.
use borrow.Author.Rules.{rules}
use mathlib.Core.Path.{refl}
use Rattle.text.proofs.Pages.{lays-then, lays-as}
use Rattle.reply.specs.Reply.{end_text}
use Rattle.reply.proofs.end.Statement.{statement}
use Rattle.reply.proofs.end.Tie as tie

write-bytes-requires : tie.Need-write_bytes-a-requires
write-bytes-requires c κs = tt

finish-requires : tie.Need-finish-requires
finish-requires c κs = tt

same_length : tie.Need-shape_of-out
same_length c = search rules

returns : tie.Need-returns
unfolding end_text
returns c = lays-as _ _ _ _ refl (lays-then _ _ _ _ c.write_bytes-a.ensures c.finish.ensures)

pub end_spec : {M : Type 1} → statement M
end_spec =
    tie.close
    (tie.spec write-bytes-requires finish-requires same_length returns)

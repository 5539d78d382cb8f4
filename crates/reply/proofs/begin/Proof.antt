-- `reply::begin` meets its contract.
use borrow.Author.Rules.{rules}
use mathlib.Core.Path.{refl}
use Rattle.text.proofs.Pages.{lays-then, lays-as}
use Rattle.reply.specs.Reply.{begin_text}
use Rattle.reply.proofs.begin.Statement.{statement}
use Rattle.reply.proofs.begin.Tie as tie

write-bytes-requires : tie.Need-write_bytes-a-requires
write-bytes-requires c κs = tt

write-name-requires : tie.Need-write_name-b-requires
write-name-requires c κs = tt

write-bytes-requires-2 : tie.Need-write_bytes-c-requires
write-bytes-requires-2 c κs = tt

write-decimal-requires : tie.Need-write_decimal-d-requires
write-decimal-requires c κs = tt

write-bytes-requires-3 : tie.Need-write_bytes-requires
write-bytes-requires-3 c κs = tt

same_length : tie.Need-shape_of-out
same_length c = search rules

returns : tie.Need-returns
unfolding begin_text
returns c =
    lays-as _ _ _ _ refl (
    lays-then _ _ _ _ c.write_bytes-a.ensures (
    lays-then _ _ _ _ c.write_name-b.ensures (
    lays-then _ _ _ _ c.write_bytes-c.ensures (
    lays-then _ _ _ _ c.write_decimal-d.ensures c.write_bytes.ensures))))

pub begin_spec : {M : Type 1} → statement M
begin_spec =
    tie.close
    (tie.spec write-bytes-requires write-name-requires write-bytes-requires-2 write-decimal-requires write-bytes-requires-3 same_length returns)

-- `reply::write_piece` meets its contract.
use borrow.Author.Rules.{rules}
use mathlib.Core.Path.{refl}
use Rattle.text.proofs.Pages.{lays-then, lays-as}
use Rattle.reply.specs.Results.{piece_text}
use Rattle.reply.proofs.write_piece.Statement.{statement}
use Rattle.reply.proofs.write_piece.Tie as tie

write-bytes-requires : tie.Need-write_bytes-a-requires
write-bytes-requires c κs = tt

write-poly-requires : tie.Need-write_poly-b-requires
write-poly-requires c κs = tt

write-bytes-requires-2 : tie.Need-write_bytes-c-requires
write-bytes-requires-2 c κs = tt

write-decimal-requires : tie.Need-write_decimal-requires
write-decimal-requires c κs = tt

same_length : tie.Need-shape_of-out
same_length c = search rules

returns : tie.Need-returns
unfolding piece_text
returns c =
    lays-as _ _ _ _ refl (
    lays-then _ _ _ _ c.write_bytes-a.ensures (
    lays-then _ _ _ _ c.write_poly-b.ensures (
    lays-then _ _ _ _ c.write_bytes-c.ensures c.write_decimal.ensures)))

pub write_piece_spec : {M : Type 1} → statement M
write_piece_spec =
    tie.close
    (tie.spec write-bytes-requires write-poly-requires write-bytes-requires-2 write-decimal-requires same_length returns)

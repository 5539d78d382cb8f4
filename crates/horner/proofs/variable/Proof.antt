-- `horner::variable` meets its contract.
use borrow.Author.Rules.{rules}
use Rattle.text.proofs.Pages.{lays-then}
use Rattle.horner.proofs.variable.Statement.{statement}
use Rattle.horner.proofs.variable.Tie as tie

write-bytes-requires : tie.Need-write_bytes-letter-requires
write-bytes-requires c κs = tt

write-decimal-requires : tie.Need-write_decimal-number-requires
write-decimal-requires c κs = tt

put-requires : tie.Need-put-requires
put-requires c κs = tt

same_length : tie.Need-shape_of-out
same_length c = search rules

returns : tie.Need-returns
returns c = lays-then _ _ _ _ (lays-then _ _ _ _ c.write_bytes-letter.ensures c.write_decimal-number.ensures) c.put.ensures

pub variable_spec : {M : Type 1} → statement M
variable_spec =
    tie.close
    (tie.spec write-bytes-requires write-decimal-requires put-requires same_length returns)

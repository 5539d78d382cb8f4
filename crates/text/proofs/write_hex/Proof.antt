-- `text::write_hex` meets its contract.
use borrow.Author.Rules.{rules}
use Rattle.text.specs.Spell.{hex_text}
use Rattle.text.proofs.write_hex.Statement.{statement}
use Rattle.text.proofs.write_hex.Tie as tie

write-digits-requires : tie.Need-write_digits-requires
write-digits-requires c κs = tt

same_length : tie.Need-shape_of-out
same_length c = search rules

returns : tie.Need-returns
unfolding hex_text
returns c = c.write_digits.ensures

pub write_hex_spec : {M : Type 1} → statement M
write_hex_spec = tie.close (tie.spec write-digits-requires same_length returns)

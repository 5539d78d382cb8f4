-- `text::write_float` meets its contract.
use borrow.Author.Rules.{rules}
use Rattle.text.specs.Spell.{float_text}
use Rattle.text.proofs.Pages.{lays-as}
use Rattle.text.proofs.Numbers.{nan-told, number-told}
use Rattle.text.proofs.write_float.Statement.{statement}
use Rattle.text.proofs.write_float.Tie as tie

write-hex-requires : tie.Need-write_hex-requires
write-hex-requires c κs = tt

float-to-bits-write-hex : tie.Need-float_to_bits-x
float-to-bits-write-hex c = number-told c.args.x c.if-x.false

write-hex-requires-2 : tie.Need-write_hex-requires-else-x
write-hex-requires-2 c κs = tt

same_length : tie.Need-shape_of-out-then-x
same_length c = search rules

returns : tie.Need-returns-then-x
returns c = lays-as _ _ _ _ (nan-told c.args.x c.if-x.true) c.write_hex.ensures

same-length-2 : tie.Need-shape_of-out-else-x
same-length-2 c = search rules

returns-2 : tie.Need-returns-else-x
unfolding float_text
returns-2 c = c.write_hex-else-x.ensures

pub write_float_spec : {M : Type 1} → statement M
write_float_spec =
    tie.close
    (tie.spec
    write-hex-requires
    float-to-bits-write-hex
    write-hex-requires-2
    same_length
    returns
    same-length-2
    returns-2)

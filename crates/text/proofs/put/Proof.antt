-- `text::put` meets its contract.
use borrow.Author.Rules.{rules}
use Rattle.text.proofs.Pages.{lays_one, lays-out}
use Rattle.text.proofs.put.Statement.{statement}
use Rattle.text.proofs.put.Tie as tie

slice-write-out : tie.Need-bounds-out-at
slice-write-out c = search rules

add-result : tie.Need-overflow_add-result
add-result c = search rules

same_length : tie.Need-shape_of-out
same_length c = search rules

returns : tie.Need-returns-then-at-out
returns c = lays_one c.args.b c.args.at c.args.out.now c.if-at-out.true

returns-2 : tie.Need-returns-else-at-out
returns-2 c = lays-out c.args.b c.args.at c.args.out.now c.if-at-out.false

pub put_spec : {M : Type 1} → statement M
put_spec = tie.close (tie.spec slice-write-out add-result same_length returns returns-2)

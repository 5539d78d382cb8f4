-- `text::hex_digit` meets its contract.
use borrow.Author.Rules.{rules}
use mathlib.Core.Path.{sym}
use Rattle.text.proofs.Hex.{digit_low, digit-high}
use Rattle.text.proofs.hex_digit.Statement.{statement}
use Rattle.text.proofs.hex_digit.Tie as tie

cast-result : tie.Need-overflow_cast-result
cast-result c = search rules

add-result : tie.Need-overflow_add-result
add-result c = search rules

cast-result-2 : tie.Need-overflow_cast-result-else-d-lt10
cast-result-2 c = search rules

add-result-2 : tie.Need-overflow_add-result-else-d-lt10
add-result-2 c = search rules

returns : tie.Need-returns-then-d-lt10
returns c = sym (digit_low c.args.d c.if-d-lt10.true)

returns-2 : tie.Need-returns-else-d-lt10
returns-2 c = sym (digit-high c.args.d c.if-d-lt10.false)

pub hex_digit_spec : {M : Type 1} → statement M
hex_digit_spec =
    tie.close (tie.spec cast-result add-result cast-result-2 add-result-2 returns returns-2)

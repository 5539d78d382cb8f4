-- `calls::number` meets its contract.
use native.Mathlib.Omega.{arith}
use Rattle.calls.proofs.Telling.{number-few, number-done, number-refused}
use borrow.Author.Rules.{rules}
use Rattle.calls.proofs.number.Statement.{statement}
use Rattle.calls.proofs.number.Tie as tie

mul-up : tie.Need-overflow_mul-up
mul-up c = search rules

enum_told : tie.Need-enum_told-1
enum_told c = search rules

enum-known-o : tie.Need-enum_known-o
enum-known-o c = search rules

number-requires : tie.Need-number-requires
number-requires c κs = search rules

add-result : tie.Need-overflow_add-result
add-result c = omega (arith, c.number.ensures, number-few c.in-Err.why)

returns : tie.Need-returns-in-Ok
returns c = number-done _ _ c.in-Ok.is

returns-2 : tie.Need-returns-in-Err
returns-2 c = number-refused c.args.o _ c.number.result c.in-Err.why c.in-Err.is c.number.ensures

pub number_spec : {M : Type 1} → statement M
number_spec =
    tie.close (tie.spec mul-up enum_told enum-known-o number-requires add-result returns returns-2)

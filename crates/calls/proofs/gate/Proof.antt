-- `calls::gate` meets its contract.
use Rattle.calls.proofs.Telling.{gate-long, gate-bad}
use borrow.Author.Rules.{rules}
use Rattle.calls.proofs.gate.Statement.{statement}
use Rattle.calls.proofs.gate.Tie as tie

enum_told : tie.Need-enum_told-1
enum_told c = search rules

enum-known-o : tie.Need-enum_known-o
enum-known-o c = search rules

number-requires : tie.Need-number-requires
number-requires c κs = search rules

returns : tie.Need-returns-in-Ok
returns c = search rules

returns-2 : tie.Need-returns-then-number-eq4
returns-2 c = gate-long _ _ c.number.result c.number.ensures c.in-Err.is c.if-number-eq4.true

returns-3 : tie.Need-returns-else-number-eq4
returns-3 c = gate-bad _ _ c.number.result c.number.ensures c.in-Err.is c.if-number-eq4.false

pub gate_spec : {M : Type 1} → statement M
gate_spec = tie.close (tie.spec enum_told enum-known-o number-requires returns returns-2 returns-3)

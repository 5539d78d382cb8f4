-- `horner::digits` meets its contract.
use native.Mathlib.Omega.{arith}
use Rattle.horner.proofs.Sizes.{one-digit, two_digits, three-digits}
use Rattle.horner.proofs.digits.Statement.{statement}
use Rattle.horner.proofs.digits.Tie as tie

returns : tie.Need-returns-then-wrt-lt10
returns c = one-digit _ (omega arith)

returns-2 : tie.Need-returns-then-wrt-lt100
returns-2 c = two_digits _ (omega arith) (omega arith)

returns-3 : tie.Need-returns-else-wrt-lt100
returns-3 c = three-digits _ (omega arith) (omega arith)

pub digits_spec : {M : Type 1} → statement M
digits_spec = tie.close (tie.spec returns returns-2 returns-3)

-- `factor::count` meets its contract.
use native.Mathlib.Omega.{arith}
use lib.ListN.{length-take}
use Rattle.factor.proofs.count.Statement.{statement}
use Rattle.factor.proofs.count.Tie as tie

returns : tie.Need-returns-then-n-lt32
returns c = λ l e. omega (arith, c.if-n-lt32.true, length-take c.args.n l, e)

returns-2 : tie.Need-returns-else-n-lt32
returns-2 c = λ l e. omega (arith, c.if-n-lt32.false, length-take c.args.n l, e)

pub count_spec : {M : Type 1} → statement M
count_spec = tie.close (tie.spec returns returns-2)

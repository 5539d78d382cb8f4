-- `calls::limits` meets its contract.
use borrow.Author.Tests.{lt-ltb, le-ltb, eq-eqb, ne_eqb}
use Rattle.calls.proofs.limits.Statement.{statement}
use Rattle.calls.proofs.limits.Tie as tie

returns : tie.Need-returns-then-op-lt9
returns c = rw (lt-ltb c.args.op 9 c.if-op-lt9.true)

returns-2 : tie.Need-returns-then-op-gt11
returns-2 c = rw (le-ltb c.args.op 9 c.if-op-lt9.false, lt-ltb 11 c.args.op c.if-op-gt11.true)

returns-3 : tie.Need-returns-then-n-eq0
returns-3 c = rw (le-ltb c.args.op 9 c.if-op-lt9.false, le-ltb 11 c.args.op c.if-op-gt11.false, eq-eqb c.args.n 0 c.if-n-eq0.true)

returns-4 : tie.Need-returns-then-n-gt65536
returns-4 c = rw (le-ltb c.args.op 9 c.if-op-lt9.false, le-ltb 11 c.args.op c.if-op-gt11.false, ne_eqb c.args.n 0 c.if-n-eq0.false, lt-ltb 65536 c.args.n c.if-n-gt65536.true)

returns-5 : tie.Need-returns-else-n-gt65536
returns-5 c = rw (le-ltb c.args.op 9 c.if-op-lt9.false, le-ltb 11 c.args.op c.if-op-gt11.false, ne_eqb c.args.n 0 c.if-n-eq0.false, le-ltb 65536 c.args.n c.if-n-gt65536.false)

pub limits_spec : {M : Type 1} → statement M
limits_spec = tie.close (tie.spec returns returns-2 returns-3 returns-4 returns-5)

-- `calls_real::index` meets its contract.
use mathlib.Core.Path.{sym, ap}
use native.Mathlib.Omega.{arith}
use borrow.Author.Tests.{le-leb, lt-leb}
use Rattle.poly.specs.Door.{open_if}
use Rattle.calls_real.proofs.index.Statement.{statement}
use Rattle.calls_real.proofs.index.Tie as tie

returns : tie.Need-returns-then-wrt-le255
returns c = sym (ap open_if (le-leb c.args.wrt 255 (omega arith)))

returns-2 : tie.Need-returns-else-wrt-le255
returns-2 c = sym (ap open_if (lt-leb c.args.wrt 255 (omega arith)))

pub index_spec : {M : Type 1} → statement M
index_spec = tie.close (tie.spec returns returns-2)

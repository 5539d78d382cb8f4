-- `reading::push` meets its contract. Left of the check: what one coefficient more makes of those that are held.
use Rattle.std.proofs.Common.{arith}
use Rattle.reading.proofs.Hold.{holds-few, holds-many}
use Rattle.reading.proofs.push.Goals as goal

pub returns-then-n-gt31 : goal.returns-then-n-gt31
returns-then-n-gt31 c = λ l h. holds-many l c.args.p c.args.c h c.if-n-gt31.true

pub returns : goal.returns
returns c = λ l h. holds-few l c.args.p c.args.c h (omega arith)

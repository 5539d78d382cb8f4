-- `bisect::push` meets its contract: one bracket more, or no place for it.
use mathlib.Core.Path.{◌∙◌}
use native.Mathlib.Omega.{arith}
use Rattle.bisect.proofs.Hold.{push-full, push-done}
use Rattle.bisect.proofs.push.Goals as goal

pub returns-then-n-ge64 : goal.returns-then-n-ge64
returns-then-n-ge64 c = c.refused.ensures.is ∙ push-full c.args.found c.requires c.in_default.is c.args.a c.args.b c.if-n-ge64.true

pub returns : goal.returns
returns c = push-done c.args.found c.requires c.in_default.is c.args.a c.args.b (omega (arith, c.if-n-ge64.false))

use Rattle.std.proofs.Common.{ap₂, ◌∙◌}
use Rattle.ratio.proofs.Words.{back}
use Rattle.ratio.proofs.Quotient.{over, one-bits, whole-lowest}
use Rattle.ratio.proofs.reduce.Goals as goal

pub returns-then-d-eq1 : goal.returns-then-d-eq1
returns-then-d-eq1 c =
    ap₂ over (back c.args.n c.requires.num-within) (back c.args.d c.requires.den-within) ∙ whole-lowest c.args.n c.args.d (one-bits c.args.d c.ranges.d c.if-d-eq1.true)

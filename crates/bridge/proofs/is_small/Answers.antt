-- Both tests together are the test of the size.
use Rattle.std.proofs.Common.{Bool, ◌&&◌, sym, ap, ◌∙◌}
use lib.Ieee.{lt, neg}
use Rattle.bridge.specs.Search.{tolerance}
use Rattle.bridge.proofs.Search.{small-test}
use Rattle.bridge.proofs.is_small.Goals as goal

pub returns-then-x : goal.returns-then-x
returns-then-x c = sym (ap (λ (t : Bool). t && lt (neg tolerance) c.args.x) c.if-x.true) ∙ small-test c.args.x

pub returns-else-x : goal.returns-else-x
returns-else-x c = c.if-x.false ∙ sym (ap (λ (t : Bool). t && lt (neg tolerance) c.args.x) c.if-x.false) ∙ small-test c.args.x

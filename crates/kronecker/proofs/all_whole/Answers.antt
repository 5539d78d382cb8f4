-- `kronecker::all_whole` meets its contract: one coefficient, whole or not.
use mathlib.Core.Path.{◌∙◌}
use native.Mathlib.Omega.{arith}
use Rattle.std.proofs.lemmas.Grind.{common_steps}
use Rattle.ratio.specs.Refusal.{zero_r}
use Rattle.terms.specs.Poly.{terms_of}
use Rattle.kronecker.proofs.Auto.{whole_steps}
use Rattle.kronecker.proofs.Points.{whole-more, whole-fails}
use Rattle.kronecker.proofs.all_whole.Goals as goal

pub returns-then-not-is_whole : goal.returns-then-not-is_whole
returns-then-not-is_whole c = whole-fails (terms_of c.args.p) c.loop-i.i zero_r (omega arith) (grind (arith, common_steps, whole_steps)) ∙ c.loop-i.invariant

pub loop-i-preserved : goal.loop-i-preserved
loop-i-preserved c = whole-more (terms_of c.args.p) c.loop-i.i zero_r (omega arith) (grind (arith, common_steps, whole_steps)) ∙ c.loop-i.invariant

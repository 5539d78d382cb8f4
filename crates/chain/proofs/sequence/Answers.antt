-- `chain::sequence` meets its contract: a derivative that is refused refuses the whole.
use mathlib.Core.Path.{◌∙◌}
use native.Mathlib.Omega.{arith}
use Rattle.terms.specs.Poly.{terms_of}
use Rattle.chain.proofs.CodeSequence.{sequence-refused}
use Rattle.chain.proofs.sequence.Goals as goal

pub returns-in-Err : goal.returns-in-Err
returns-in-Err c = record { is = c.refused.ensures.is ∙ sequence-refused (terms_of c.args.p) c.normalise-f.result c.normalise-f.ensures.is (omega (arith, c.length.ensures)) c.differentiate-d.result c.differentiate-d.ensures.is _ c.in-Err.is }

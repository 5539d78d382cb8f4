-- `splitting::divide_by` meets its contract: a division that is refused.
use mathlib.Core.Path.{◌∙◌}
use Rattle.terms.specs.Poly.{terms_of}
use Rattle.splitting.proofs.Halves.{pair-over, paired-refused}
use Rattle.splitting.proofs.divide_by.Goals as goal

pub returns-in-Err : goal.returns-in-Err
returns-in-Err c =
    let s = c.args in
    (pair-over c.no_pair.result _ c.no_pair.ensures.1 ∙ paired-refused (terms_of s.f) (terms_of s.g) c.divide-d.result c.divide-d.ensures.is _ c.in-Err.is, c.no_pair.ensures.0)

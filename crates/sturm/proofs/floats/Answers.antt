-- `sturm::floats` meets its contract.
use Rattle.terms.specs.Poly.{terms_of}
use Rattle.sturm.specs.Value.{floats_of}
use Rattle.sturm.proofs.Laid.{row_laid}
use Rattle.sturm.proofs.floats.Goals as goal

pub returns : goal.returns
returns c =
    let e = c.lay-len.ensures in
    record { is = row_laid (floats_of (terms_of c.args.p)) c.lay-len.result _ e.value.0 e.out_after }

-- `splitting::peel_one` meets its contract: a line or a division that is refused, and a root divided out.
use native.Mathlib.Omega.{arith}
use Rattle.terms.specs.Poly.{terms_of}
use Rattle.splitting.proofs.Peels.{peel-lineless, peel-refused, peel-done}
use Rattle.splitting.proofs.peel_one.Goals as goal

pub returns-in-Err : goal.returns-in-Err
returns-in-Err c =
    let p = c.no_pair in
    peel-lineless c.args.r (terms_of c.args.f) c.line-a.result c.line-a.ensures p.result p.ensures.0 _ p.ensures.1 c.in-Err.is

pub returns-in-Err-od : goal.returns-in-Err-od
returns-in-Err-od c =
    let p = c.no_pair-in-Err-od in
    peel-refused c.args.r (terms_of c.args.f) c.line-a.result c.line-a.ensures c.in_default.is c.divide-d.result c.divide-d.ensures.is p.result p.ensures.0 _ p.ensures.1 c.in-Err-od.is

pub returns : goal.returns
returns c = peel-done c.args.r (terms_of c.args.f) c.line-a.result c.line-a.ensures c.in_default.is c.divide-d.result c.divide-d.ensures.is c.in_default-od.is (omega (arith, c.length.ensures.is))

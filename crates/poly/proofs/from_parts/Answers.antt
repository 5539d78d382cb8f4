use Rattle.std.proofs.Common.{◌≡◌, rules}
use Rattle.poly.specs.Parts.{parts_of}
use Rattle.poly.proofs.Gives.{parts-gives}
use Rattle.poly.proofs.from_parts.Goals as goal

pub returns-in-Open-clause-promise : goal.returns-in-Open-clause-promise
unfolding parts_of
returns-in-Open-clause-promise c =
    let e : c.parts_poly.result ≡ parts_of c.args.nums.now c.args.dens.now = search rules in
    rw e (parts-gives _ _)

pub returns-in_default-clause-promise : goal.returns-in_default-clause-promise
unfolding parts_of
returns-in_default-clause-promise c =
    let e : c.refused.result ≡ parts_of c.args.nums.now c.args.dens.now = search rules in
    rw e (parts-gives _ _)

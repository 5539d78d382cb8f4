use Rattle.std.proofs.Common.{◌≡◌, rules}
use Rattle.roots.specs.Content.{primitive_of}
use Rattle.roots.proofs.Primitives.{primitive-promise}
use Rattle.roots.proofs.primitive_part.Goals as goal

pub returns-in-Open-clause-promise : goal.returns-in-Open-clause-promise
returns-in-Open-clause-promise c =
    let e : c.primitive_terms.result ≡ primitive_of c.args.p = search rules in
    rw e (primitive-promise _)

pub returns-in_default-clause-promise : goal.returns-in_default-clause-promise
returns-in_default-clause-promise c =
    let e : c.refused.result ≡ primitive_of c.args.p = search rules in
    rw e (primitive-promise _)

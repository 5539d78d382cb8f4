use Rattle.std.proofs.Common.{◌≡◌, rules}
use Rattle.roots.specs.Answer.{rational_roots_of}
use Rattle.roots.proofs.Promises.{roots-promise}
use Rattle.roots.proofs.rational_roots.Goals as goal

pub returns-in-Open-clause-promise : goal.returns-in-Open-clause-promise
returns-in-Open-clause-promise c =
    let e : c.roots_of.result ≡ rational_roots_of c.args.p c.args.budget = search rules in
    rw e (roots-promise _ _)

pub returns-in_default-clause-promise : goal.returns-in_default-clause-promise
returns-in_default-clause-promise c =
    let e : c.no_roots.result ≡ rational_roots_of c.args.p c.args.budget = search rules in
    rw e (roots-promise _ _)

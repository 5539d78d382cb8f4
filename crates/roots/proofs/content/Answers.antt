use Rattle.std.proofs.Common.{◌≡◌, rules, Ok}
use Rattle.roots.specs.Content.{content_for}
use Rattle.roots.proofs.Contents.{content-promise}
use Rattle.roots.proofs.content.Goals as goal

pub returns-in-Open-clause-promise : goal.returns-in-Open-clause-promise
returns-in-Open-clause-promise c =
    let e : Ok c.content_terms.result ≡ content_for c.args.p = search rules in
    rw e (content-promise _)

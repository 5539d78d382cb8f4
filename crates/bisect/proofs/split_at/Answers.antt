-- `bisect::split_at` meets its contract: the middle is a root that counts, or it isn't.
use mathlib.Core.Path.{sym, ap, ◌∙◌}
use mathlib.Core.Bool.{Bool}
use borrow.Author.Tests.{not-true, not-false}
use lib.Ieee.{binary64, sub}
use Rattle.sturm.specs.Rows.{rows_in}
use Rattle.bisect.specs.Cut.{hits_of}
use Rattle.bisect.proofs.Cuts.{cut-halves, cut-aside}
use Rattle.bisect.proofs.split_at.Goals as goal

pub returns-then-not-hits : goal.returns-then-not-hits
returns-then-not-hits c =
    let s = c.args in
    let hit = c.hits.ensures ∙ ap (λ (r : Bool). hits_of r (sub binary64 s.b s.a) s.tol) c.is_root.ensures in
    cut-halves (rows_in s.values.now s.sizes.now) s.a s.b s.tol (sym hit ∙ not-true _ c.if-not-hits.true-raw)

pub returns : goal.returns
returns c =
    let s = c.args in
    let hit = c.hits.ensures ∙ ap (λ (r : Bool). hits_of r (sub binary64 s.b s.a) s.tol) c.is_root.ensures in
    cut-aside (rows_in s.values.now s.sizes.now) s.a s.b s.tol (sym hit ∙ not-false _ c.if-not-hits.false-raw)

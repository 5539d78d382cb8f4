use Rattle.std.proofs.Common.{[], ◌∷◌}
use Rattle.text.proofs.Pages.{lays-then}
use Rattle.text.proofs.write_next.Goals as goal

pub returns-else-first-clause-value : goal.returns-else-first-clause-value
returns-else-first-clause-value g c =
    rw (c.if-first.false)
    ((lays-then (32 ∷ []) (g.W.Word.spelling c.args.w) c.args.at c.args.out.now (c.put-next.ensures.is, c.put-next.ensures.page) (c.lay-else-first.ensures.is, c.lay-else-first.ensures.page)).0)

pub returns-else-first-clause-out_after : goal.returns-else-first-clause-out_after
returns-else-first-clause-out_after g c =
    rw (c.if-first.false)
    ((lays-then (32 ∷ []) (g.W.Word.spelling c.args.w) c.args.at c.args.out.now (c.put-next.ensures.is, c.put-next.ensures.page) (c.lay-else-first.ensures.is, c.lay-else-first.ensures.page)).1)

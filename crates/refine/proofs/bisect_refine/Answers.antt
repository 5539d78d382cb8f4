-- `refine::bisect_refine` meets its contract: each way a halving can go.
use Rattle.std.proofs.Common.{◌≡◌, ◌≤◌, ◌∙◌, arith}
use Rattle.refine.proofs.Halvings.{refine-none, refine-narrow, refine-hit, refine-more}
use Rattle.refine.proofs.bisect_refine.Goals as goal

pub returns-then-size-tol : goal.returns-then-size-tol
returns-then-size-tol c =
    let l = c.loop-more in
    let m = c.middle-mid in
    refine-narrow l.more c.args.row.now l.now c.args.tol c.loop-more-test.true m.result m.ensures c.size.result c.size.ensures.is c.if-size-tol.true ∙ l.invariant

pub returns-then-fm : goal.returns-then-fm
returns-then-fm c =
    let l = c.loop-more in
    let m = c.middle-mid in
    refine-hit l.more c.args.row.now l.now c.args.tol c.loop-more-test.true m.result m.ensures c.size.result c.size.ensures.is c.if-size-tol.false c.eval_f64-fm.result c.eval_f64-fm.ensures.is c.if-fm.true ∙ l.invariant

pub loop-more-preserved : goal.loop-more-preserved
loop-more-preserved c =
    let l = c.loop-more in
    let m = c.middle-mid in
    refine-more l.more c.args.row.now l.now c.args.tol c.loop-more-test.true m.result m.ensures c.size.result c.size.ensures.is c.if-size-tol.false c.eval_f64-fm.result c.eval_f64-fm.ensures.is c.if-fm.false c.halved-now.result c.halved-now.ensures ∙ l.invariant

pub returns : goal.returns
returns c =
    let l = c.loop-more in
    c.middle.ensures ∙ refine-none l.more c.args.row.now l.now c.args.tol (omega arith) ∙ l.invariant

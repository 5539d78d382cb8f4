-- `request::op_line` meets its contract: a bad key, an operation, and a word that names none.
use Rattle.std.proofs.Common.{sym, ◌∙◌}
use Rattle.request.proofs.Made.{op-bad, op-known, op-unknown}
use Rattle.request.proofs.op_line.Goals as goal

pub returns-then-v : goal.returns-then-v
returns-then-v c = op-bad c.args.text.now c.standing.result c.open-v.result c.standing.ensures c.open-v.ensures c.if-v.true

pub returns-then-is_known : goal.returns-then-is_known
returns-then-is_known c =
    let e = c.part_end-end in
    rw c.close.ensures
    (op-known c.args.text.now c.standing.result c.open-v.result c.standing.ensures c.open-v.ensures c.if-v.false e.result e.ensures.is c.op_of-op.result c.op_of-op.ensures (sym c.is_known.ensures ∙ c.if-is_known.true))

pub returns-else-is_known : goal.returns-else-is_known
returns-else-is_known c =
    let e = c.part_end-end in
    rw c.stopped.ensures
    (op-unknown c.args.text.now c.standing.result c.open-v.result c.standing.ensures c.open-v.ensures c.if-v.false e.result e.ensures.is c.op_of-op.result c.op_of-op.ensures (sym c.is_known.ensures ∙ c.if-is_known.false))

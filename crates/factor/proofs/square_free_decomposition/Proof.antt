-- `factor::square_free_decomposition` meets its contract.
use Rattle.factor.proofs.Promises.{decomposition-both}
use Rattle.poly.proofs.Doors.{open-entered, shut-entered}
use Rattle.yun.specs.Answer.{refused_for}
use Rattle.factor.proofs.square_free_decomposition.Statement.{statement}
use Rattle.factor.proofs.square_free_decomposition.Tie as tie

door-requires : tie.Need-door-d-requires
door-requires c κs = tt

enum_told : tie.Need-enum_told-1
enum_told c = c.in-Open-1.keys1

decompose-requires : tie.Need-decompose-requires
decompose-requires c κs = tt

returns : tie.Need-returns-in-Open
returns c =
    let g = c in
    decomposition-both g.args.f c.decompose.result
    (open-entered g.door-d.result _ g.door-d.ensures c.in-Open.is refused_for _ c.decompose.result c.decompose.ensures)

reason-requires : tie.Need-reason-requires
reason-requires c κs = tt

refused-requires : tie.Need-refused-requires
refused-requires c κs = tt

returns-2 : tie.Need-returns
returns-2 c =
    let w = c in
    let g = w in
    decomposition-both g.args.f c.refused.result
    (shut-entered g.door-d.result _ g.door-d.ensures w.in_default.in_default-own.keys2 w.reason.result w.reason.ensures refused_for _ c.refused.result c.refused.ensures)

pub square_free_decomposition_spec : {M : Type 1} → statement M
square_free_decomposition_spec =
    tie.close
    (tie.spec
    door-requires
    enum_told
    decompose-requires
    returns
    reason-requires
    refused-requires
    returns-2)

-- `sturm::sturm_sequence` meets its contract.
use Rattle.poly.proofs.Doors.{open-entered, shut-entered}
use Rattle.chain.specs.Answer.{refused_for}
use Rattle.sturm.proofs.Chains.{shut-from, chain-both}
use Rattle.sturm.proofs.sturm_sequence.Goals as goal

pub returns-in-Open-clause-promise : goal.returns-in-Open-clause-promise
returns-in-Open-clause-promise c = (chain-both c.args.p c.sequence.result (open-entered c.door-d.result _ c.door-d.ensures.is c.in-Open.is refused_for _ c.sequence.result c.sequence.ensures.is)).1

pub returns-in_default : goal.returns-in_default
returns-in_default c =
    let b = chain-both c.args.p c.refused.result (shut-entered c.door-d.result _ c.door-d.ensures.is (shut-from c.door-d.result c.in_default.in_default-own.refused-1.1) c.reason.result c.reason.ensures.is refused_for _ c.refused.result c.refused.ensures.is) in
    record { is = b.0; promise = b.1 }

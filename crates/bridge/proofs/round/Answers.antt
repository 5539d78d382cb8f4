-- `bridge::round` meets its contract. Left of the check: below 0, where the size is that of the float negated.
use Rattle.std.proofs.Common.{true, sym, ap, ◌∙◌}
use Rattle.bridge.specs.Round.{saturated}
use Rattle.bridge.proofs.Sat.{lower, kept_low}
use Rattle.bridge.proofs.round.Goals as goal

pub round_size-requires-then-v-4-clause-below_most : goal.round_size-requires-then-v-4-clause-below_most
round_size-requires-then-v-4-clause-below_most c = (lower c.args.v c.if-v-4.true c.if-v-2.false).1

pub returns-then-v-4 : goal.returns-then-v-4
returns-then-v-4 c =
    let r = c.round_size-then-v-4.ensures in
    kept_low c.round_size-then-v-4.result r.1 ∙ ap (saturated true) r.0 ∙ sym (lower c.args.v c.if-v-4.true c.if-v-2.false).2

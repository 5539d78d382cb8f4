-- `sturm::sign_of` meets its contract.
use Rattle.sturm.proofs.Tests.{sign-plus, sign-minus, sign_zero, sign-nan}
use Rattle.sturm.proofs.sign_of.Goals as goal

pub returns-then-v : goal.returns-then-v
returns-then-v c = record { is = sign-plus c.args.v c.if-v.true }

pub returns-then-v-2 : goal.returns-then-v-2
returns-then-v-2 c = record { is = sign-minus c.args.v c.if-v.false c.if-v-2.true }

pub returns-then-v-3 : goal.returns-then-v-3
returns-then-v-3 c = record { is = sign_zero c.args.v c.if-v.false c.if-v-2.false c.if-v-3.true }

pub returns-else-v-3 : goal.returns-else-v-3
returns-else-v-3 c = record { is = sign-nan c.args.v c.if-v.false c.if-v-2.false c.if-v-3.false }

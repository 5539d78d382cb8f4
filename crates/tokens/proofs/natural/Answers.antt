-- `tokens::natural` meets its contract.
use mathlib.Core.Path.{◌∙◌}
use native.Mathlib.Omega.{arith}
use Rattle.tokens.proofs.Digits.{ten-fits}
use Rattle.tokens.proofs.Tokens.{natural-long, natural-none, natural-one, natural-zero, natural-more}
use Rattle.tokens.proofs.natural.Goals as goal

pub spelled-requires : goal.spelled-requires
spelled-requires c = ten-fits _ (omega arith)

pub spelled-requires-else-digits-eq48 : goal.spelled-requires-else-digits-eq48
spelled-requires-else-digits-eq48 c = ten-fits _ (omega arith)

pub returns-then-digits-gt19 : goal.returns-then-digits-gt19
returns-then-digits-gt19 c =
    record { is = natural-long c.args.digits.now c.if-digits-gt19.true }

pub returns-then-digits-eq0 : goal.returns-then-digits-eq0
returns-then-digits-eq0 c =
    record { is = natural-none c.args.digits.now c.if-digits-eq0.true }

pub returns-then-digits-eq1 : goal.returns-then-digits-eq1
returns-then-digits-eq1 c =
    record { is = c.spelled.ensures ∙ natural-one c.args.digits.now c.if-digits-eq1.true }

pub returns-then-digits-eq48 : goal.returns-then-digits-eq48
returns-then-digits-eq48 c =
    record { is = natural-zero c.args.digits.now (omega arith) c.if-digits-eq48.true (omega arith) }

pub returns-else-digits-eq48 : goal.returns-else-digits-eq48
returns-else-digits-eq48 c =
    record { is = c.spelled-else-digits-eq48.ensures ∙ natural-more c.args.digits.now (omega arith) c.if-digits-eq48.false (omega arith) }

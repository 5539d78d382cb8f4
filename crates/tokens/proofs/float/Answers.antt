-- `tokens::float` meets its contract. Left of the check: which patterns are a NaN's.
use Rattle.std.proofs.Common.{sym, ◌∙◌}
use Rattle.tokens.proofs.Nan.{no_nan, is-nan, quotient-nan}
use Rattle.tokens.proofs.float.Goals as goal

pub float_from_bits-result : goal.float_from_bits-result
float_from_bits-result c = no_nan c.args.n c.if-n-gt9218868437227405312.false

pub returns-then-n-gt9218868437227405312 : goal.returns-then-n-gt9218868437227405312
returns-then-n-gt9218868437227405312 c = record { is = quotient-nan ∙ sym (is-nan c.args.n c.if-n-gt9218868437227405312.true) }

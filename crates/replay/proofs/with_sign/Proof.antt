-- `replay::with_sign` is safe and ends.
use native.Mathlib.Omega.{arith}
use borrow.Author.Rules.{rules}
use Rattle.ratio.proofs.Words.{size-neg-fits}
use Rattle.replay.proofs.with_sign.Statement.{statement}
use Rattle.replay.proofs.with_sign.Tie as tie

cast-n : tie.Need-overflow_cast-n
cast-n c = search rules

sub-result : tie.Need-overflow_sub-result
sub-result c = size-neg-fits c.args.size (omega arith)

returns : tie.Need-returns-then-size-gt9223372036854775807
returns c = search rules

returns-2 : tie.Need-returns-then-minus
returns-2 c = search rules

returns-3 : tie.Need-returns-else-minus
returns-3 c = search rules

pub with_sign_spec : {M : Type 1} → statement M
with_sign_spec = tie.close (tie.spec cast-n sub-result returns returns-2 returns-3)

-- The laws that the check uses at each function's goals.
use Rattle.ratio.proofs.Words.{nil-bits, some_bits}
use Rattle.lower.proofs.Exponents.{equal-at, equal_next, equal-none}
use Rattle.lower.proofs.Levels.{level-none, level-some}

pub ruleset exponent_steps = (equal-at, equal_next, equal-none)

pub ruleset level_steps = (nil-bits, some_bits, level-none, level-some)

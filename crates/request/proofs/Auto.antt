-- The laws that the check uses at each function's goals.
use Rattle.request.proofs.Lined.{opened-yes, opened-no}
use Rattle.request.proofs.Within.{opened-within, part-within}

pub ruleset open_steps = (opened-yes, opened-no)

-- behind the key reading stands within the text, and a value ends within it
pub ruleset within_steps = (opened-within, part-within)

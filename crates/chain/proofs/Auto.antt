-- What the check takes for granted in the functions that name these.
use Rattle.terms.proofs.Lists.{long, within-32}
use Rattle.chain.proofs.CodeNext.{next-refused, next-done}
use Rattle.chain.proofs.CodeSequence.{whole-made, sequence-none, sequence-refused, sequence-done, slope-made, slope-short}

-- one link, each way it can go
pub ruleset links = (next-refused, next-done)

-- the start of a chain
pub ruleset starts = (long, within-32, whole-made, sequence-none, sequence-refused, sequence-done, slope-made, slope-short)

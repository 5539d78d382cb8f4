-- `divisors::stride` meets its contract: what is clear within the word is clear from the bit on.
use Rattle.divisors.proofs.Skip.{clear_in}
use Rattle.divisors.proofs.stride.Goals as goal

pub returns-else-marks-j-eq0 : goal.returns-else-marks-j-eq0
returns-else-marks-j-eq0 c = clear_in c.args.marks.now c.args.j c.zeros.result c.requires.0 c.zeros.ensures

use Rattle.ratio.proofs.Binary.{ends-odd, ends-back}
use Rattle.ratio.proofs.odd_part.Goals as goal

pub returns : goal.returns
returns c = (ends-odd 64 c.args.x c.requires c.ranges.x.fits, ends-back 64 c.args.x)

-- `bridge::nearest_u64` meets its contract: the halves are floats, and their sum rounds to the float of the whole.
use Rattle.std.proofs.Common.{lit≤}
use lib.Ieee.{binary64}
use Rattle.std.proofs.num.Nearest.{halves_masked, two_to_32}
use Rattle.bridge.proofs.nearest_u64.Goals as goal

pub returns : goal.returns
returns c = halves_masked binary64 32 c.args.n _ two_to_32 (lit≤ tt) (lit≤ tt) c.ranges.n.fits

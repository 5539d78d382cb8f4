-- What the check takes for granted in the functions that name these.
use Rattle.std.proofs.lemmas.Int.{to_z-of_z}
use Rattle.ratio.proofs.Words.{size_back, range-test}
use Rattle.bridge.proofs.Floats.{floats-both}
use Rattle.bridge.proofs.Search.{finite-is}
use Rattle.bridge.proofs.Signs as Signs
use Rattle.bridge.proofs.Snap as Snap
use Rattle.bridge.proofs.Sat.{too-high, too-low, upper, lower, none, kept, kept_low}

-- the library's word for what is finite
pub ruleset finites = (finite-is)

-- the float of a size, with the sign
pub ruleset signs = (Signs.below, Signs.above)

-- the float of a fraction, and what it promises
pub ruleset floats = (floats-both)

-- the whole number that a float below 2^52 is close to
pub ruleset snaps = (Snap.above, Snap.under)

-- the whole number that a float rounds to, by its side of 0 and of the ends
pub ruleset rounds = (too-high, too-low, upper, lower, none, kept, kept_low)

-- a numerator over a denominator
pub ruleset overs = (to_z-of_z, size_back, range-test)

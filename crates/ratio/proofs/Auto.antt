-- What a step's proof takes for granted at each of its calls: a copied number is itself, and a number that was worked out on the way lay within the range.
use Rattle.std.proofs.lemmas.Int.{to_z-of_z}
use Rattle.ratio.proofs.Fractions.{fit-ok, fit-err}

pub ruleset steps = (to_z-of_z, fit-ok, fit-err)

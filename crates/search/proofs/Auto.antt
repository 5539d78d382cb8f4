-- The laws that the check uses at each function's goals.
use Rattle.std.proofs.lemmas.Int.{to_z-of_z}
use lib.ListN.{length-set, length-drop, get_or-eq_default}
use lib.Seq.{length-take-le}
use native.Mathlib.Nat.{div-le_self}
use Rattle.ratio.proofs.Words.{copied-size, fits, size_back, nil-bits, some_bits}
use Rattle.ratio.proofs.Euclid.{gcd-above}
use Rattle.terms.proofs.Lists.{long, within-32, read-terms, terms-of-poly}
use Rattle.search.proofs.CodeAnswer.{listed-done, listed-refused, none-roots, multiple-over, clear-over, clear-done}
use Rattle.search.proofs.CodeArray.{unfilled-none, unfilled-more, filled-poly}
use Rattle.search.proofs.CodeClear.{above-no, above-yes, above-cast, read_some, read-within, widened_none, widened_more, widened-over, widened-all, multiple-within, clearing-none, clearing-more, clearing-over, clearing-all}
use Rattle.search.proofs.CodeInsert.{inserted-full, inserted-room, placing-none, placing-here, placing-more, placing-same, placing-all, tally-is}
use Rattle.search.proofs.CodeStrip.{zeros-short, zeros-none, zeros-more, zeros-here, zeros-all, lowered_none, lowered-more, lowered-all}
use Rattle.search.proofs.CodeTally.{known, recounted, kept-is, count-is, is-tallied, one_none, one-refused, one-over, one-tried, rowing-none, rowing-all, rowing-over, rowing-few, rowing_more, searching-none, searching-all, searching-over, searching-more}
use Rattle.search.proofs.CodeValue.{valuing-none, valuing-more, first-over, second-over, third-over, valuing-all}

pub ruleset read_steps = (to_z-of_z, long, within-32, read-terms, get_or-eq_default)

pub ruleset share_steps = (to_z-of_z, copied-size, fits, size_back, div-le_self)

pub ruleset denominator_steps = (to_z-of_z, above-no, above-yes, above-cast, read_some, read-within, gcd-above)

pub ruleset multiple_steps = (read_steps, widened_none, widened_more, widened-over, widened-all)

pub ruleset clear_steps = (read_steps, length-set, length-take-le, clearing-none, clearing-more, clearing-over, clearing-all, unfilled-none, unfilled-more, filled-poly)

pub ruleset zeros_steps = (read_steps, nil-bits, some_bits, zeros-none, zeros-more, zeros-here, zeros-all)

pub ruleset strip_steps = (read_steps, length-set, length-drop, lowered_none, lowered-more, lowered-all, unfilled-none, unfilled-more, filled-poly)

pub ruleset insert_steps = (known, inserted-full, inserted-room, placing-none, placing-here, placing-more, placing-same, placing-all, tally-is)

pub ruleset value_steps = (read_steps, valuing-none, valuing-more, first-over, second-over, third-over, valuing-all)

pub ruleset keep_steps = (recounted)

pub ruleset try_steps = (to_z-of_z, nil-bits, some_bits, one_none, one-refused, one-over, one-tried)

pub ruleset row_steps = (to_z-of_z, long, within-32, rowing-none, rowing-all, rowing-over, rowing-few, rowing_more)

pub ruleset all_steps = (to_z-of_z, searching-none, searching-all, searching-over, searching-more)

pub ruleset listing_steps = (to_z-of_z, listed-done, listed-refused, kept-is, count-is, is-tallied)

pub ruleset whole_steps = (zeros-short, terms-of-poly)

pub ruleset roots_steps = (terms-of-poly, multiple-within, none-roots, multiple-over, clear-over, clear-done)

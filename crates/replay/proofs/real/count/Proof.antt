-- `replay::real::count` is safe and ends.
use mathlib.Core.Path.{sym}
use lib.Seq.{length-take-le}
use borrow.Author.Rules.{rules}
use Rattle.replay.proofs.real.count.Statement.{statement}
use Rattle.replay.proofs.real.count.Tie as tie

entries-requires : tie.Need-entries-an-requires
entries-requires c κs = tt

entries-requires-2 : tie.Need-entries-ad-requires
entries-requires-2 c κs = tt

real-requires : tie.Need-real-lo-requires
real-requires c κs = tt

real-requires-2 : tie.Need-real-hi-requires
real-requires-2 c κs = tt

natural-requires : tie.Need-natural-number-requires
natural-requires c κs = tt

array-share-prefix-xn : tie.Need-slice_bounds-xn-end
array-share-prefix-xn c = search rules

slice-aggregate-kanrosuye-count : tie.Need-slice_bounds-kanrosuye_count-end
slice-aggregate-kanrosuye-count c = sym (length-take-le _ _ c.entries-an.ensures)

array-share-prefix-xd : tie.Need-slice_bounds-xd-end
array-share-prefix-xd c = search rules

slice-aggregate-kanrosuye-count-2 : tie.Need-slice_bounds-kanrosuye_count-end-2
slice-aggregate-kanrosuye-count-2 c = sym (length-take-le _ _ c.entries-ad.ensures)

kanrosuye-count-requires : tie.Need-kanrosuye_count-got-requires
kanrosuye-count-requires c κs = tt

returns : tie.Need-returns
returns c = search rules

pub count_spec : {M : Type 1} → statement M
count_spec =
    tie.close
    (tie.spec
    entries-requires
    entries-requires-2
    real-requires
    real-requires-2
    natural-requires
    array-share-prefix-xn
    slice-aggregate-kanrosuye-count
    array-share-prefix-xd
    slice-aggregate-kanrosuye-count-2
    kanrosuye-count-requires
    returns)

-- `replay::real::isolate` is safe and ends.
use mathlib.Core.Path.{sym}
use lib.Seq.{length-take-le}
use borrow.Author.Rules.{rules}
use Rattle.replay.proofs.real.isolate.Statement.{statement}
use Rattle.replay.proofs.real.isolate.Tie as tie

entries-requires : tie.Need-entries-an-requires
entries-requires c κs = tt

entries-requires-2 : tie.Need-entries-ad-requires
entries-requires-2 c κs = tt

real-requires : tie.Need-real-lo-requires
real-requires c κs = tt

real-requires-2 : tie.Need-real-hi-requires
real-requires-2 c κs = tt

real-requires-3 : tie.Need-real-tol-requires
real-requires-3 c κs = tt

natural-requires : tie.Need-natural-number-requires
natural-requires c κs = tt

array-share-prefix-xn : tie.Need-slice_bounds-xn-end
array-share-prefix-xn c = search rules

slice-aggregate-kanrosuye-isolate : tie.Need-slice_bounds-kanrosuye_isolate-end
slice-aggregate-kanrosuye-isolate c = sym (length-take-le _ _ c.entries-an.ensures)

array-share-prefix-xd : tie.Need-slice_bounds-xd-end
array-share-prefix-xd c = search rules

slice-aggregate-kanrosuye-isolate-2 : tie.Need-slice_bounds-kanrosuye_isolate-end-2
slice-aggregate-kanrosuye-isolate-2 c = sym (length-take-le _ _ c.entries-ad.ensures)

kanrosuye-isolate-requires : tie.Need-kanrosuye_isolate-got-requires
kanrosuye-isolate-requires c κs = tt

roots-requires : tie.Need-roots-r-requires
roots-requires c κs = tt

returns : tie.Need-returns-then-got-number
returns c = search rules

returns-2 : tie.Need-returns-else-got-number
returns-2 c = search rules

pub isolate_spec : {M : Type 1} → statement M
isolate_spec =
    tie.close
    (tie.spec
    entries-requires
    entries-requires-2
    real-requires
    real-requires-2
    real-requires-3
    natural-requires
    array-share-prefix-xn
    slice-aggregate-kanrosuye-isolate
    array-share-prefix-xd
    slice-aggregate-kanrosuye-isolate-2
    kanrosuye-isolate-requires
    roots-requires
    returns
    returns-2)

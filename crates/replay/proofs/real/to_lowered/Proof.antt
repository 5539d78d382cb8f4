-- `replay::real::to_lowered` is safe and ends.
use mathlib.Core.Path.{sym}
use native.Mathlib.Omega.{arith}
use lib.Seq.{length-take-le}
use borrow.Author.Rules.{rules}
use Rattle.replay.proofs.real.to_lowered.Statement.{statement}
use Rattle.replay.proofs.real.to_lowered.Tie as tie

entries-requires : tie.Need-entries-an-requires
entries-requires c κs = tt

entries-requires-2 : tie.Need-entries-ad-requires
entries-requires-2 c κs = tt

natural-requires : tie.Need-natural-wrt-requires
natural-requires c κs = tt

natural-requires-2 : tie.Need-natural-room-requires
natural-requires-2 c κs = tt

natural-requires-3 : tie.Need-natural-number-requires
natural-requires-3 c κs = tt

array-share-prefix-xn : tie.Need-slice_bounds-xn-end
array-share-prefix-xn c = search rules

slice-aggregate-kanrosuye-to-lowered : tie.Need-slice_bounds-kanrosuye_to_lowered-end
slice-aggregate-kanrosuye-to-lowered c = sym (length-take-le _ _ c.entries-an.ensures)

array-share-prefix-xd : tie.Need-slice_bounds-xd-end
array-share-prefix-xd c = search rules

slice-aggregate-kanrosuye-to-lowered-2 : tie.Need-slice_bounds-kanrosuye_to_lowered-end-2
slice-aggregate-kanrosuye-to-lowered-2 c = sym (length-take-le _ _ c.entries-ad.ensures)

array-borrow-prefix-out : tie.Need-slice_bounds-out-end
array-borrow-prefix-out c = search rules

slice-aggregate-kanrosuye-to-lowered-3 : tie.Need-slice_bounds-kanrosuye_to_lowered-end-3
slice-aggregate-kanrosuye-to-lowered-3 c = sym (length-take-le _ _ (omega arith))

kanrosuye-to-lowered-requires : tie.Need-kanrosuye_to_lowered-got-requires
kanrosuye-to-lowered-requires c κs = search rules

page-requires : tie.Need-page-r-requires
page-requires c κs = search rules

returns : tie.Need-returns-then-got-number
returns c = search rules

returns-2 : tie.Need-returns-else-got-number
returns-2 c = search rules

pub to_lowered_spec : {M : Type 1} → statement M
to_lowered_spec =
    tie.close
    (tie.spec
    entries-requires
    entries-requires-2
    natural-requires
    natural-requires-2
    natural-requires-3
    array-share-prefix-xn
    slice-aggregate-kanrosuye-to-lowered
    array-share-prefix-xd
    slice-aggregate-kanrosuye-to-lowered-2
    array-borrow-prefix-out
    slice-aggregate-kanrosuye-to-lowered-3
    kanrosuye-to-lowered-requires
    page-requires
    returns
    returns-2)

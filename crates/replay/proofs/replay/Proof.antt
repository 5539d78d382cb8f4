-- `replay::replay` is safe and ends.
use mathlib.Core.Path.{sym}
use lib.Seq.{length-take-le}
use borrow.Author.Rules.{rules}
use Rattle.replay.proofs.replay.Statement.{statement}
use Rattle.replay.proofs.replay.Tie as tie

natural-requires : tie.Need-natural-op-requires
natural-requires c κs = tt

natural-requires-2 : tie.Need-natural-n-requires
natural-requires-2 c κs = tt

entries-requires : tie.Need-entries-an-requires
entries-requires c κs = tt

entries-requires-2 : tie.Need-entries-ad-requires
entries-requires-2 c κs = tt

entries-requires-3 : tie.Need-entries-bn-requires
entries-requires-3 c κs = tt

entries-requires-4 : tie.Need-entries-bd-requires
entries-requires-4 c κs = tt

array-share-prefix-xn : tie.Need-slice_bounds-xn-end
array-share-prefix-xn c = search rules

slice-aggregate-kanrosuye-call : tie.Need-slice_bounds-kanrosuye_call-end
slice-aggregate-kanrosuye-call c = sym (length-take-le _ _ c.entries-an.ensures)

array-share-prefix-xd : tie.Need-slice_bounds-xd-end
array-share-prefix-xd c = search rules

slice-aggregate-kanrosuye-call-2 : tie.Need-slice_bounds-kanrosuye_call-end-2
slice-aggregate-kanrosuye-call-2 c = sym (length-take-le _ _ c.entries-ad.ensures)

array-share-prefix-yn : tie.Need-slice_bounds-yn-end
array-share-prefix-yn c = search rules

slice-aggregate-kanrosuye-call-3 : tie.Need-slice_bounds-kanrosuye_call-end-3
slice-aggregate-kanrosuye-call-3 c = sym (length-take-le _ _ c.entries-bn.ensures)

array-share-prefix-yd : tie.Need-slice_bounds-yd-end
array-share-prefix-yd c = search rules

slice-aggregate-kanrosuye-call-4 : tie.Need-slice_bounds-kanrosuye_call-end-4
slice-aggregate-kanrosuye-call-4 c = sym (length-take-le _ _ c.entries-bd.ensures)

kanrosuye-call-requires : tie.Need-kanrosuye_call-number-requires
kanrosuye-call-requires c κs = tt

as-stored-requires : tie.Need-as_stored-requires
as-stored-requires c κs = tt

returns : tie.Need-returns
returns c = search rules

pub replay_spec : {M : Type 1} → statement M
replay_spec =
    tie.close
    (tie.spec
    natural-requires
    natural-requires-2
    entries-requires
    entries-requires-2
    entries-requires-3
    entries-requires-4
    array-share-prefix-xn
    slice-aggregate-kanrosuye-call
    array-share-prefix-xd
    slice-aggregate-kanrosuye-call-2
    array-share-prefix-yn
    slice-aggregate-kanrosuye-call-3
    array-share-prefix-yd
    slice-aggregate-kanrosuye-call-4
    kanrosuye-call-requires
    as-stored-requires
    returns)

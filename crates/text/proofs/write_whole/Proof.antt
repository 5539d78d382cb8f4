-- `text::write_whole` meets its contract.
use borrow.Author.Rules.{rules}
use mathlib.Core.Path.{sym, ap, ◌∙◌}
use mathlib.Core.List.{[], ◌∷◌, ◌++◌}
use Rattle.ratio.proofs.Words.{copied-size}
use Rattle.text.specs.Spell.{decimal_of}
use Rattle.text.proofs.Pages.{lays-then, lays-as}
use Rattle.text.proofs.Numbers.{whole_below, whole_above}
use Rattle.text.proofs.write_whole.Statement.{statement}
use Rattle.text.proofs.write_whole.Tie as tie

put-requires : tie.Need-put-next-requires
put-requires c κs = tt

magnitude-requires : tie.Need-magnitude-requires
magnitude-requires c κs = tt

write-decimal-requires : tie.Need-write_decimal-requires
write-decimal-requires c κs = tt

magnitude-requires-2 : tie.Need-magnitude-requires-else-v-lt0
magnitude-requires-2 c κs = tt

write-decimal-requires-2 : tie.Need-write_decimal-requires-else-v-lt0
write-decimal-requires-2 c κs = tt

same_length : tie.Need-shape_of-out-then-v-lt0
same_length c = search rules

returns : tie.Need-returns-then-v-lt0
returns c =
    let m = c.magnitude.ensures in
    let s = c in
    lays-as _ _ _ _ (ap (λ n. (45 ∷ []) ++ decimal_of n) (copied-size s.args.v _ s.ranges.v m) ∙ sym (whole_below s.args.v s.ranges.v c.if-v-lt0.true))
    (lays-then _ _ _ _ c.put-next.ensures c.write_decimal.ensures)

same-length-2 : tie.Need-shape_of-out-else-v-lt0
same-length-2 c = search rules

returns-2 : tie.Need-returns-else-v-lt0
returns-2 c =
    let m = c.magnitude-else-v-lt0.ensures in
    let s = c in
    lays-as _ _ _ _ (ap decimal_of (copied-size s.args.v _ s.ranges.v m) ∙ sym (whole_above s.args.v s.ranges.v c.if-v-lt0.false)) c.write_decimal-else-v-lt0.ensures

pub write_whole_spec : {M : Type 1} → statement M
write_whole_spec =
    tie.close
    (tie.spec
    put-requires
    magnitude-requires
    write-decimal-requires
    magnitude-requires-2
    write-decimal-requires-2
    same_length
    returns
    same-length-2
    returns-2)

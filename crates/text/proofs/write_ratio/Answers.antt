-- `text::write_ratio` meets its contract.
use mathlib.Core.Path.{ap, ap₂, ◌∙◌}
use mathlib.Core.List.{[], ◌∷◌, ◌++◌}
use mir.Facts.{to_z-of_z}
use Rattle.text.specs.Spell.{whole_text}
use Rattle.text.proofs.Pages.{lays-then, lays-as}
use Rattle.text.proofs.Numbers.{ratio-whole, ratio-over}
use Rattle.text.proofs.write_ratio.Goals as goal

pub returns-then-v-eq1 : goal.returns-then-v-eq1
returns-then-v-eq1 c =
    let v = c.args.v in
    let n = ap whole_text (to_z-of_z {w = Rattle.std.proofs.Common.w64} {z = v.num} (record { sfits = c.struct_told-1.given.0.1 })) in
    let r = lays-as _ _ _ _ (n ∙ ratio-whole v (record { sfits = c.struct_told-2-1.given.1.0.1 }) c.if-v-eq1.true) (c.write_whole-next.ensures.is, c.write_whole-next.ensures.page) in
    record { is = r.0; page = r.1 }

pub returns-else-v-eq1 : goal.returns-else-v-eq1
returns-else-v-eq1 c =
    let v = c.args.v in
    let n = ap whole_text (to_z-of_z {w = Rattle.std.proofs.Common.w64} {z = v.num} (record { sfits = c.struct_told-1.given.0.1 })) in
    let d = ap whole_text (to_z-of_z {w = Rattle.std.proofs.Common.w64} {z = v.den} (record { sfits = c.struct_told-else-v-eq1-1.given.1.0.1 })) in
    let r =
    lays-as _ _ _ _ (ap₂ (λ a b. (a ++ (47 ∷ [])) ++ b) n d ∙ ratio-over v (record { sfits = c.struct_told-2-1.given.1.0.1 }) c.if-v-eq1.false)
    (lays-then _ _ _ _ (lays-then _ _ _ _ (c.write_whole-next.ensures.is, c.write_whole-next.ensures.page) (c.put-behind.ensures.is, c.put-behind.ensures.page)) (c.write_whole.ensures.is, c.write_whole.ensures.page)) in
    record { is = r.0; page = r.1 }

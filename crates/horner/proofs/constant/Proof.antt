-- `horner::constant` meets its contract.
use borrow.Author.Rules.{rules}
use mathlib.Core.Path.{ap}
use mathlib.Core.List.{◌∷◌}
use Rattle.text.specs.Spell.{float_text}
use Rattle.text.proofs.Pages.{lays-then, lays-as}
use Rattle.horner.proofs.constant.Statement.{statement}
use Rattle.horner.proofs.constant.Tie as tie

put-requires : tie.Need-put-next-requires
put-requires c κs = tt

plain-to-f64-requires : tie.Need-plain_to_f64-requires
plain-to-f64-requires c κs = tt

write-float-requires : tie.Need-write_float-requires
write-float-requires c κs = tt

same_length : tie.Need-shape_of-out
same_length c = search rules

returns : tie.Need-returns
returns c =
    lays-as _ _ _ _ (ap (λ x. 99 ∷ float_text x) c.plain_to_f64.ensures)
    (lays-then _ _ _ _ c.put-next.ensures c.write_float.ensures)

pub constant_spec : {M : Type 1} → statement M
constant_spec =
    tie.close
    (tie.spec put-requires plain-to-f64-requires write-float-requires same_length returns)

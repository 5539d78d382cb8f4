-- `calls::place` meets its contract.
use mathlib.Core.Path.{ap, ◌∙◌}
use lib.IntN.{nat_abs}
use mir.Facts.{to_z-of_z}
use Rattle.ratio.specs.declared.Ratio.{Ratio}
use borrow.Author.Rules.{rules}
use Rattle.calls.proofs.place.Statement.{statement}
use Rattle.calls.proofs.place.Tie as tie

point-requires : tie.Need-point-x-requires
point-requires c κs = search rules

magnitude-requires : tie.Need-magnitude-requires
magnitude-requires c κs = search rules

returns : tie.Need-returns
returns c =
    let x = c.point-x.result in
    c.magnitude.ensures ∙ ap nat_abs (to_z-of_z {w = Rattle.std.proofs.Common.w64} {z = x.num} (record { sfits = c.struct_told-1.given.0.1 })) ∙ ap (λ (r : Ratio). nat_abs r.num) c.point-x.ensures

pub place_spec : {M : Type 1} → statement M
place_spec = tie.close (tie.spec point-requires magnitude-requires returns)

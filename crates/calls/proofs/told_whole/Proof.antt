-- `calls::told_whole` meets its contract.
use mathlib.Core.Path.{ap, ap₂, ◌∙◌}
use lib.IntN.{ℤ}
use mir.Facts.{to_z-of_z}
use Rattle.terms.specs.Machine.{whole_r}
use Rattle.calls.specs.Call.{constant_of}
use Rattle.terms.specs.declared.Poly.{Poly}
use Rattle.remainders.specs.declared.Division.{Division}
use borrow.Author.Rules.{rules}
use Rattle.calls.proofs.told_whole.Statement.{statement}
use Rattle.calls.proofs.told_whole.Tie as tie

constant-requires : tie.Need-constant-requires
constant-requires c κs = search rules

zero-requires : tie.Need-zero-requires
zero-requires c κs = search rules

returns : tie.Need-returns
returns c = let w = c.args.w in ap₂ {C = Division} (λ (p q : Poly). record { outcome = w.outcome; quotient = p; rest = q; steps = w.steps }) (c.constant.ensures ∙ ap (λ (z : ℤ). constant_of (whole_r z)) (to_z-of_z {w = Rattle.std.proofs.Common.w64} {z = w.value} (record { sfits = c.struct_told-1.given.1.0.1 }))) c.zero.ensures

pub told_whole_spec : {M : Type 1} → statement M
told_whole_spec = tie.close (tie.spec constant-requires zero-requires returns)

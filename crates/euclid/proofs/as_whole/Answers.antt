-- `euclid::as_whole` meets its contract.
use mathlib.Core.Path.{sym, ap, ◌∙◌}
use mathlib.Core.Bool.{true}
use lib.IntN.{ℤ, nat_abs}
use mir.Facts.{to_z-of_z}
use Rattle.ratio.specs.Refusal.{Outcome}
use Rattle.euclid.specs.Answer.{whole_if, whole_from_if}
use Rattle.euclid.proofs.Wholes.{whole-kept, whole-refused}
use Rattle.euclid.proofs.as_whole.Goals as goal

pub returns-in-Err : goal.returns-in-Err
returns-in-Err c =
    let n = c.args.n in
    c.no_whole.ensures ∙ sym (ap (λ (o : Outcome). whole_from_if o n.value n.steps) c.in-Err.is)

pub returns-then-magnitude-eq1 : goal.returns-then-magnitude-eq1
returns-then-magnitude-eq1 c =
    let m = c in
    let n = m.args.n in
    ap (λ (x : ℤ). whole_if true x n.steps) (to_z-of_z {w = Rattle.std.proofs.Common.w64} {z = n.value.num} (record { sfits = c.struct_told-then-magnitude-eq1-1.given.0.1 }))
    ∙ whole-kept n.value n.steps m.magnitude.result (m.magnitude.ensures.is ∙ ap nat_abs (to_z-of_z {w = Rattle.std.proofs.Common.w64} {z = n.value.den} (record { sfits = m.struct_told-1.given.1.0.1 }))) n.outcome m.in-Ok.is c.if-magnitude-eq1.true

pub returns-else-magnitude-eq1 : goal.returns-else-magnitude-eq1
returns-else-magnitude-eq1 c =
    let m = c in
    let n = m.args.n in
    whole-refused n.value n.steps m.magnitude.result (m.magnitude.ensures.is ∙ ap nat_abs (to_z-of_z {w = Rattle.std.proofs.Common.w64} {z = n.value.den} (record { sfits = m.struct_told-1.given.1.0.1 }))) n.outcome m.in-Ok.is c.if-magnitude-eq1.false
    c.no_whole-else-magnitude-eq1.result c.no_whole-else-magnitude-eq1.ensures

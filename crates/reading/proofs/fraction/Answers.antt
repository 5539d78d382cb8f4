-- `reading::fraction` meets its contract.
use mathlib.Core.Path.{sym, ap₂, ◌∙◌}
use Rattle.reading.specs.Numbers.{fraction_step}
use Rattle.reading.proofs.Parts.{fraction-low, fraction-done, fraction-not}
use Rattle.reading.proofs.fraction.Goals as goal

pub returns-in_default : goal.returns-in_default
returns-in_default c = rw c.in_default.is

pub returns-in_default-d : goal.returns-in_default-d
returns-in_default-d c = rw (c.in-Some.is, c.in_default-d.is)

pub returns-then-den-lt2 : goal.returns-then-den-lt2
returns-then-den-lt2 c =
    let d = c in
    let n = d in
    fraction-low n.in-Some.num d.in-Some-d.den (record { sfits = c.in-Some-d.known_told-in-Some-d-1-own.given.0.1 }) c.if-den-lt2.true ∙ ap₂ fraction_step (sym n.in-Some.is) (sym d.in-Some-d.is)

pub returns-then-gcd_i64-eq1 : goal.returns-then-gcd_i64-eq1
returns-then-gcd_i64-eq1 c =
    let d = c in
    let n = d in
    fraction-done n.in-Some.num d.in-Some-d.den (record { sfits = d.in-Some.known_told-1-own.given.0.1 }) (record { sfits = c.in-Some-d.known_told-in-Some-d-1-own.given.0.1 }) c.if-den-lt2.false c.gcd_i64.ensures.is c.if-gcd_i64-eq1.true ∙ ap₂ fraction_step (sym n.in-Some.is) (sym d.in-Some-d.is)

pub returns-else-gcd_i64-eq1 : goal.returns-else-gcd_i64-eq1
returns-else-gcd_i64-eq1 c =
    let d = c in
    let n = d in
    fraction-not n.in-Some.num d.in-Some-d.den (record { sfits = d.in-Some.known_told-1-own.given.0.1 }) (record { sfits = c.in-Some-d.known_told-in-Some-d-1-own.given.0.1 }) c.if-den-lt2.false c.gcd_i64.ensures.is c.if-gcd_i64-eq1.false ∙ ap₂ fraction_step (sym n.in-Some.is) (sym d.in-Some-d.is)

-- `calls_real::kanrosuye_to_ratio` meets its contract.
use mathlib.Core.Path.{sym, ◌∙◌}
use Rattle.calls.proofs.Telling.{step-done, step-lent, step-refused, step_kept}
use borrow.Author.Rules.{rules}
use Rattle.calls_real.proofs.kanrosuye_to_ratio.Statement.{statement}
use Rattle.calls_real.proofs.kanrosuye_to_ratio.Tie as tie

f64-to-ratio-requires : tie.Need-f64_to_ratio-s-requires
f64-to-ratio-requires c κs = tt

enum-known-s : tie.Need-enum_known-s
enum-known-s c = search rules

enum-known-s-2 : tie.Need-enum_known-s-in-Err-1
enum-known-s-2 c = search rules

number-requires : tie.Need-number-requires
number-requires c κs = tt

returns : tie.Need-returns-in-Ok
returns c =
    let m = c in
    let v = c.in-Ok.x in
    let e = sym m.f64_to_ratio-s.ensures.0 ∙ c.in-Ok.is in
    (step-done _ v e, step-lent _ v e _ (record { sfits = c.struct_told-1.given.0.1 }) (record { sfits = c.struct_told-1.given.1.0.1 }))

returns-2 : tie.Need-returns-in-Err
returns-2 c =
    let m = c in
    let w = c.in-Err.why in
    let e = sym m.f64_to_ratio-s.ensures.0 ∙ c.in-Err.is in
    (step-refused _ w e c.number.result c.number.ensures, step_kept _ w e _)

pub kanrosuye_to_ratio_spec : {M : Type 1} → statement M
kanrosuye_to_ratio_spec =
    tie.close
    (tie.spec f64-to-ratio-requires enum-known-s enum-known-s-2 number-requires returns returns-2)

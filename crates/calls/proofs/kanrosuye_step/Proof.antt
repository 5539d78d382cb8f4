-- `calls::kanrosuye_step` meets its contract.
use mathlib.Core.Path.{sym, ◌∙◌}
use Rattle.calls.proofs.Telling.{step-read, step-done, step-lent, step-refused, step_kept}
use borrow.Author.Rules.{rules}
use Rattle.calls.proofs.kanrosuye_step.Statement.{statement}
use Rattle.calls.proofs.kanrosuye_step.Tie as tie

step-requires : tie.Need-step-s-requires
step-requires c κs = search rules

enum-known-s : tie.Need-enum_known-s
enum-known-s c = search rules

enum-known-s-2 : tie.Need-enum_known-s-in-Err-1
enum-known-s-2 c = search rules

number-requires : tie.Need-number-requires
number-requires c κs = search rules

returns : tie.Need-returns-in-Ok
returns c =
    let m = c in
    let s = m in
    let v = c.in-Ok.v in
    let e = sym (m.step-s.ensures ∙ step-read s.args.op s.args.an s.args.ad s.args.bn s.args.bd s.ranges.an s.ranges.ad s.ranges.bn s.ranges.bd) ∙ c.in-Ok.is in
    (step-done _ v e, step-lent _ v e _ (record { sfits = c.struct_told-1.given.0.1 }) (record { sfits = c.struct_told-1.given.1.0.1 }))

returns-2 : tie.Need-returns-in-Err
returns-2 c =
    let m = c in
    let s = m in
    let w = c.in-Err.why in
    let e = sym (m.step-s.ensures ∙ step-read s.args.op s.args.an s.args.ad s.args.bn s.args.bd s.ranges.an s.ranges.ad s.ranges.bn s.ranges.bd) ∙ c.in-Err.is in
    (step-refused _ w e c.number.result c.number.ensures, step_kept _ w e _)

pub kanrosuye_step_spec : {M : Type 1} → statement M
kanrosuye_step_spec =
    tie.close
    (tie.spec step-requires enum-known-s enum-known-s-2 number-requires returns returns-2)

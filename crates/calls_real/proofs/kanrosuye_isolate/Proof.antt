-- `calls_real::kanrosuye_isolate` meets its contract.
use mathlib.Core.Path.{refl, sym, ap, ◌∙◌}
use Rattle.ratio.specs.Refusal.{Outcome}
use Rattle.isolate.specs.declared.Isolation.{Isolation}
use Rattle.calls.specs.Call.{number_told}
use Rattle.calls.proofs.Telling.{told-number, wrote, kept}
use Rattle.calls_real.specs.Real.{isolated_of}
use borrow.Author.Rules.{rules}
use Rattle.calls_real.proofs.kanrosuye_isolate.Statement.{statement}
use Rattle.calls_real.proofs.kanrosuye_isolate.Tie as tie

isolated-requires : tie.Need-isolated-r-requires
isolated-requires c κs = tt

enum_told : tie.Need-enum_told-1
enum_told c = search rules

number-requires : tie.Need-number-requires
number-requires c κs = tt

enum-known-o : tie.Need-enum_known-o
enum-known-o c = search rules

number-requires-2 : tie.Need-number-requires-in-Err
number-requires-2 c κs = tt

-- what the model answers
abbrev model : tie.Start → Isolation
model s = isolated_of s.args.an.now s.args.ad.now s.args.lo s.args.hi s.args.tol

abbrev out : Isolation → Outcome
out r = r.outcome

returns : tie.Need-returns-in-Ok
returns c =
    let told = c in
    let m = told in
    let s = m in
    let t = m.isolated-r.result in
    let e = m.isolated-r.ensures in
    let h = told.in-Ok.is in (
      told-number out t (model s.before.before.before.before) e (λ (r : Isolation). r.len) c.number.result c.number.ensures,
      wrote out t (model s.before.before.before.before) e (λ (r : Isolation). r.roots) s.args.out.now t.roots h refl,
    )

returns-2 : tie.Need-returns-in-Err
returns-2 c =
    let k = c in
    let m = k in
    let s = m in
    let t = m.isolated-r.result in
    let e = m.isolated-r.ensures in
    let w = k.in-Err.why in
    let h = k.in-Err.is in (
      told-number out t (model s.before.before.before) e (λ (r : Isolation). r.len) c.number-in-Err.result (c.number-in-Err.ensures ∙ ap (λ (o : Outcome). number_told o t.len) (sym h)),
      kept out t (model s.before.before.before) e s.args.out.now (model s.before.before.before).roots w h,
    )

pub kanrosuye_isolate_spec : {M : Type 1} → statement M
kanrosuye_isolate_spec =
    tie.close
    (tie.spec
    isolated-requires
    enum_told
    number-requires
    enum-known-o
    number-requires-2
    returns
    returns-2)

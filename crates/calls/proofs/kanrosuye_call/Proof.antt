-- `calls::kanrosuye_call` meets its contract.
use mathlib.Core.Path.{sym, ap, ◌∙◌}
use Rattle.ratio.specs.Refusal.{Outcome}
use Rattle.remainders.specs.declared.Division.{Division}
use Rattle.calls.specs.Call.{called_of, nums_of, dens_of, number_told}
use Rattle.calls.proofs.Telling.{told-number, wrote, kept}
use borrow.Author.Rules.{rules}
use Rattle.calls.proofs.kanrosuye_call.Statement.{statement}
use Rattle.calls.proofs.kanrosuye_call.Tie as tie

called-requires : tie.Need-called-t-requires
called-requires c κs = search rules

enum_told : tie.Need-enum_told-1
enum_told c = search rules

nums-requires : tie.Need-nums-requires
nums-requires c κs = search rules

dens-requires : tie.Need-dens-requires
dens-requires c κs = search rules

nums-requires-2 : tie.Need-nums-requires-in-Ok
nums-requires-2 c κs = search rules

dens-requires-2 : tie.Need-dens-requires-in-Ok
dens-requires-2 c κs = search rules

number-requires : tie.Need-number-requires
number-requires c κs = search rules

enum-known-o : tie.Need-enum_known-o
enum-known-o c = search rules

number-requires-2 : tie.Need-number-requires-in-Err
number-requires-2 c κs = search rules

-- what the model answers
abbrev model : tie.Start → Division
model s = called_of s.args.op s.args.an.now s.args.ad.now s.args.bn.now s.args.bd.now s.args.n

abbrev out : Division → Outcome
out d = d.outcome

returns : tie.Need-returns-in-Ok
returns c =
    let told = c in
    let m = told in
    let s = m in
    let t = m.called-t.result in
    let e = m.called-t.ensures in
    let h = told.in-Ok.is in (
      told-number out t (model s.before.before.before.before.before.before.before.before.before.before.before) e (λ (d : Division). d.steps) c.number.result c.number.ensures,
      (
        wrote out t (model s.before.before.before.before.before.before.before.before.before.before.before) e (λ (d : Division). nums_of d.quotient) s.args.qn.now c.nums.result h c.nums.ensures,
        (
          wrote out t (model s.before.before.before.before.before.before.before.before.before.before.before) e (λ (d : Division). dens_of d.quotient) s.args.qd.now c.dens.result h c.dens.ensures,
          (
            wrote out t (model s.before.before.before.before.before.before.before.before.before.before.before) e (λ (d : Division). nums_of d.rest) s.args.rn.now c.nums-in-Ok.result h c.nums-in-Ok.ensures,
            wrote out t (model s.before.before.before.before.before.before.before.before.before.before.before) e (λ (d : Division). dens_of d.rest) s.args.rd.now c.dens-in-Ok.result h c.dens-in-Ok.ensures,
          ),
        ),
      ),
    )

returns-2 : tie.Need-returns-in-Err
returns-2 c =
    let m = c in
    let s = m in
    let t = m.called-t.result in
    let e = m.called-t.ensures in
    let w = c.in-Err.why in
    let h = c.in-Err.is in (
      told-number out t (model s.before.before.before) e (λ (d : Division). d.steps) c.number-in-Err.result (c.number-in-Err.ensures ∙ ap (λ (o : Outcome). number_told o t.steps) (sym h)),
      (
        kept out t (model s.before.before.before) e s.args.qn.now (nums_of (model s.before.before.before).quotient) w h,
        (
          kept out t (model s.before.before.before) e s.args.qd.now (dens_of (model s.before.before.before).quotient) w h,
          (
            kept out t (model s.before.before.before) e s.args.rn.now (nums_of (model s.before.before.before).rest) w h,
            kept out t (model s.before.before.before) e s.args.rd.now (dens_of (model s.before.before.before).rest) w h,
          ),
        ),
      ),
    )

pub kanrosuye_call_spec : {M : Type 1} → statement M
kanrosuye_call_spec =
    tie.close
    (tie.spec
    called-requires
    enum_told
    nums-requires
    dens-requires
    nums-requires-2
    dens-requires-2
    number-requires
    enum-known-o
    number-requires-2
    returns
    returns-2)

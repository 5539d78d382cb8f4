-- `calls_real::kanrosuye_lower` meets its contract.
use mathlib.Core.Path.{sym, ap, ◌∙◌}
use Rattle.ratio.specs.Refusal.{Outcome}
use Rattle.terms.specs.declared.Answer.{Answer}
use Rattle.lower.specs.Run.{lower_of}
use Rattle.calls.specs.Call.{nums_of, dens_of, number_told}
use Rattle.calls.proofs.Telling.{told-number, wrote, kept}
use borrow.Author.Rules.{rules}
use Rattle.calls_real.proofs.kanrosuye_lower.Statement.{statement}
use Rattle.calls_real.proofs.kanrosuye_lower.Tie as tie

from-lowered-requires : tie.Need-from_lowered-a-requires
from-lowered-requires c κs = tt

enum_told : tie.Need-enum_told-1
enum_told c = search rules

nums-requires : tie.Need-nums-requires
nums-requires c κs = tt

dens-requires : tie.Need-dens-requires
dens-requires c κs = tt

number-requires : tie.Need-number-requires
number-requires c κs = tt

enum-known-o : tie.Need-enum_known-o
enum-known-o c = search rules

number-requires-2 : tie.Need-number-requires-in-Err
number-requires-2 c κs = tt

-- what the model answers
abbrev model : tie.Start → Answer
model s = lower_of s.args.wrt s.args.text.now

abbrev out : Answer → Outcome
out a = a.outcome

returns : tie.Need-returns-in-Ok
returns c =
    let told = c in
    let m = told in
    let s = m in
    let t = m.from_lowered-a.result in
    let e = m.from_lowered-a.ensures.0 in
    let h = told.in-Ok.is in (
      told-number out t (model s.before.before.before.before.before.before.before.before) e (λ (a : Answer). a.steps) c.number.result c.number.ensures,
      (
        wrote out t (model s.before.before.before.before.before.before.before.before) e (λ (a : Answer). nums_of a.poly) s.args.nums.now c.nums.result h c.nums.ensures,
        wrote out t (model s.before.before.before.before.before.before.before.before) e (λ (a : Answer). dens_of a.poly) s.args.dens.now c.dens.result h c.dens.ensures,
      ),
    )

returns-2 : tie.Need-returns-in-Err
returns-2 c =
    let k = c in
    let m = k in
    let s = m in
    let t = m.from_lowered-a.result in
    let e = m.from_lowered-a.ensures.0 in
    let w = k.in-Err.why in
    let h = k.in-Err.is in (
      told-number out t (model s.before.before.before.before) e (λ (a : Answer). a.steps) c.number-in-Err.result (c.number-in-Err.ensures ∙ ap (λ (o : Outcome). number_told o t.steps) (sym h)),
      (kept out t (model s.before.before.before.before) e s.args.nums.now (nums_of (model s.before.before.before.before).poly) w h, kept out t (model s.before.before.before.before) e s.args.dens.now (dens_of (model s.before.before.before.before).poly) w h),
    )

pub kanrosuye_lower_spec : {M : Type 1} → statement M
kanrosuye_lower_spec =
    tie.close
    (tie.spec
    from-lowered-requires
    enum_told
    nums-requires
    dens-requires
    number-requires
    enum-known-o
    number-requires-2
    returns
    returns-2)

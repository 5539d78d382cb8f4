-- `calls_real::kanrosuye_to_lowered` meets its contract.
use mathlib.Core.Path.{◌≡◌, refl, ap, ap₂, ◌∙◌}
use Prim.Native.Nat.{ℕ}
use Rattle.ratio.specs.Refusal.{Outcome}
use Rattle.terms.specs.declared.Answer.{Answer}
use Rattle.poly.specs.Door.{both}
use Rattle.poly.proofs.Doors.{open-entered, shut-entered}
use Rattle.horner.specs.declared.Written.{Written}
use Rattle.horner.specs.Written as H
use Rattle.calls.proofs.Telling.{told-number}
use Rattle.calls_real.specs.Real.{writer_door, written_with, written_of, page_with}
use borrow.Author.Rules.{rules}
use Rattle.calls_real.proofs.kanrosuye_to_lowered.Statement.{statement}
use Rattle.calls_real.proofs.kanrosuye_to_lowered.Tie as tie

from-parts-requires : tie.Need-from_parts-a-requires
from-parts-requires c κs = tt

gate-requires : tie.Need-gate-requires
gate-requires c κs = tt

index-requires : tie.Need-index-requires
index-requires c κs = tt

both-requires : tie.Need-both-d-requires
both-requires c κs = tt

enum_told : tie.Need-enum_told-1
enum_told c = search rules

to-lowered-requires : tie.Need-to_lowered-w-requires
to-lowered-requires c κs = tt

number-requires : tie.Need-number-requires
number-requires c κs = tt

reason-requires : tie.Need-reason-requires
reason-requires c κs = tt

number-requires-2 : tie.Need-number-requires-in_default
number-requires-2 c κs = tt

same_length : tie.Need-shape_of-out
same_length c = search rules

abbrev out : Written → Outcome
out w = w.outcome

abbrev len : Written → ℕ
len w = w.len

-- the door that was found is the model's
gate : (c : tie.After-both-d) → let p = c in c.both-d.result ≡ writer_door p.from_parts-a.result p.args.wrt
gate c = c.both-d.ensures ∙ ap₂ both c.gate.ensures c.index.ensures

returns : tie.Need-returns-in-Open
returns c =
    let t = c in
    let h = t.in-Open.is in
    let g = t in
    let p = g in
    let s = p.args in
    let page = s.out.now in (
      told-number out t.to_lowered-w.result (written_of s.an.now s.ad.now s.wrt page)
          (open-entered g.both-d.result _ (gate g.before.before.before.before.before.before.before) h H.refused_for _ t.to_lowered-w.result t.to_lowered-w.ensures.0 ∙ ap (λ (a : Answer). written_with a s.wrt page) p.from_parts-a.ensures.0)
          len c.number.result c.number.ensures,
      open-entered g.both-d.result _ (gate g.before.before.before.before.before.before.before) h (λ why. page) _ _ t.to_lowered-w.ensures.1.0 ∙ ap (λ (a : Answer). page_with a s.wrt page) p.from_parts-a.ensures.0,
    )

returns-2 : tie.Need-returns-in_default
returns-2 c =
    let r = c in
    let k = r.in_default.in_default-own.keys2 in
    let g = r in
    let p = g in
    let s = p.args in
    let page = s.out.now in (
      told-number out (H.refused_for r.reason.result) (written_of s.an.now s.ad.now s.wrt page)
          (shut-entered g.both-d.result _ (gate g.before.before.before) k r.reason.result r.reason.ensures H.refused_for _ _ refl ∙ ap (λ (a : Answer). written_with a s.wrt page) p.from_parts-a.ensures.0)
          len c.number-in_default.result c.number-in_default.ensures,
      shut-entered g.both-d.result _ (gate g.before.before.before) k r.reason.result r.reason.ensures (λ why. page) _ page refl ∙ ap (λ (a : Answer). page_with a s.wrt page) p.from_parts-a.ensures.0,
    )

pub kanrosuye_to_lowered_spec : {M : Type 1} → statement M
kanrosuye_to_lowered_spec =
    tie.close
    (tie.spec
    from-parts-requires
    gate-requires
    index-requires
    both-requires
    enum_told
    to-lowered-requires
    number-requires
    reason-requires
    number-requires-2
    same_length
    returns
    returns-2)

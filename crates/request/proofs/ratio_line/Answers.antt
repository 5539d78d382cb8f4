-- `request::ratio_line` meets its contract: a line that isn't wanted, a bad key, a fraction, and a word that is none.
use Rattle.std.proofs.Common.{refl, sym, ap, ◌∙◌}
use Rattle.request.specs.Lines.{no_ratio}
use Rattle.request.proofs.Lined.{ratio-not, ratio-wanted, ratio-bad, ratio-done, ratio-refused}
use Rattle.request.proofs.ratio_line.Goals as goal

pub returns-then-not-wanted : goal.returns-then-not-wanted
returns-then-not-wanted c = let s = c.args in c.no_ratio.ensures ∙ ratio-not s.text.now s.c s.key.now s.wanted c.if-not-wanted.true

pub returns-then-v : goal.returns-then-v
returns-then-v c =
    let s = c.args in
    let v = c.open-v in
    c.no_ratio-then-v.ensures ∙ ratio-wanted s.text.now s.c s.key.now s.wanted c.if-not-wanted.false v.result v.ensures (ratio-bad s.text.now v.result c.if-v.true)

pub returns-in-Ok : goal.returns-in-Ok
returns-in-Ok c =
    let s = c.args in
    let v = c.open-v in
    let e = c.part_end-end in
    rw c.close.ensures
    (ratio-wanted s.text.now s.c s.key.now s.wanted c.if-not-wanted.false v.result v.ensures
    (ratio-done s.text.now v.result c.if-v.false e.result e.ensures.is _ refl _ (sym c.read_ratio.ensures.is ∙ c.in-Ok.is)))

pub returns-in-Err : goal.returns-in-Err
returns-in-Err c =
    let s = c.args in
    let v = c.open-v in
    let e = c.part_end-end in
    c.no_ratio-in-Err.ensures ∙ ap no_ratio c.stopped.ensures
    ∙ ratio-wanted s.text.now s.c s.key.now s.wanted c.if-not-wanted.false v.result v.ensures
    (ratio-refused s.text.now v.result c.if-v.false e.result e.ensures.is _ refl (sym c.read_ratio.ensures.is ∙ c.in-Err.is))

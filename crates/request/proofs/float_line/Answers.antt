-- `request::float_line` meets its contract: a line that isn't wanted, a bad key, a float, and a word that is none.
use Rattle.std.proofs.Common.{refl, sym, ap, ◌∙◌}
use Rattle.request.specs.Lines.{no_float, limited_of}
use Rattle.request.proofs.Lined.{float-not, float-wanted, float-bad, float-done, float-refused}
use Rattle.request.proofs.float_line.Goals as goal

pub returns-then-not-wanted : goal.returns-then-not-wanted
returns-then-not-wanted c = let s = c.args in c.no_float.ensures ∙ float-not s.text.now s.c s.key.now s.wanted c.if-not-wanted.true s.tolerance

pub returns-then-v : goal.returns-then-v
returns-then-v c =
    let s = c.args in
    let v = c.open-v in
    c.no_float-then-v.ensures ∙ float-wanted s.text.now s.c s.key.now s.wanted c.if-not-wanted.false v.result v.ensures s.tolerance (float-bad s.text.now v.result c.if-v.true s.tolerance)

pub returns-in-Some : goal.returns-in-Some
returns-in-Some c =
    let s = c.args in
    let v = c.open-v in
    let e = c.part_end-end in
    rw c.close.ensures
    (float-wanted s.text.now s.c s.key.now s.wanted c.if-not-wanted.false v.result v.ensures s.tolerance
    (float-done s.text.now v.result c.if-v.false e.result e.ensures.is _ refl s.tolerance _ (sym (c.limited.ensures ∙ ap (limited_of s.tolerance) c.read_float.ensures.is) ∙ c.in-Some.is)))

pub returns-in-None : goal.returns-in-None
returns-in-None c =
    let s = c.args in
    let v = c.open-v in
    let e = c.part_end-end in
    c.no_float-in-None.ensures ∙ ap no_float c.stopped.ensures
    ∙ float-wanted s.text.now s.c s.key.now s.wanted c.if-not-wanted.false v.result v.ensures s.tolerance
    (float-refused s.text.now v.result c.if-v.false e.result e.ensures.is _ refl s.tolerance (sym (c.limited.ensures ∙ ap (limited_of s.tolerance) c.read_float.ensures.is) ∙ c.in-None.is))

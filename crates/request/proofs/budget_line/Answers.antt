-- `request::budget_line` meets its contract: a line that isn't wanted or isn't there, a bad key, a budget, and a word that is none.
use Rattle.std.proofs.Common.{refl, sym, ap, ◌∙◌}
use Rattle.request.specs.Lines.{no_budget}
use Rattle.request.proofs.Lined.{budget-not, budget-missing, budget-wanted, budget-bad, budget-done, budget-refused}
use Rattle.request.proofs.budget_line.Goals as goal

pub returns-then-not-wanted : goal.returns-then-not-wanted
returns-then-not-wanted c = let s = c.args in c.no_budget.ensures ∙ budget-not s.text.now s.c s.key.now s.wanted c.if-not-wanted.true

pub returns-then-not-starts : goal.returns-then-not-starts
returns-then-not-starts c =
    let s = c.args in
    c.no_budget-then-not-starts.ensures ∙ budget-missing s.text.now s.c s.key.now s.wanted c.if-not-wanted.false (sym c.starts.ensures ∙ c.if-not-starts.true)

pub returns-then-v : goal.returns-then-v
returns-then-v c =
    let s = c.args in
    let v = c.open-v in
    c.no_budget-then-v.ensures ∙ budget-wanted s.text.now s.c s.key.now s.wanted c.if-not-wanted.false v.result v.ensures (sym c.starts.ensures ∙ c.if-not-starts.false) (budget-bad s.text.now v.result c.if-v.true)

pub returns-in-Some : goal.returns-in-Some
returns-in-Some c =
    let s = c.args in
    let v = c.open-v in
    let e = c.part_end-end in
    rw c.close.ensures
    (budget-wanted s.text.now s.c s.key.now s.wanted c.if-not-wanted.false v.result v.ensures (sym c.starts.ensures ∙ c.if-not-starts.false)
    (budget-done s.text.now v.result c.if-v.false e.result e.ensures.is _ refl _ (sym c.read_budget.ensures.is ∙ c.in-Some.is)))

pub returns-in-None : goal.returns-in-None
returns-in-None c =
    let s = c.args in
    let v = c.open-v in
    let e = c.part_end-end in
    c.no_budget-in-None.ensures ∙ ap no_budget c.stopped.ensures
    ∙ budget-wanted s.text.now s.c s.key.now s.wanted c.if-not-wanted.false v.result v.ensures (sym c.starts.ensures ∙ c.if-not-starts.false)
    (budget-refused s.text.now v.result c.if-v.false e.result e.ensures.is _ refl (sym c.read_budget.ensures.is ∙ c.in-None.is))

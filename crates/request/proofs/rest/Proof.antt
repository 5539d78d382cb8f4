-- `request::rest` meets its contract.
use mathlib.Core.Path.{◌≡◌, sym, ap, ap₂, subst, ◌∙◌}
use mathlib.Core.Bool.{true}
use Prim.Native.Nat.{◌≤◌}
use lib.ListN.{length}
use Rattle.text.specs.Ascii.{bytes}
use Rattle.request.specs.declared.Cursor.{Cursor}
use Rattle.request.specs.declared.PolyLine.{PolyLine}
use Rattle.request.specs.declared.RatioLine.{RatioLine}
use Rattle.request.specs.declared.BudgetLine.{BudgetLine}
use Rattle.request.specs.declared.Wants.{Wants}
use Rattle.request.specs.Ops.{wants_of}
use Rattle.request.specs.Lines.{poly_line_of, ratio_line_of, budget_line_of}
use Rattle.request.specs.Request.{keys_of, a_of, b_of, x_of, budget_of}
use Rattle.request.proofs.Within.{op-within, a-within, b-within, x-within}
use Rattle.request.proofs.Made.{made-refused, made-done}
use borrow.Author.Rules.{rules}
use Rattle.request.proofs.rest.Statement.{statement}
use Rattle.request.proofs.rest.Tie as tie

-- what the lines hold, one after the other
wants-are : (c : tie.After-wants_of-wants) → c.wants_of-wants.result ≡ keys_of c.args.text.now
wants-are c = c.wants_of-wants.ensures ∙ ap wants_of c.requires.1

a-is : (c : tie.After-poly_line-a) → c.poly_line-a.result ≡ a_of c.args.text.now
unfolding a_of
a-is c = let s = c in c.poly_line-a.ensures ∙ ap (λ d. poly_line_of s.args.text.now d (bytes "a=") true) s.requires.2

b-is : (c : tie.After-poly_line-b) → c.poly_line-b.result ≡ b_of c.args.text.now
unfolding b_of
b-is c =
    let a = c in
    c.poly_line-b.ensures ∙ ap₂ (λ (l : PolyLine) (w : Wants). poly_line_of a.args.text.now l.cursor (bytes "b=") w.b) (a-is a.before.before.before.before) (wants-are a.before.before.before.before.before.before.before)

x-is : (c : tie.After-ratio_line-x) → c.ratio_line-x.result ≡ x_of c.args.text.now
unfolding x_of
x-is c =
    let b = c in
    let w = b in
    c.ratio_line-x.ensures ∙ ap₂ (λ (l : PolyLine) (w : Wants). ratio_line_of c.args.text.now l.cursor (bytes "x=") w.x) (b-is b.before.before.before.before) (wants-are w.before.before.before.before.before.before.before.before.before.before.before)

n-is : (c : tie.After-budget_line-n) → c.budget_line-n.result ≡ budget_of c.args.text.now
unfolding budget_of
n-is c =
    let x = c in
    c.budget_line-n.ensures ∙ ap₂ (λ (l : RatioLine) (w : Wants). budget_line_of c.args.text.now l.cursor (bytes "budget=") w.budget) (x-is x.before.before.before.before) (wants-are x.before.before.before.before.before.before.before.before.before.before.before.before.before.before.before)

wants-of-requires : tie.Need-wants_of-wants-requires
wants-of-requires c κs = tt

poly-line-requires : tie.Need-poly_line-a-requires
poly-line-requires c κs = let s = c in (subst (λ (d : Cursor). d.at ≤ length s.args.text.now) (sym s.requires.2) (op-within s.args.text.now), s.requires.0)

poly-line-requires-2 : tie.Need-poly_line-b-requires
poly-line-requires-2 c κs = (subst (λ (l : PolyLine). l.cursor.at ≤ length c.args.text.now) (sym (a-is c.before.before.before)) (a-within c.args.text.now), c.requires.0)

ratio-line-requires : tie.Need-ratio_line-x-requires
ratio-line-requires c κs = subst (λ (l : PolyLine). l.cursor.at ≤ length c.args.text.now) (sym (b-is c.before.before.before)) (b-within c.args.text.now)

budget-line-requires : tie.Need-budget_line-n-requires
budget-line-requires c κs = subst (λ (l : RatioLine). l.cursor.at ≤ length c.args.text.now) (sym (x-is c.before.before.before)) (x-within c.args.text.now)

interval-lines-requires : tie.Need-interval_lines-i-requires
interval-lines-requires c κs =
    let n = c in
    let w = wants-are n.before.before.before.before.before.before.before.before.before.before.before.before.before.before.before.before in
    (ap (λ (l : BudgetLine). l.cursor) (n-is n.before), ap (λ (k : Wants). k.ends) w, ap (λ (k : Wants). k.tol) w)

finish-requires : tie.Need-finish-o-requires
finish-requires c κs = tt

enum-known-o : tie.Need-enum_known-o
enum-known-o c = search rules

refused-requires : tie.Need-refused-requires
refused-requires c κs = tt

returns : tie.Need-returns-in-Err
returns c =
    let f = c in
    let t = f in
    let s = t in
    c.refused.ensures ∙ made-refused s.args.text.now s.args.op s.requires.1 t.interval_lines-i.result t.interval_lines-i.ensures (sym f.finish-o.ensures ∙ c.in-Err.is)

enum_told : tie.Need-enum_told-1
enum_told c = search rules

returns-2 : tie.Need-returns
returns-2 c =
    let m = c in
    let f = m in
    let t = f in
    let n = t in
    let x = n in
    let b = x in
    let a = b in
    let s = a in
    made-done s.args.text.now s.args.op s.requires.1 t.interval_lines-i.result t.interval_lines-i.ensures a.poly_line-a.result b.poly_line-b.result x.ratio_line-x.result n.budget_line-n.result (a-is a.before.before.before.before.before.before.before.before.before.before.before.before.before.before.before.before.before.before.before.before) (b-is b.before.before.before.before.before.before.before.before.before.before.before.before.before.before.before.before) (x-is x.before.before.before.before.before.before.before.before.before.before.before.before) (n-is n.before.before.before.before.before.before.before.before) (sym f.finish-o.ensures ∙ m.in_default.is)

pub rest_spec : {M : Type 1} → statement M
rest_spec =
    tie.close
    (tie.spec wants-of-requires poly-line-requires poly-line-requires-2 ratio-line-requires budget-line-requires interval-lines-requires finish-requires enum-known-o refused-requires returns enum_told returns-2)

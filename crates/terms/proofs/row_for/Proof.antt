-- `terms::row_for` meets its contract: what `add_row` requires is tested.
use mathlib.Core.Path.{sym, ap, ◌∙◌}
use mathlib.Core.Bool.{Bool}
use Prim.Native.Nat.{◌≤◌}
use native.Mathlib.Omega.{arith}
use borrow.Author.Rules.{rules}
use Rattle.terms.specs.Poly.{terms_of}
use Rattle.terms.specs.Machine.{plain}
use Rattle.terms.specs.Work.{rowed}
use Rattle.terms.specs.Answer.{op_if, row_of}
use Rattle.terms.proofs.Lists.{long, within-32}
use Rattle.terms.proofs.Product.{row-wide, row-late, row-given}
use Rattle.terms.proofs.row_for.Statement.{statement}
use Rattle.terms.proofs.row_for.Tie as tie

length-requires : tie.Need-length-m-requires
length-requires c κs = search rules

row-refused-requires : tie.Need-row_refused-requires
row-refused-requires c κs = search rules

-- no more than 32 coefficients
short : (c : tie.After-length-m) → c.length-m.result ≤ 32
short c = let s = c.args.b in omega (arith, c.length-m.ensures, within-32 s.len s.coeffs (search (rules, long)))

add-if2 : tie.Need-overflow_add-k
add-if2 c = omega (arith, short c.before)

row-refused-requires-2 : tie.Need-row_refused-requires-then-k-m-gt32
row-refused-requires-2 c κs = search rules

row-refused-requires-3 : tie.Need-row_refused-requires-then-steps-gt65536
row-refused-requires-3 c κs = search rules

sub-row-requires : tie.Need-sub_row-requires
sub-row-requires c κs = (omega (arith, c.length-m.ensures), omega arith)

add-row-requires : tie.Need-add_row-requires
add-row-requires c κs = (omega (arith, c.length-m.ensures), omega arith)

returns : tie.Need-returns-then-k-gt32
returns c =
    let s = c.args in
    c.row_refused.ensures ∙ row-wide s.k s.acc s.x (terms_of s.b) s.subtract s.steps (omega (arith, c.length-m.ensures))

returns-2 : tie.Need-returns-then-k-m-gt32
returns-2 c =
    let s = c.args in
    c.row_refused-then-k-m-gt32.ensures ∙ row-wide s.k s.acc s.x (terms_of s.b) s.subtract s.steps (omega (arith, c.length-m.ensures))

returns-3 : tie.Need-returns-then-steps-gt65536
returns-3 c =
    let s = c.args in
    c.row_refused-then-steps-gt65536.ensures ∙ row-late s.k s.acc s.x (terms_of s.b) s.subtract s.steps (omega (arith, c.length-m.ensures)) (omega arith)

returns-4 : tie.Need-returns-then-subtract
returns-4 c =
    let l = c in
    let s = l.args in
    c.sub_row.ensures
    ∙ ap (λ (t : Bool). row_of (rowed plain (op_if t) s.acc s.k s.x (terms_of s.b) s.steps)) (sym c.if-subtract.true)
    ∙ row-given s.k s.acc s.x (terms_of s.b) s.subtract s.steps (omega (arith, l.length-m.ensures)) (omega arith)

returns-5 : tie.Need-returns-else-subtract
returns-5 c =
    let l = c in
    let s = l.args in
    c.add_row.ensures
    ∙ ap (λ (t : Bool). row_of (rowed plain (op_if t) s.acc s.k s.x (terms_of s.b) s.steps)) (sym c.if-subtract.false)
    ∙ row-given s.k s.acc s.x (terms_of s.b) s.subtract s.steps (omega (arith, l.length-m.ensures)) (omega arith)

pub row_for_spec : {M : Type 1} → statement M
row_for_spec =
    tie.close
    (tie.spec
    length-requires
    row-refused-requires
    add-if2
    row-refused-requires-2
    row-refused-requires-3
    sub-row-requires
    add-row-requires
    returns
    returns-2
    returns-3
    returns-4
    returns-5)

-- `terms::negative` meets its contract: what is subtracted is its negative, added.
use mathlib.Core.Path.{◌≡◌, sym, ap, ap₂, ◌∙◌}
use mathlib.Core.Bool.{not, false}
use borrow.Author.Tests.{eq-eqb, ne_eqb, leb-true}
use lib.IntN.{ℤ}
use mir.Facts.{to_z-of_z}
use Rattle.ratio.specs.Range.{limit, Within, within}
use Rattle.ratio.proofs.Words.{range-test, neg-fits, neg-back}
use Rattle.terms.specs.Machine.{plus, plain}
use Rattle.terms.specs.Work.{rowed}
use Rattle.terms.proofs.Rows.{row-negative, row-neither}
use Rattle.terms.proofs.negative.Statement.{statement}
use Rattle.terms.proofs.negative.Tie as tie

-- in the range, as the test tells
in-range : (c : tie.Else-n) → Within c.args.x.num
in-range c =
    let x = c.args.x in
    leb-true _ limit (sym (range-test x.num (record { sfits = c.struct_told-1.given.0.1 })) ∙ ap not (ne_eqb _ 9223372036854775808 c.if-n.false))

sub-t5 : tie.Need-overflow_sub-result
sub-t5 c = neg-fits c.args.x.num (in-range c)

returns : tie.Need-returns-then-n
returns c acc b k n =
    let x = c.args.x in
    let h : within x.num ≡ false = sym (range-test x.num (record { sfits = c.struct_told-1.given.0.1 })) ∙ ap not (eq-eqb _ 9223372036854775808 c.if-n.true) in
    row-neither x h b acc k n

returns-2 : tie.Need-returns-else-n
returns-2 c acc b k n =
    let e = c in
    let x = e.args.x in
    ap₂ (λ (m d : ℤ). rowed plain plus acc k (record { num = m; den = d }) b n) (neg-back x.num (in-range e.before)) (to_z-of_z {w = Rattle.std.proofs.Common.w64} {z = x.den} (record { sfits = c.struct_told-else-n-1.given.1.0.1 }))
    ∙ row-negative x b acc k n

pub negative_spec : {M : Type 1} → statement M
negative_spec = tie.close (tie.spec sub-t5 returns returns-2)

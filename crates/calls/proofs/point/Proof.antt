-- `calls::point` meets its contract.
use Rattle.calls.proofs.Telling.{no-point, a_point}
use mathlib.Core.Path.{sym, ◌∙◌}
use borrow.Author.Rules.{rules}
use Rattle.calls.proofs.point.Statement.{statement}
use Rattle.calls.proofs.point.Tie as tie

length-requires : tie.Need-length-requires
length-requires c κs = search rules

element-copy-out-result : tie.Need-bounds-b-0
element-copy-out-result c = search rules

returns : tie.Need-returns-then-length-eq0
returns c = no-point c.args.b (sym c.length.ensures ∙ c.if-length-eq0.true)

returns-2 : tie.Need-returns-else-length-eq0
returns-2 c = a_point c.args.b (λ e. c.if-length-eq0.false (c.length.ensures ∙ e))

pub point_spec : {M : Type 1} → statement M
point_spec = tie.close (tie.spec length-requires element-copy-out-result returns returns-2)

-- `factor::rebuild` meets its contract.
use mathlib.Core.Path.{◌∙◌}
use Rattle.factor.proofs.Products.{rebuild-refused, rebuild-done}
use borrow.Author.Rules.{rules}
use Rattle.factor.proofs.Rebuilds.{rebuild-both}
use Rattle.factor.proofs.rebuild.Statement.{statement}
use Rattle.factor.proofs.rebuild.Tie as tie

factor-requires : tie.Need-factor-r-requires
factor-requires c κs = tt

enum-known-o : tie.Need-enum_known-o
enum-known-o c = search rules

refused-requires : tie.Need-refused-requires
refused-requires c κs = tt

enum_told : tie.Need-enum_told-1
enum_told c = search rules

multiply-requires : tie.Need-multiply-requires
multiply-requires c κs = tt

returns : tie.Need-returns-in-Err
returns c =
    let g = c in
    let s = g.args in
    rebuild-both s.p s.budget c.refused.result
    (c.refused.ensures ∙ rebuild-refused s.p s.budget g.factor-r.result _ g.factor-r.ensures.0 c.in-Err.is)

returns-2 : tie.Need-returns-in-Ok
returns-2 c =
    let g = c in
    let s = g.args in
    rebuild-both s.p s.budget c.multiply.result
    (c.multiply.ensures ∙ rebuild-done s.p s.budget g.factor-r.result g.factor-r.ensures.0 c.in-Ok.is)

pub rebuild_spec : {M : Type 1} → statement M
rebuild_spec =
    tie.close
    (tie.spec
    factor-requires
    enum-known-o
    refused-requires
    enum_told
    multiply-requires
    returns
    returns-2)

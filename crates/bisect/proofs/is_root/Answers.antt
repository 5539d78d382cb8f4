-- `bisect::is_root` meets its contract: no row has a root, and otherwise the first row says.
use mathlib.Core.Path.{refl, ap, ◌∙◌}
use mathlib.Core.List.{List}
use native.Mathlib.Omega.{arith}
use lib.Ieee.{Float}
use Rattle.sturm.specs.Value.{horner}
use Rattle.bisect.proofs.Cuts.{root_none, root-first}
use Rattle.bisect.proofs.is_root.Goals as goal

pub returns-then-sizes-eq0 : goal.returns-then-sizes-eq0
returns-then-sizes-eq0 c = root_none c.args.values.now c.args.sizes.now c.args.x (omega arith)

pub returns : goal.returns
returns c =
    let s = c.args in
    root-first s.values.now s.sizes.now _ s.x c.eval_f64.result (omega arith) (c.eval_f64.ensures.is ∙ ap (λ (l : List Float). horner l s.x) (c.within-n.ensures.1 s.values.now refl))

-- `sturm::lost` meets its contract: the rows are read back as they were laid.
use mathlib.Core.Path.{ap, ap₂, ◌∙◌}
use mathlib.Core.List.{List}
use Prim.Native.Nat.{ℕ, ◌-◌}
use lib.Ieee.{Float}
use Rattle.chain.specs.Answer.{entries_of}
use Rattle.sturm.specs.Changes.{changes}
use Rattle.sturm.specs.Along.{rows_of, signs_at}
use Rattle.sturm.proofs.Laid.{rows-lent}
use Rattle.sturm.proofs.lost.Goals as goal

pub returns : goal.returns
returns c =
    let s = c.args in
    let rows = rows-lent c.chain_floats-t.result (rows_of (entries_of s.c)) c.chain_floats-t.ensures.is in
    c.less.ensures.is
    ∙ ap₂ (λ (x y : ℕ). x - y)
    (c.sign_changes-va.ensures.is ∙ ap (λ (r : List (List Float)). changes (signs_at r s.lo)) rows)
    (c.sign_changes-vb.ensures.is ∙ ap (λ (r : List (List Float)). changes (signs_at r s.hi)) rows)

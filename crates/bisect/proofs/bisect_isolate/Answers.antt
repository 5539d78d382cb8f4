-- `bisect::bisect_isolate` meets its contract: the rows are read back as they were laid.
use mathlib.Core.Path.{ap, ◌∙◌}
use mathlib.Core.List.{List}
use lib.Ieee.{Float}
use Rattle.chain.specs.Answer.{entries_of}
use Rattle.sturm.specs.Along.{rows_of}
use Rattle.sturm.proofs.Laid.{rows-lent}
use Rattle.bisect.specs.Bracket.{brackets_of}
use Rattle.bisect.specs.Bisect.{bisect_of}
use Rattle.bisect.proofs.bisect_isolate.Goals as goal

pub returns : goal.returns
returns c =
    let s = c.args in
    record {
      is =
          c.between.ensures
          ∙ ap (λ (r : List (List Float)). brackets_of (bisect_of r s.a s.b s.tol)) (rows-lent c.chain_floats-t.result (rows_of (entries_of s.c)) c.chain_floats-t.ensures.is);
    }

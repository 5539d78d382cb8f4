-- `kronecker::gather` meets its contract: a listing that is refused refuses the whole.
use native.Mathlib.Omega.{arith}
use Rattle.std.proofs.lemmas.Grind.{common_steps}
use Rattle.terms.specs.Poly.{terms_of}
use Rattle.kronecker.specs.Combinations.{rows_of}
use Rattle.kronecker.proofs.Auto.{gather_steps}
use Rattle.kronecker.proofs.Rows.{gathers-over}
use Rattle.kronecker.proofs.gather.Goals as goal

pub returns-in-Err : goal.returns-in-Err
returns-in-Err c =
    let s = c.args in
    let l = c.loop-j in
    (c.no_gathering.ensures.0, gathers-over (terms_of s.f) s.budget s.n l.j (rows_of l.j l.made) (omega arith) l.invariant.1 c.integer_factors-l.result (grind (arith, common_steps, gather_steps)) c.no_gathering.result _ c.in-Err.is c.no_gathering.ensures.1)

-- `search::insert` meets its contract: the smaller stays, the larger is carried on.
use native.Mathlib.Omega.{arith}
use Rattle.std.proofs.lemmas.Grind.{common_steps}
use Rattle.search.specs.Tally.{kept_list}
use Rattle.search.proofs.Auto.{insert_steps}
use Rattle.search.proofs.CodeInsert.{placing-more}
use Rattle.search.proofs.CodeTally.{known}
use Rattle.search.proofs.insert.Goals as goal

pub loop-i-preserved : goal.loop-i-preserved
loop-i-preserved c =
    let l = c.loop-i in
    placing-more c.args.x (kept_list c.args.t) l.i l.carried l.values (omega (arith, (known c.args.t c.requires).size)) l.invariant c.in-Some.low c.in-Some.high (grind (arith, common_steps, insert_steps))

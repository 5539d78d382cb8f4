-- `search::insert` meets its contract. The loop's invariant: what is left to carry gives the whole list.
use Rattle.search.specs.Tally.{kept_list}
use Rattle.search.proofs.CodeInsert.{Placing}
use Rattle.search.proofs.insert.Given as goal

abbrev pub invariant-loop-i : goal.invariant-loop-i
invariant-loop-i l = Placing l.fn.x (kept_list l.t) l.i l.carried l.values

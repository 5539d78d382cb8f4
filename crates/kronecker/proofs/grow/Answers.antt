-- `kronecker::grow` meets its contract: one more combination.
use Prim.Native.Nat.{◌+◌}
use mathlib.Core.Path.{◌∙◌}
use native.Mathlib.Numerals.{add-one}
use native.Mathlib.Omega.{arith}
use lib.ListN.{set, length-set}
use lib.Seq.{take-suc-set}
use Rattle.std.proofs.lemmas.Grind.{common_steps}
use Rattle.std.proofs.lemmas.Int.{to_z-of_z}
use Rattle.divisors.specs.Walk.{rest}
use Rattle.kronecker.specs.declared.Combinations.{Combinations}
use Rattle.kronecker.specs.Combinations.{rows_of}
use Rattle.kronecker.proofs.Rows.{growing-step, rows-read, rows_long}
use Rattle.kronecker.proofs.grow.Goals as goal

pub loop-d-preserved : goal.loop-d-preserved
loop-d-preserved c =
    let s = c.args in
    let old = c.requires.1 in
    let out = c.loop-d.out in
    let v = c.loop-d.invariant in
    let row = c.longer.result in
    let r : Combinations = record { rows = set out.rows out.len row; len = out.len + 1 } in
    (record { few = omega arith; places = length-set out.rows out.len row ∙ v.0.places }, growing-step (rows_of s.j s.old) (rest s.size s.marks.now 0) (s.j + 1) c.loop-i.i out r _ row c.whole.result (rest s.size s.marks.now c.loop-d.at) _ _ _ (omega (arith, rows_long s.j s.old old)) (c.next_factor.ensures.promise.found c.in-Some.d c.in-Some.is) v.0 (omega arith) (rw (add-one out.len) (take-suc-set out.rows out.len row (omega (arith, v.0.places)))) c.longer.ensures (rows-read s.j s.old c.loop-i.i _ (omega arith)) (grind (arith, common_steps, to_z-of_z)) v.1)

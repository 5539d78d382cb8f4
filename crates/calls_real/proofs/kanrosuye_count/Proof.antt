-- `calls_real::kanrosuye_count` meets its contract.
use Rattle.sturm.specs.declared.Count.{Count}
use Rattle.calls.proofs.Telling.{told-number}
use Rattle.calls_real.specs.Real.{counted_of}
use Rattle.calls_real.proofs.kanrosuye_count.Statement.{statement}
use Rattle.calls_real.proofs.kanrosuye_count.Tie as tie

counted-requires : tie.Need-counted-c-requires
counted-requires c κs = tt

number-requires : tie.Need-number-requires
number-requires c κs = tt

returns : tie.Need-returns
returns c =
    let t = c in
    let s = t.args in
    told-number (λ (a : Count). a.outcome) t.counted-c.result (counted_of s.an.now s.ad.now s.lo s.hi) t.counted-c.ensures (λ (a : Count). a.count) c.number.result c.number.ensures

pub kanrosuye_count_spec : {M : Type 1} → statement M
kanrosuye_count_spec = tie.close (tie.spec counted-requires number-requires returns)

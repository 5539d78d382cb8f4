-- `yun::end` meets its contract.
use Rattle.terms.specs.Machine.{plain}
use Rattle.terms.specs.Poly.{terms_of}
use Rattle.remainders.specs.Gcd.{monic}
use Rattle.yun.specs.Round.{ended}
use Rattle.yun.proofs.CodeGot.{answer-poly}
use Rattle.yun.proofs.CodeTurn.{ended-refused, ended-done, stops, lasts}
use Rattle.yun.proofs.end.Statement.{statement}
use Rattle.yun.proofs.end.Tie as tie

monic-requires : tie.Need-monic-m-requires
monic-requires c κs = tt

enum-known-o : tie.Need-enum_known-o
enum-known-o c = c.in-Err-1.keys1

stop-requires : tie.Need-stop-requires
stop-requires c κs = tt

returns : tie.Need-returns-in-Err
returns c =
    let o = c in
    let m = o in
    let b = terms_of m.args.b in
    stops (λ i. ended i b) c.stop.result _ c.stop.ensures (λ i found. ended-refused i b found m.monic-m.result m.monic-m.ensures _ o.in-Err.is)

enum_told : tie.Need-enum_told-1
enum_told c = c.in_default-1.keys2

over-requires : tie.Need-over-requires
over-requires c κs = tt

returns-2 : tie.Need-returns
returns-2 c =
    let t = c in
    let m = t in
    let b = terms_of m.args.b in
    lasts (λ i. ended i b) c.over.result m.monic-m.result.poly c.over.ensures (answer-poly m.monic-m.result (monic plain b 0) m.monic-m.ensures) (λ i found. ended-done i b found m.monic-m.result m.monic-m.ensures t.in_default.is)

pub end_spec : {M : Type 1} → statement M
end_spec =
    tie.close
    (tie.spec monic-requires enum-known-o stop-requires returns enum_told over-requires returns-2)

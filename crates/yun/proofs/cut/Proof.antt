-- `yun::cut` meets its contract.
use native.Mathlib.Omega.{arith}
use Rattle.terms.specs.Poly.{terms_of}
use Rattle.yun.specs.Round.{factor_of, cut_by}
use Rattle.yun.proofs.CodeGot.{answer-poly}
use Rattle.yun.proofs.CodeTurn.{cut-refused, left-refused, right-refused, left-rest, right-rest, cut-done, stops, stays}
use Rattle.yun.proofs.cut.Statement.{statement}
use Rattle.yun.proofs.cut.Tie as tie

factor-of-requires : tie.Need-factor_of-m-requires
factor-of-requires c κs = tt

enum-known-om : tie.Need-enum_known-om
enum-known-om c = c.in-Err-1.keys1

stop-requires : tie.Need-stop-requires
stop-requires c κs = tt

returns : tie.Need-returns-in-Err
returns c =
    let o = c in
    let m = o in
    let s = m.args in
    stops (λ i found. cut_by i (terms_of s.b) (terms_of s.d) found (terms_of s.a)) c.stop.result _ c.stop.ensures (λ i found. cut-refused i (terms_of s.b) (terms_of s.d) found (terms_of s.a) m.factor_of-m.result m.factor_of-m.ensures _ o.in-Err.is)

enum_told : tie.Need-enum_told-1
enum_told c = c.in_default-1.keys2

divide-requires : tie.Need-divide-q-requires
divide-requires c κs = tt

enum-known-oq : tie.Need-enum_known-oq
enum-known-oq c = c.in-Err-oq-1.keys1

stop-requires-2 : tie.Need-stop-requires-in-Err-oq
stop-requires-2 c κs = tt

returns-2 : tie.Need-returns-in-Err-oq
returns-2 c =
    let o = c in
    let q = o in
    let t = q in
    let m = t in
    let s = m.args in
    stops (λ i found. cut_by i (terms_of s.b) (terms_of s.d) found (terms_of s.a)) c.stop-in-Err-oq.result _ c.stop-in-Err-oq.ensures (λ i found. left-refused i (terms_of s.b) (terms_of s.d) found (terms_of s.a) m.factor_of-m.result m.factor_of-m.ensures t.in_default.is q.divide-q.result q.divide-q.ensures _ o.in-Err-oq.is)

enum-told-2 : tie.Need-enum_told-in_default-oq
enum-told-2 c = c.in_default-oq-1.keys2

divide-requires-2 : tie.Need-divide-r-requires
divide-requires-2 c κs = tt

enum-known-or : tie.Need-enum_known-or
enum-known-or c = c.in-Err-or-1.keys1

stop-requires-3 : tie.Need-stop-requires-in-Err-or
stop-requires-3 c κs = tt

returns-3 : tie.Need-returns-in-Err-or
returns-3 c =
    let o = c in
    let r = o in
    let u = r in
    let q = u in
    let t = q in
    let m = t in
    let s = m.args in
    stops (λ i found. cut_by i (terms_of s.b) (terms_of s.d) found (terms_of s.a)) c.stop-in-Err-or.result _ c.stop-in-Err-or.ensures (λ i found. right-refused i (terms_of s.b) (terms_of s.d) found (terms_of s.a) m.factor_of-m.result m.factor_of-m.ensures t.in_default.is q.divide-q.result q.divide-q.ensures u.in_default-oq.is r.divide-r.result r.divide-r.ensures _ o.in-Err-or.is)

enum-told-3 : tie.Need-enum_told-in_default-or
enum-told-3 c = c.in_default-or-1.keys2

length-requires : tie.Need-length-requires
length-requires c κs = tt

stay-whole-requires : tie.Need-stay_whole-requires
stay-whole-requires c κs = tt

returns-4 : tie.Need-returns-then-length-gt0
returns-4 c =
    let l = c in
    let v = l in
    let r = v in
    let u = r in
    let q = u in
    let t = q in
    let m = t in
    let s = m.args in
    stays (λ i found. cut_by i (terms_of s.b) (terms_of s.d) found (terms_of s.a)) c.stay_whole.result c.stay_whole.ensures (λ i found. left-rest i (terms_of s.b) (terms_of s.d) found (terms_of s.a) m.factor_of-m.result m.factor_of-m.ensures t.in_default.is q.divide-q.result q.divide-q.ensures u.in_default-oq.is r.divide-r.result r.divide-r.ensures v.in_default-or.is (omega (arith, l.length.ensures)))

length-requires-2 : tie.Need-length-requires-2
length-requires-2 c κs = tt

stay-whole-requires-2 : tie.Need-stay_whole-requires-then-length-gt0-2
stay-whole-requires-2 c κs = tt

returns-5 : tie.Need-returns-then-length-gt0-2
returns-5 c =
    let k = c in
    let l = k in
    let v = l in
    let r = v in
    let u = r in
    let q = u in
    let t = q in
    let m = t in
    let s = m.args in
    stays (λ i found. cut_by i (terms_of s.b) (terms_of s.d) found (terms_of s.a)) c.stay_whole-then-length-gt0-2.result c.stay_whole-then-length-gt0-2.ensures (λ i found. right-rest i (terms_of s.b) (terms_of s.d) found (terms_of s.a) m.factor_of-m.result m.factor_of-m.ensures t.in_default.is q.divide-q.result q.divide-q.ensures u.in_default-oq.is r.divide-r.result r.divide-r.ensures v.in_default-or.is (omega (arith, k.length-2.ensures)))

returns-6 : tie.Need-returns
returns-6 c =
    let e = c in
    let k = e in
    let l = k in
    let v = l in
    let r = v in
    let u = r in
    let q = u in
    let t = q in
    let m = t in
    let s = m.args in
    record { is = (λ i found. cut-done i (terms_of s.b) (terms_of s.d) found (terms_of s.a) m.factor_of-m.result m.factor_of-m.ensures t.in_default.is q.divide-q.result q.divide-q.ensures u.in_default-oq.is r.divide-r.result r.divide-r.ensures v.in_default-or.is (omega (arith, l.length.ensures, k.if-length-gt0.false)) (omega (arith, k.length-2.ensures, e.if-length-gt0-2.false))); padded = answer-poly m.factor_of-m.result (factor_of (terms_of s.a)) m.factor_of-m.ensures }

pub cut_spec : {M : Type 1} → statement M
cut_spec =
    tie.close
    (tie.spec
    factor-of-requires
    enum-known-om
    stop-requires
    returns
    enum_told
    divide-requires
    enum-known-oq
    stop-requires-2
    returns-2
    enum-told-2
    divide-requires-2
    enum-known-or
    stop-requires-3
    returns-3
    enum-told-3
    length-requires
    stay-whole-requires
    returns-4
    length-requires-2
    stay-whole-requires-2
    returns-5
    returns-6)

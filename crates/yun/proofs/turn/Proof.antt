-- `yun::turn` meets its contract.
use Rattle.ratio.specs.Refusal.{no_refusal}
use Rattle.std.specs.Prelude.{Ok}
use mathlib.Core.Path.{refl, ap, ◌∙◌}
use mathlib.Core.Bool.{false}
use native.Mathlib.Omega.{arith}
use mathlib.Core.List.{[]}
use Rattle.terms.specs.declared.Poly.{Poly}
use Rattle.terms.specs.Poly.{terms_of, poly_of}
use Rattle.yun.specs.Round.{turn_of}
use Rattle.yun.specs.Answer.{over_with}
use Rattle.yun.proofs.CodeTurn.{turn-constant, slope-refused, difference-refused, turn_last, gcd-refused, gcd-done, stops, lasts}
use Rattle.yun.proofs.turn.Statement.{statement}
use Rattle.yun.proofs.turn.Tie as tie

length-requires : tie.Need-length-requires
length-requires c κs = tt

zero-requires : tie.Need-zero-requires
zero-requires c κs = tt

over-requires : tie.Need-over-requires
over-requires c κs = tt

returns : tie.Need-returns-then-length-lt2
returns c =
    let l = c in
    let s = l.args in
    lasts (λ i. turn_of i (terms_of s.b) (terms_of s.c)) c.over.result (poly_of []) (c.over.ensures ∙ ap (λ (p : Poly). over_with no_refusal false p) c.zero.ensures) refl (λ i found. turn-constant i (terms_of s.b) (terms_of s.c) found (omega (arith, l.length.ensures)))

differentiate-requires : tie.Need-differentiate-db-requires
differentiate-requires c κs = tt

enum-known-ob : tie.Need-enum_known-ob
enum-known-ob c = c.in-Err-1.keys1

stop-requires : tie.Need-stop-requires
stop-requires c κs = tt

returns-2 : tie.Need-returns-in-Err
returns-2 c =
    let o = c in
    let d = o in
    let l = d in
    let s = l.args in
    stops (λ i. turn_of i (terms_of s.b) (terms_of s.c)) c.stop.result _ c.stop.ensures (λ i found. slope-refused i (terms_of s.b) (terms_of s.c) found (omega (arith, l.length.ensures)) d.differentiate-db.result d.differentiate-db.ensures _ o.in-Err.is)

enum_told : tie.Need-enum_told-1
enum_told c = c.in_default-1.keys2

zip-requires : tie.Need-zip-diff-requires
zip-requires c κs = tt

enum-known-od : tie.Need-enum_known-od
enum-known-od c = c.in-Err-od-1.keys1

stop-requires-2 : tie.Need-stop-requires-in-Err-od
stop-requires-2 c κs = tt

returns-3 : tie.Need-returns-in-Err-od
returns-3 c =
    let o = c in
    let z = o in
    let t = z in
    let d = t in
    let l = d in
    let s = l.args in
    stops (λ i. turn_of i (terms_of s.b) (terms_of s.c)) c.stop-in-Err-od.result _ c.stop-in-Err-od.ensures (λ i found. difference-refused i (terms_of s.b) (terms_of s.c) found (omega (arith, l.length.ensures)) d.differentiate-db.result d.differentiate-db.ensures t.in_default.is z.zip-diff.result z.zip-diff.ensures _ o.in-Err-od.is)

enum-told-2 : tie.Need-enum_told-in_default-od
enum-told-2 c = c.in_default-od-1.keys2

length-requires-2 : tie.Need-length-requires-2
length-requires-2 c κs = tt

end-requires : tie.Need-end-requires
end-requires c κs = tt

returns-4 : tie.Need-returns-then-length-eq0
returns-4 c =
    let k = c in
    let u = k in
    let z = u in
    let t = z in
    let d = t in
    let l = d in
    let s = l.args in
    record { is = λ i found. c.end.ensures.is i found ∙ turn_last i (terms_of s.b) (terms_of s.c) found (omega (arith, l.length.ensures)) d.differentiate-db.result d.differentiate-db.ensures t.in_default.is z.zip-diff.result z.zip-diff.ensures u.in_default-od.is (omega (arith, k.length-2.ensures)); padded = c.end.ensures.padded }

greatest-requires : tie.Need-greatest-g-requires
greatest-requires c κs = tt

enum-known-og : tie.Need-enum_known-og
enum-known-og c = c.in-Err-og-1.keys1

stop-requires-3 : tie.Need-stop-requires-in-Err-og
stop-requires-3 c κs = tt

returns-5 : tie.Need-returns-in-Err-og
returns-5 c =
    let o = c in
    let g = o in
    let k = g in
    let u = k in
    let z = u in
    let t = z in
    let d = t in
    let l = d in
    let s = l.args in
    stops (λ i. turn_of i (terms_of s.b) (terms_of s.c)) c.stop-in-Err-og.result _ c.stop-in-Err-og.ensures (λ i found. gcd-refused i (terms_of s.b) (terms_of s.c) found (omega (arith, l.length.ensures)) d.differentiate-db.result d.differentiate-db.ensures t.in_default.is z.zip-diff.result z.zip-diff.ensures u.in_default-od.is (omega (arith, k.length-2.ensures)) g.greatest-g.result g.greatest-g.ensures _ o.in-Err-og.is)

enum-told-3 : tie.Need-enum_told-in_default-og
enum-told-3 c = c.in_default-og-1.keys2

cut-requires : tie.Need-cut-requires
cut-requires c κs = tt

returns-6 : tie.Need-returns
returns-6 c =
    let v = c in
    let g = v in
    let k = g in
    let u = k in
    let z = u in
    let t = z in
    let d = t in
    let l = d in
    let s = l.args in
    record { is = λ i found. c.cut.ensures.is i found ∙ gcd-done i (terms_of s.b) (terms_of s.c) found (omega (arith, l.length.ensures)) d.differentiate-db.result d.differentiate-db.ensures t.in_default.is z.zip-diff.result z.zip-diff.ensures u.in_default-od.is (omega (arith, k.length-2.ensures)) g.greatest-g.result g.greatest-g.ensures v.in_default-og.is; padded = c.cut.ensures.padded }

pub turn_spec : {M : Type 1} → statement M
turn_spec =
    tie.close
    (tie.spec
    length-requires
    zero-requires
    over-requires
    returns
    differentiate-requires
    enum-known-ob
    stop-requires
    returns-2
    enum_told
    zip-requires
    enum-known-od
    stop-requires-2
    returns-3
    enum-told-2
    length-requires-2
    end-requires
    returns-4
    greatest-requires
    enum-known-og
    stop-requires-3
    returns-5
    enum-told-3
    cut-requires
    returns-6)

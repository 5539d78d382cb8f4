-- `yun::split_by` meets its contract.
use mathlib.Core.Path.{ap, ◌∙◌}
use native.Mathlib.Omega.{arith}
use Rattle.terms.specs.Poly.{terms_of}
use Rattle.yun.specs.Answer.{decomposition_of}
use Rattle.yun.specs.Yun.{found_or}
use Rattle.yun.proofs.CodeSplit.{first-refused, first_rest, second-refused, second-rest, split-rounds}
use Rattle.yun.proofs.split_by.Statement.{statement}
use Rattle.yun.proofs.split_by.Tie as tie

divide-requires : tie.Need-divide-q-requires
divide-requires c κs = tt

enum-known-oq : tie.Need-enum_known-oq
enum-known-oq c = c.in-Err-1.keys1

refused-requires : tie.Need-refused-requires
refused-requires c κs = tt

returns : tie.Need-returns-in-Err
returns c =
    let o = c in
    let q = o in
    let s = q.args in
    c.refused.ensures ∙ ap (λ g. decomposition_of (found_or (terms_of s.f) g)) (first-refused (terms_of s.f) (terms_of s.df) (terms_of s.a) q.divide-q.result q.divide-q.ensures _ o.in-Err.is)

enum_told : tie.Need-enum_told-1
enum_told c = c.in_default-1.keys2

length-requires : tie.Need-length-requires
length-requires c κs = tt

whole-requires : tie.Need-whole-requires
whole-requires c κs = c.requires

returns-2 : tie.Need-returns-then-length-gt0
returns-2 c =
    let l = c in
    let t = l in
    let q = t in
    let s = q.args in
    c.whole.ensures ∙ ap (λ g. decomposition_of (found_or (terms_of s.f) g)) (first_rest (terms_of s.f) (terms_of s.df) (terms_of s.a) q.divide-q.result q.divide-q.ensures t.in_default.is (omega (arith, l.length.ensures)))

divide-requires-2 : tie.Need-divide-r-requires
divide-requires-2 c κs = tt

enum-known-or : tie.Need-enum_known-or
enum-known-or c = c.in-Err-or-1.keys1

refused-requires-2 : tie.Need-refused-requires-in-Err-or
refused-requires-2 c κs = tt

returns-3 : tie.Need-returns-in-Err-or
returns-3 c =
    let o = c in
    let r = o in
    let l = r in
    let t = l in
    let q = t in
    let s = q.args in
    c.refused-in-Err-or.ensures ∙ ap (λ g. decomposition_of (found_or (terms_of s.f) g)) (second-refused (terms_of s.f) (terms_of s.df) (terms_of s.a) q.divide-q.result q.divide-q.ensures t.in_default.is (omega (arith, l.length.ensures)) r.divide-r.result r.divide-r.ensures _ o.in-Err-or.is)

enum-told-2 : tie.Need-enum_told-in_default-or
enum-told-2 c = c.in_default-or-1.keys2

length-requires-2 : tie.Need-length-requires-2
length-requires-2 c κs = tt

whole-requires-2 : tie.Need-whole-requires-then-length-gt0-2
whole-requires-2 c κs = c.requires

returns-4 : tie.Need-returns-then-length-gt0-2
returns-4 c =
    let k = c in
    let u = k in
    let r = u in
    let l = r in
    let t = l in
    let q = t in
    let s = q.args in
    c.whole-then-length-gt0-2.ensures ∙ ap (λ g. decomposition_of (found_or (terms_of s.f) g)) (second-rest (terms_of s.f) (terms_of s.df) (terms_of s.a) q.divide-q.result q.divide-q.ensures t.in_default.is (omega (arith, l.length.ensures)) r.divide-r.result r.divide-r.ensures u.in_default-or.is (omega (arith, k.length-2.ensures)))

rounds-requires : tie.Need-rounds-requires
rounds-requires c κs =
    let r = c in
    let l = r in
    let t = l in
    let q = t in
    q.requires

returns-5 : tie.Need-returns
returns-5 c =
    let e = c in
    let k = e in
    let u = k in
    let r = u in
    let l = r in
    let t = l in
    let q = t in
    let s = q.args in
    c.rounds.ensures
    ∙ ap (λ g. decomposition_of (found_or (terms_of s.f) g)) (split-rounds (terms_of s.f) (terms_of s.df) (terms_of s.a) q.divide-q.result q.divide-q.ensures t.in_default.is (omega (arith, l.length.ensures)) r.divide-r.result r.divide-r.ensures u.in_default-or.is (omega (arith, k.length-2.ensures, e.if-length-gt0-2.false)))

pub split_by_spec : {M : Type 1} → statement M
split_by_spec =
    tie.close
    (tie.spec
    divide-requires
    enum-known-oq
    refused-requires
    returns
    enum_told
    length-requires
    whole-requires
    returns-2
    divide-requires-2
    enum-known-or
    refused-requires-2
    returns-3
    enum-told-2
    length-requires-2
    whole-requires-2
    returns-4
    rounds-requires
    returns-5)

-- `yun::split` meets its contract.
use mathlib.Core.Path.{ap, ◌∙◌}
use native.Mathlib.Omega.{arith}
use Rattle.terms.specs.Poly.{terms_of}
use Rattle.yun.specs.Answer.{decomposition_of}
use Rattle.yun.specs.Yun.{found_or}
use Rattle.yun.proofs.CodeSplit.{slope-refused, slope-none, shared-refused, shared-done}
use Rattle.yun.proofs.split.Statement.{statement}
use Rattle.yun.proofs.split.Tie as tie

differentiate-requires : tie.Need-differentiate-d-requires
differentiate-requires c κs = tt

enum-known-od : tie.Need-enum_known-od
enum-known-od c = c.in-Err-1.keys1

refused-requires : tie.Need-refused-requires
refused-requires c κs = tt

returns : tie.Need-returns-in-Err
returns c =
    let o = c in
    let d = o in
    let s = d.args in
    c.refused.ensures ∙ ap (λ g. decomposition_of (found_or (terms_of s.f) g)) (slope-refused (terms_of s.f) d.differentiate-d.result d.differentiate-d.ensures _ o.in-Err.is)

enum_told : tie.Need-enum_told-1
enum_told c = c.in_default-1.keys2

length-requires : tie.Need-length-requires
length-requires c κs = tt

whole-requires : tie.Need-whole-requires
whole-requires c κs = c.requires

returns-2 : tie.Need-returns-then-length-eq0
returns-2 c =
    let l = c in
    let t = l in
    let d = t in
    let s = d.args in
    c.whole.ensures ∙ ap (λ g. decomposition_of (found_or (terms_of s.f) g)) (slope-none (terms_of s.f) d.differentiate-d.result d.differentiate-d.ensures t.in_default.is (omega (arith, l.length.ensures)))

greatest-requires : tie.Need-greatest-g-requires
greatest-requires c κs = tt

enum-known-og : tie.Need-enum_known-og
enum-known-og c = c.in-Err-og-1.keys1

refused-requires-2 : tie.Need-refused-requires-in-Err-og
refused-requires-2 c κs = tt

returns-3 : tie.Need-returns-in-Err-og
returns-3 c =
    let o = c in
    let g = o in
    let l = g in
    let t = l in
    let d = t in
    let s = d.args in
    c.refused-in-Err-og.ensures ∙ ap (λ g. decomposition_of (found_or (terms_of s.f) g)) (shared-refused (terms_of s.f) d.differentiate-d.result d.differentiate-d.ensures t.in_default.is (omega (arith, l.length.ensures)) g.greatest-g.result g.greatest-g.ensures _ o.in-Err-og.is)

enum-told-2 : tie.Need-enum_told-in_default-og
enum-told-2 c = c.in_default-og-1.keys2

split-by-requires : tie.Need-split_by-requires
split-by-requires c κs = c.requires

returns-4 : tie.Need-returns
returns-4 c =
    let u = c in
    let g = u in
    let l = g in
    let t = l in
    let d = t in
    let s = d.args in
    c.split_by.ensures ∙ ap (λ g. decomposition_of (found_or (terms_of s.f) g)) (shared-done (terms_of s.f) d.differentiate-d.result d.differentiate-d.ensures t.in_default.is (omega (arith, l.length.ensures)) g.greatest-g.result g.greatest-g.ensures u.in_default-og.is)

pub split_spec : {M : Type 1} → statement M
split_spec =
    tie.close
    (tie.spec
    differentiate-requires
    enum-known-od
    refused-requires
    returns
    enum_told
    length-requires
    whole-requires
    returns-2
    greatest-requires
    enum-known-og
    refused-requires-2
    returns-3
    enum-told-2
    split-by-requires
    returns-4)

-- `yun::decompose` meets its contract.
use mathlib.Core.Path.{ap, ◌∙◌}
use native.Mathlib.Omega.{arith}
use Rattle.terms.specs.Machine.{plain}
use Rattle.terms.specs.Poly.{terms_of}
use Rattle.remainders.specs.Gcd.{monic}
use Rattle.yun.specs.Answer.{decomposition_of}
use Rattle.yun.proofs.CodeGot.{answer-poly}
use Rattle.yun.proofs.CodeSplit.{zero-none, monic-refused, monic-done}
use Rattle.yun.proofs.decompose.Statement.{statement}
use Rattle.yun.proofs.decompose.Tie as tie

length-requires : tie.Need-length-requires
length-requires c κs = tt

nothing-requires : tie.Need-nothing-requires
nothing-requires c κs = tt

returns : tie.Need-returns-then-length-eq0
returns c =
    let l = c in
    c.nothing.ensures ∙ ap decomposition_of (zero-none (terms_of l.args.f) (omega (arith, l.length.ensures)))

monic-requires : tie.Need-monic-m-requires
monic-requires c κs = tt

enum-known-om : tie.Need-enum_known-om
enum-known-om c = c.in-Err-1.keys1

refused-requires : tie.Need-refused-requires
refused-requires c κs = tt

returns-2 : tie.Need-returns-in-Err
returns-2 c =
    let o = c in
    let m = o in
    let l = m in
    let s = l.args in
    c.refused.ensures ∙ ap decomposition_of (monic-refused (terms_of s.f) (omega (arith, l.length.ensures)) m.monic-m.result m.monic-m.ensures _ o.in-Err.is)

enum_told : tie.Need-enum_told-1
enum_told c = c.in_default-1.keys2

split-requires : tie.Need-split-requires
split-requires c κs =
    let t = c in
    let m = t in
    let l = m in
    let s = l.args in
    answer-poly m.monic-m.result (monic plain (terms_of s.f) 0) m.monic-m.ensures

returns-3 : tie.Need-returns
returns-3 c =
    let t = c in
    let m = t in
    let l = m in
    let s = l.args in
    c.split.ensures ∙ ap decomposition_of (monic-done (terms_of s.f) (omega (arith, l.length.ensures)) m.monic-m.result m.monic-m.ensures t.in_default.is)

pub decompose_spec : {M : Type 1} → statement M
decompose_spec =
    tie.close
    (tie.spec
    length-requires
    nothing-requires
    returns
    monic-requires
    enum-known-om
    refused-requires
    returns-2
    enum_told
    split-requires
    returns-3)

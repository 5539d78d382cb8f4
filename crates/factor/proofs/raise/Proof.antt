-- `factor::raise` meets its contract. The loop's invariant: the multiplications that are left give the whole.
use mathlib.Core.Path.{refl, ◌∙◌}
use Prim.Native.Nat.{◌-◌, ◌≤◌}
use borrow.Author.Rules.{rules}
use native.Mathlib.Omega.{arith}
use Rattle.terms.specs.Poly.{terms_of}
use Rattle.factor.proofs.Products.{Raising, raising-none, raising-more, raising-over, raising-all}
use Rattle.factor.proofs.raise.Statement.{statement}
use Rattle.factor.proofs.raise.Tie as tie

abbrev invariant-loop : tie.invariant-loop-i
invariant-loop q times now₀ i₀ now i = (i ≤ times) × Raising times (terms_of q) (terms_of now₀) i now

abbrev decreases-loop : tie.decreases-loop-i
decreases-loop q times now₀ i₀ now i = times - i

loop-holds : tie.Need-loop-i-init invariant-loop decreases-loop
loop-holds c =
    let s = c.args in
    (omega arith, raising-none s.times (terms_of s.q) (terms_of s.acc) s.acc refl c.requires)

times-requires : tie.Need-times-a-requires invariant-loop decreases-loop
times-requires c κs = tt

enum-known-o : tie.Need-enum_known-o invariant-loop decreases-loop
enum-known-o c = search rules

refused-requires : tie.Need-refused-requires invariant-loop decreases-loop
refused-requires c κs = tt

returns : tie.Need-returns-in-Err invariant-loop decreases-loop
returns c =
    let m = c in
    let l = m in
    let s = l.args in
    c.refused.ensures ∙ raising-over s.times (terms_of s.q) (terms_of s.acc) l.loop-i.i l.loop-i.now (omega arith) l.loop-i.invariant.1 m.times-a.result m.times-a.ensures _ c.in-Err.is

enum_told : tie.Need-enum_told-1 invariant-loop decreases-loop
enum_told c = search rules

add-i : tie.Need-overflow_add-i invariant-loop decreases-loop
add-i c = omega arith

loop-less : tie.Need-loop-i-smaller invariant-loop decreases-loop
loop-less c = omega arith

loop-again : tie.Need-loop-i-preserved invariant-loop decreases-loop
loop-again c =
    let m = c in
    let l = m in
    let s = l.args in
    (omega arith, raising-more s.times (terms_of s.q) (terms_of s.acc) l.loop-i.i l.loop-i.now (omega arith) l.loop-i.invariant.1 m.times-a.result m.times-a.ensures c.in_default.is)

done-requires : tie.Need-done-requires invariant-loop decreases-loop
done-requires c κs = tt

returns-2 : tie.Need-returns invariant-loop decreases-loop
returns-2 c =
    let l = c in
    let s = l.args in
    c.done.ensures ∙ raising-all s.times (terms_of s.q) (terms_of s.acc) l.loop-i.i l.loop-i.now (omega arith) l.loop-i.invariant.1

pub raise_spec : {M : Type 1} → statement M
raise_spec =
    tie.close
    (tie.spec
    invariant-loop
    decreases-loop
    loop-holds
    times-requires
    enum-known-o
    refused-requires
    returns
    enum_told
    add-i
    loop-less
    loop-again
    done-requires
    returns-2)

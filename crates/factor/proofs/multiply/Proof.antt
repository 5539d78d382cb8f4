-- `factor::multiply` meets its contract. The loop's invariant: the factors that are left give the whole.
use mathlib.Core.Path.{◌≡◌, ◌∙◌}
use Prim.Native.Nat.{◌-◌, ◌≤◌}
use borrow.Author.Rules.{rules}
use native.Mathlib.Omega.{arith}
use mathlib.Core.List.{[], ◌∷◌}
use lib.ListN.{length}
use Rattle.terms.specs.Poly.{trim}
use Rattle.terms.proofs.Lists.{long, within-32, read-terms}
use Rattle.yun.specs.Answer.{no_piece}
use Rattle.factor.specs.Rebuild.{factors_in}
use Rattle.factor.proofs.Products.{Building, building-none, building-more, building-over, building-all}
use Rattle.factor.proofs.multiply.Statement.{statement}
use Rattle.factor.proofs.multiply.Tie as tie

abbrev invariant-loop : tie.invariant-loop-i
invariant-loop r n now₀ i₀ now i = (n ≡ length (factors_in r)) × (n ≤ 32) × (i ≤ n) × Building (factors_in r) (trim (r.content ∷ [])) i now

abbrev decreases-loop : tie.decreases-loop-i
decreases-loop r n now₀ i₀ now i = n - i

count-requires : tie.Need-count-n-requires invariant-loop decreases-loop
count-requires c κs = tt

constant-requires : tie.Need-constant-now-requires invariant-loop decreases-loop
constant-requires c κs = tt

loop-holds : tie.Need-loop-i-init invariant-loop decreases-loop
loop-holds c =
    let s = c.args in
    let e : length s.r.pieces ≡ 32 = search (rules, long) in
    let n = c.count-n.ensures s.r.pieces e in
    (n, omega (arith, n, within-32 s.r.len s.r.pieces e), omega arith, building-none (factors_in s.r) (trim (s.r.content ∷ [])) c.constant-now.result c.constant-now.ensures)

mul-piece : tie.Need-offset_bounds-r-i invariant-loop decreases-loop
mul-piece c = omega arith

element-copy-out-piece : tie.Need-bounds-r-i invariant-loop decreases-loop
element-copy-out-piece c = omega arith

raise-requires : tie.Need-raise-a-requires invariant-loop decreases-loop
raise-requires c κs = c.loop-i.invariant.3.padded

enum-known-o : tie.Need-enum_known-o invariant-loop decreases-loop
enum-known-o c = search rules

refused-requires : tie.Need-refused-requires invariant-loop decreases-loop
refused-requires c κs = tt

returns : tie.Need-returns-in-Err invariant-loop decreases-loop
returns c =
    let m = c in
    let l = m in
    let s = l.args in
    c.refused.ensures ∙ building-over (factors_in s.r) (trim (s.r.content ∷ [])) l.loop-i.i l.loop-i.now no_piece (omega arith) l.loop-i.invariant.3 _ (read-terms s.r.len s.r.pieces l.loop-i.i _ no_piece (omega arith)) m.raise-a.result m.raise-a.ensures _ c.in-Err.is

enum_told : tie.Need-enum_told-1 invariant-loop decreases-loop
enum_told c = search rules

add-i : tie.Need-overflow_add-i invariant-loop decreases-loop
add-i c = omega arith

loop-less : tie.Need-loop-i-smaller invariant-loop decreases-loop
loop-less c = omega arith

loop-again : tie.Need-loop-i-preserved invariant-loop decreases-loop
loop-again c =
    let m = c in
    let l = m in
    let s = l.args in
    (l.loop-i.invariant.0, l.loop-i.invariant.1, omega arith, building-more (factors_in s.r) (trim (s.r.content ∷ [])) l.loop-i.i l.loop-i.now no_piece (omega arith) l.loop-i.invariant.3 _ (read-terms s.r.len s.r.pieces l.loop-i.i _ no_piece (omega arith)) m.raise-a.result m.raise-a.ensures c.in_default.is)

done-requires : tie.Need-done-requires invariant-loop decreases-loop
done-requires c κs = tt

returns-2 : tie.Need-returns invariant-loop decreases-loop
returns-2 c =
    let l = c in
    let s = l.args in
    c.done.ensures ∙ building-all (factors_in s.r) (trim (s.r.content ∷ [])) l.loop-i.i l.loop-i.now (omega arith) l.loop-i.invariant.3

pub multiply_spec : {M : Type 1} → statement M
multiply_spec =
    tie.close
    (tie.spec
    invariant-loop
    decreases-loop
    count-requires
    constant-requires
    loop-holds
    mul-piece
    element-copy-out-piece
    raise-requires
    enum-known-o
    refused-requires
    returns
    enum_told
    add-i
    loop-less
    loop-again
    done-requires
    returns-2)

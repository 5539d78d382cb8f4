-- `poly::pow_terms` meets its contract. The loop's invariant: what is left of the factors gives the whole power.
use mathlib.Core.Path.{◌≡◌, sym, ap, subst, ◌∙◌}
use mathlib.Core.List.{[], ◌∷◌}
use Prim.Native.Nat.{◌≤◌, ◌-◌, ◌*◌}
use native.Mathlib.Omega.{arith}
use lib.IntN.{pos}
use lib.ListN.{length, set}
use borrow.Author.Rules.{rules}
use Rattle.terms.specs.declared.Poly.{Poly}
use Rattle.terms.specs.declared.Answer.{Answer}
use Rattle.terms.specs.Poly.{terms_of, poly_of}
use Rattle.terms.specs.Machine.{whole_r}
use Rattle.terms.proofs.Lists.{long, within-32}
use Rattle.poly.proofs.Powers.{steps-few, Raised, raised-none, raised-more, raised-over, raised_all}
use Rattle.poly.proofs.Gives.{product-short}
use Rattle.poly.proofs.pow_terms.Statement.{statement}
use Rattle.poly.proofs.pow_terms.Tie as tie

abbrev invariant-loop : tie.invariant-loop-i
invariant-loop p n acc₀ steps₀ i₀ acc steps i =
    (n ≤ 200) × (i ≤ n) × (steps ≤ 2048 * i) × (length (terms_of acc) ≤ 32) × (length (terms_of p) ≤ 32) × Raised (terms_of p) n i steps acc

abbrev decreases-loop : tie.decreases-loop-i
decreases-loop p n acc₀ steps₀ i₀ acc steps i = n - i

zero-requires : tie.Need-zero-acc-requires invariant-loop decreases-loop
zero-requires c κs = tt

element-set-from-acc : tie.Need-bounds-acc-0 invariant-loop decreases-loop
element-set-from-acc c = search rules

loop-holds : tie.Need-loop-i-init invariant-loop decreases-loop
loop-holds c =
    let s = c.args in
    let e : length s.p.coeffs ≡ 32 = search (rules, long) in
    let z : ◌≡◌ {A = Poly} (poly_of (whole_r (pos 1) ∷ [])) (record { coeffs = set c.zero-acc.result.coeffs 0 (whole_r (pos 1)); len = 1 }) = sym (ap {B = Poly} (λ (q : Poly). record { coeffs = set q.coeffs 0 (whole_r (pos 1)); len = 1 }) c.zero-acc.ensures) in (
      c.requires,
      omega arith,
      omega arith,
      subst (λ (q : Poly). length (terms_of q) ≤ 32) z (omega arith),
      within-32 s.p.len s.p.coeffs e,
      subst (λ (q : Poly). Raised (terms_of s.p) s.n 0 0 q) z (raised-none (terms_of s.p) s.n),
    )

times-requires : tie.Need-times-r-requires invariant-loop decreases-loop
times-requires c κs = tt

few : (c : tie.After-times-r invariant-loop decreases-loop) → c.times-r.result.steps ≤ 2048
few c =
    let l = c in
    steps-few (terms_of l.loop-i.acc) (terms_of l.args.p) c.times-r.result c.times-r.ensures l.loop-i.invariant.3 l.loop-i.invariant.4

add-steps : tie.Need-overflow_add-steps invariant-loop decreases-loop
add-steps c = omega (arith, few c.before)

enum-known-o : tie.Need-enum_known-o invariant-loop decreases-loop
enum-known-o c = c.in-Err-1.keys1

refused-requires : tie.Need-refused-requires invariant-loop decreases-loop
refused-requires c κs = tt

returns : tie.Need-returns-in-Err invariant-loop decreases-loop
returns c =
    let t = c in
    let l = t in
    let s = l.args in
    c.refused.ensures ∙ raised-over (terms_of s.p) s.n l.loop-i.i l.loop-i.steps l.loop-i.acc (omega arith) l.loop-i.invariant.5 t.times-r.result t.times-r.ensures _ c.in-Err.is

enum_told : tie.Need-enum_told-1 invariant-loop decreases-loop
enum_told c = c.in_default-1.keys2

add-i : tie.Need-overflow_add-i invariant-loop decreases-loop
add-i c = omega arith

loop-less : tie.Need-loop-i-smaller invariant-loop decreases-loop
loop-less c = omega arith

loop-again : tie.Need-loop-i-preserved invariant-loop decreases-loop
loop-again c =
    let t = c in
    let l = t in
    let s = l.args in (
      l.loop-i.invariant.0,
      omega arith,
      omega (arith, few t.before.before.before, l.loop-i.invariant.2),
      subst (λ (r : Answer). length (terms_of r.poly) ≤ 32) (sym t.times-r.ensures) (product-short (terms_of l.loop-i.acc) (terms_of s.p)),
      l.loop-i.invariant.4,
      raised-more (terms_of s.p) s.n l.loop-i.i l.loop-i.steps l.loop-i.acc (omega arith) l.loop-i.invariant.5 t.times-r.result t.times-r.ensures c.in_default.is,
    )

done-requires : tie.Need-done-requires invariant-loop decreases-loop
done-requires c κs = tt

returns-2 : tie.Need-returns invariant-loop decreases-loop
returns-2 c =
    let l = c in
    let s = l.args in
    c.done.ensures ∙ raised_all (terms_of s.p) s.n l.loop-i.i l.loop-i.steps l.loop-i.acc (omega arith) l.loop-i.invariant.5

pub pow_terms_spec : {M : Type 1} → statement M
pow_terms_spec =
    tie.close
    (tie.spec
    invariant-loop
    decreases-loop
    zero-requires
    element-set-from-acc
    loop-holds
    times-requires
    add-steps
    enum-known-o
    refused-requires
    returns
    enum_told
    add-i
    loop-less
    loop-again
    done-requires
    returns-2)

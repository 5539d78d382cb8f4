-- The proof of the cycle of calls {ordered}. The measure is the length of the second polynomial: the rest of a division is shorter than the divisor.
use mathlib.Core.Path.{◌≡◌, sym, ap, ◌∙◌}
use native.Mathlib.Omega.{arith}
use lib.ListN.{length}
use borrow.Author.Rules.{rules}
use Rattle.ratio.specs.Refusal.{zero_r}
use Rattle.ratio.specs.declared.Ratio.{Ratio}
use Rattle.terms.specs.Machine.{fine, plain}
use Rattle.remainders.specs.Divide.{lead as lead_of}
use Rattle.remainders.specs.Resultant.{unit, powered}
use Rattle.remainders.specs.Answer.{number_of}
use Rattle.remainders.proofs.CodeOrdered.{zero_is, constant-told, power-told, degrees-fit, division-refused, division-few, rest-shorter, nothing_left, power-few, power-refused, inner-refused, all_made, ordered-few}
use Rattle.terms.specs.Poly.{terms_of}
use Rattle.terms.proofs.Lists.{long, past, within-32, read-terms}
use Prim.Native.Nat.{ℕ, ◌+◌, ◌-◌, ◌<◌, ◌≤◌}
use borrow.Fn.Kinds.{In}
use borrow.Fn.PlainCycle.{Measures, is, falls, and}
use Rattle.remainders.proofs.ordered.Reads as ordered
use Rattle.remainders.proofs.ordered.Kinds as ordered-kinds
use Rattle.remainders.proofs.+ordered.Lts-ordered as ordered-lts
use Rattle.remainders.proofs.divide.Reads as divide-reads
use Rattle.remainders.proofs.join.Reads as join-reads
use Rattle.remainders.proofs.lead.Reads as lead-reads
use Rattle.remainders.proofs.no_number.Reads as no-number-reads
use Rattle.remainders.proofs.power.Reads as power-reads
use Rattle.remainders.proofs.sign.Reads as sign_reads
use Rattle.remainders.proofs.whole.Reads as whole-reads
use Rattle.remainders.proofs.worked.Reads as worked-reads
use Rattle.terms.proofs.Poly.length.Reads as length-reads
use Rattle.terms.proofs.less.Reads as less-reads
use Rattle.terms.proofs.less_one.Reads as less-one-reads
use Rattle.remainders.proofs.+ordered.{statement}
use Rattle.remainders.proofs.+ordered.Tie.{close}

abbrev μ-ordered : Measures 0 ordered-kinds.ps ℕ
μ-ordered κs a = length (terms_of a.1.0)

abbrev ordered_at : ℕ → In 0 ordered-kinds.ps
ordered_at t = and 0 ordered-kinds.ps (is 0 ordered-kinds.ps μ-ordered t) ordered.Pre

abbrev ordered-below : ℕ → In 0 ordered-kinds.ps
ordered-below t = and 0 ordered-kinds.ps (falls 0 ordered-kinds.ps ◌<◌ μ-ordered t) ordered.Pre

-- what is known of the functions called: the inner call is one below t
abbrev calls : ℕ → ordered-lts.Claims
calls t = (
  length-reads.Asked,
  length-reads.Learnt,
  whole-reads.Asked,
  whole-reads.Learnt,
  worked-reads.Asked,
  worked-reads.Learnt,
  less-one-reads.Asked,
  less-one-reads.Learnt,
  power-reads.Asked,
  power-reads.Learnt,
  divide-reads.Asked,
  divide-reads.Learnt,
  no-number-reads.Asked,
  no-number-reads.Learnt,
  lead-reads.Asked,
  lead-reads.Learnt,
  less-reads.Asked,
  less-reads.Learnt,
  ordered-below t,
  ordered.Post,
  sign_reads.Asked,
  sign_reads.Learnt,
  join-reads.Asked,
  join-reads.Learnt,
)

-- both have at most 32 coefficients
first-32 : (t : ℕ) (c : ordered-lts.Start (calls t) (ordered_at t) ordered.Post) → length (terms_of c.args.a) ≤ 32
first-32 t c =
    let e : length c.args.a.coeffs ≡ 32 = search (rules, long) in
    within-32 c.args.a.len c.args.a.coeffs e

-- a division is by at least two coefficients
two : (t : ℕ) (c : ordered-lts.After-divide-d (calls t) (ordered_at t) ordered.Post) → 2 ≤ length (terms_of c.args.b)
two t c =
    let l = c in
    omega (arith, l.length-m.ensures, c.if-m-eq0.false, c.if-m-eq1.false)

-- the power of the leading coefficient
power-is : (t : ℕ) (c : ordered-lts.After-power-p (calls t) (ordered_at t) ordered.Post) → c.power-p.result ≡ number_of (powered plain (lead_of plain (terms_of c.args.b)) (length (terms_of c.args.a) - length (terms_of c.divide-d.result.rest)) (unit plain) 0)
power-is t c =
    let k = c in
    let l = k in
    let n = l in
    power-told (terms_of n.args.a) (terms_of n.args.b) (terms_of k.divide-d.result.rest) _ _ _ _ _ c.lead.ensures n.length-n.ensures k.length-k.ensures c.less.ensures c.power-p.ensures

-- the rest is not zero
some : (t : ℕ) (c : ordered-lts.Else-k-eq0 (calls t) (ordered_at t) ordered.Post) → length (terms_of c.divide-d.result.rest) ≡ 0 → ⊥
some t c z = c.if-k-eq0.false (c.length-k.ensures ∙ z)

-- the steps before the inner resultant
few-before : (t : ℕ) (c : ordered-lts.After-power-p (calls t) (ordered_at t) ordered.Post) → c.divide-d.result.steps + c.power-p.result.steps ≤ 2112
few-before t c =
    let x = c in
    let s = x in
    let l = first-32 t s.before.before.before.before.before.before.before.before.before.before.before.before in
    let m = division-few (terms_of s.args.a) (terms_of s.args.b) (two t x.before.before.before.before.before.before.before) x.divide-d.result x.divide-d.ensures l s.requires.1 in
    let p = power-few (terms_of s.args.a) (terms_of s.args.b) (two t x.before.before.before.before.before.before.before) x.divide-d.result x.divide-d.ensures c.in_default.is (some t c.before.before.before) c.power-p.result (power-is t c) in
    omega arith

-- and those of the inner resultant
few-inner : (t : ℕ) (c : ordered-lts.After-ordered-s (calls t) (ordered_at t) ordered.Post) → c.ordered-s.result.steps ≤ 2232
few-inner t c =
    let w = c in
    let x = w in
    let s = x in
    let l = first-32 t s.before.before.before.before.before.before.before.before.before.before.before.before.before.before in
    let r = rest-shorter (terms_of s.args.a) (terms_of s.args.b) (two t x.before.before.before.before.before.before.before.before.before) x.divide-d.result x.divide-d.ensures w.in_default.is in
    ordered-few (terms_of s.args.b) (terms_of x.divide-d.result.rest) c.ordered-s.result c.ordered-s.ensures (omega (arith, s.requires.1)) (omega arith)

ordered-length-requires : (t : ℕ) → ordered-lts.Need-length-n-requires (calls t) (ordered_at t) ordered.Post
ordered-length-requires t c κs = tt

ordered-length-requires-2 : (t : ℕ) → ordered-lts.Need-length-m-requires (calls t) (ordered_at t) ordered.Post
ordered-length-requires-2 t c κs = tt

ordered-whole-requires : (t : ℕ) → ordered-lts.Need-whole-requires (calls t) (ordered_at t) ordered.Post
ordered-whole-requires t c κs = tt

ordered-worked-requires : (t : ℕ) → ordered-lts.Need-worked-requires (calls t) (ordered_at t) ordered.Post
ordered-worked-requires t c κs = tt

ordered-returns : (t : ℕ) → ordered-lts.Need-returns-then-m-eq0 (calls t) (ordered_at t) ordered.Post
ordered-returns t c =
    let l = c in
    let s = l.args in
    c.worked.ensures ∙ ap (λ (r : Ratio). number_of (fine 0 r)) c.whole.ensures ∙ ap number_of (zero_is (terms_of s.a) (terms_of s.b) (sym l.length-m.ensures ∙ c.if-m-eq0.true))

ordered-element-copy-out-c : (t : ℕ) → ordered-lts.Need-bounds-b-0 (calls t) (ordered_at t) ordered.Post
ordered-element-copy-out-c t c = omega arith

ordered-less-one-requires : (t : ℕ) → ordered-lts.Need-less_one-requires (calls t) (ordered_at t) ordered.Post
ordered-less-one-requires t c κs = tt

ordered-power-requires : (t : ℕ) → ordered-lts.Need-power-requires (calls t) (ordered_at t) ordered.Post
ordered-power-requires t c κs =
    let n = c in
    omega (arith, c.less_one.ensures, n.length-n.ensures, first-32 t n.before.before.before.before.before.before)

ordered-returns-2 : (t : ℕ) → ordered-lts.Need-returns-then-m-eq1 (calls t) (ordered_at t) ordered.Post
ordered-returns-2 t c =
    let l = c in
    let s = l.args in
    let one : length (terms_of s.b) ≡ 1 = sym l.length-m.ensures ∙ c.if-m-eq1.true in
    constant-told (terms_of s.a) (terms_of s.b) _ _ _ _ one (read-terms s.b.len s.b.coeffs 0 past zero_r (omega arith)) l.length-n.ensures c.less_one.ensures c.power.ensures

ordered-divide-requires : (t : ℕ) → ordered-lts.Need-divide-d-requires (calls t) (ordered_at t) ordered.Post
ordered-divide-requires t c κs = tt

ordered-enum-told : (t : ℕ) → ordered-lts.Need-enum_told-1 (calls t) (ordered_at t) ordered.Post
ordered-enum-told t c = search rules

ordered-no-number-requires : (t : ℕ) → ordered-lts.Need-no_number-requires (calls t) (ordered_at t) ordered.Post
ordered-no-number-requires t c κs = tt

ordered-returns-3 : (t : ℕ) → ordered-lts.Need-returns-in-Err (calls t) (ordered_at t) ordered.Post
ordered-returns-3 t c =
    let x = c in
    let s = x in
    c.no_number.ensures ∙ division-refused (terms_of s.args.a) (terms_of s.args.b) (two t x.before.before) x.divide-d.result x.divide-d.ensures _ c.in-Err.is

ordered-enum-told-2 : (t : ℕ) → ordered-lts.Need-enum_told-in_default (calls t) (ordered_at t) ordered.Post
ordered-enum-told-2 t c = search rules

ordered-length-requires-3 : (t : ℕ) → ordered-lts.Need-length-k-requires (calls t) (ordered_at t) ordered.Post
ordered-length-requires-3 t c κs = tt

ordered-whole-requires-2 : (t : ℕ) → ordered-lts.Need-whole-requires-then-k-eq0 (calls t) (ordered_at t) ordered.Post
ordered-whole-requires-2 t c κs = tt

ordered-worked-requires-2 : (t : ℕ) → ordered-lts.Need-worked-requires-then-k-eq0 (calls t) (ordered_at t) ordered.Post
ordered-worked-requires-2 t c κs = tt

ordered-returns-4 : (t : ℕ) → ordered-lts.Need-returns-then-k-eq0 (calls t) (ordered_at t) ordered.Post
ordered-returns-4 t c =
    let k = c in
    let x = k in
    let s = x in
    c.worked-then-k-eq0.ensures ∙ ap (λ (r : Ratio). number_of (fine x.divide-d.result.steps r)) c.whole-then-k-eq0.ensures ∙ nothing_left (terms_of s.args.a) (terms_of s.args.b) (two t x.before.before.before.before.before.before) x.divide-d.result x.divide-d.ensures k.in_default.is (sym k.length-k.ensures ∙ c.if-k-eq0.true)

ordered-lead-requires : (t : ℕ) → ordered-lts.Need-lead-requires (calls t) (ordered_at t) ordered.Post
ordered-lead-requires t c κs = tt

ordered-less-requires : (t : ℕ) → ordered-lts.Need-less-requires (calls t) (ordered_at t) ordered.Post
ordered-less-requires t c κs = tt

ordered-power-requires-2 : (t : ℕ) → ordered-lts.Need-power-p-requires (calls t) (ordered_at t) ordered.Post
ordered-power-requires-2 t c κs =
    let n = c in
    omega (arith, c.less.ensures, n.length-n.ensures, first-32 t n.before.before.before.before.before.before.before.before.before.before.before)

ordered-enum-told-3 : (t : ℕ) → ordered-lts.Need-enum_told-in-Err-op (calls t) (ordered_at t) ordered.Post
ordered-enum-told-3 t c = search rules

ordered-add-no-number : (t : ℕ) → ordered-lts.Need-overflow_add-d (calls t) (ordered_at t) ordered.Post
ordered-add-no-number t c = omega (arith, few-before t c.before.before.before)

ordered-no-number-requires-2 : (t : ℕ) → ordered-lts.Need-no_number-requires-in-Err-op (calls t) (ordered_at t) ordered.Post
ordered-no-number-requires-2 t c κs = tt

ordered-returns-5 : (t : ℕ) → ordered-lts.Need-returns-in-Err-op (calls t) (ordered_at t) ordered.Post
ordered-returns-5 t c =
    let w = c in
    let x = w in
    let s = x in
    c.no_number-in-Err-op.ensures ∙ power-refused (terms_of s.args.a) (terms_of s.args.b) (two t x.before.before.before.before.before.before.before.before.before.before.before) x.divide-d.result x.divide-d.ensures w.in_default.is (some t w.before.before.before.before.before.before.before) w.power-p.result (power-is t w.before.before.before.before) _ c.in-Err-op.is

ordered-enum-told-4 : (t : ℕ) → ordered-lts.Need-enum_told-in_default-op (calls t) (ordered_at t) ordered.Post
ordered-enum-told-4 t c = search rules

ordered-ordered-requires : (t : ℕ) → ordered-lts.Need-ordered-s-requires (calls t) (ordered_at t) ordered.Post
ordered-ordered-requires t c κs =
    let w = c in
    let x = w in
    let s = x in
    let r = rest-shorter (terms_of s.args.a) (terms_of s.args.b) (two t x.before.before.before.before.before.before.before.before) x.divide-d.result x.divide-d.ensures w.in_default.is in
    (omega (arith, s.requires.0), omega arith)

ordered-enum-told-5 : (t : ℕ) → ordered-lts.Need-enum_told-in-Err-os (calls t) (ordered_at t) ordered.Post
ordered-enum-told-5 t c = search rules

ordered-add-no-number-2 : (t : ℕ) → ordered-lts.Need-overflow_add-d-in-Err-os (calls t) (ordered_at t) ordered.Post
ordered-add-no-number-2 t c = omega (arith, few-before t c.before.before.before.before.before)

ordered-add-no-number-3 : (t : ℕ) → ordered-lts.Need-overflow_add-d-in-Err-os-2 (calls t) (ordered_at t) ordered.Post
ordered-add-no-number-3 t c = let i = c in omega (arith, few-before t i.before.before.before.before.before.before, few-inner t i.before.before.before.before)

ordered-no-number-requires-3 : (t : ℕ) → ordered-lts.Need-no_number-requires-in-Err-os (calls t) (ordered_at t) ordered.Post
ordered-no-number-requires-3 t c κs = tt

ordered-returns-6 : (t : ℕ) → ordered-lts.Need-returns-in-Err-os (calls t) (ordered_at t) ordered.Post
ordered-returns-6 t c =
    let i = c in
    let w = i in
    let x = w in
    let s = x in
    c.no_number-in-Err-os.ensures ∙ inner-refused (terms_of s.args.a) (terms_of s.args.b) (two t x.before.before.before.before.before.before.before.before.before.before.before.before.before.before) x.divide-d.result x.divide-d.ensures w.in_default.is (some t w.before.before.before.before.before.before.before.before.before.before) w.power-p.result (power-is t w.before.before.before.before.before.before.before) i.in_default-op.is i.ordered-s.result i.ordered-s.ensures _ c.in-Err-os.is

ordered-enum-told-6 : (t : ℕ) → ordered-lts.Need-enum_told-in_default-os (calls t) (ordered_at t) ordered.Post
ordered-enum-told-6 t c = search rules

ordered-add-total : (t : ℕ) → ordered-lts.Need-overflow_add-total (calls t) (ordered_at t) ordered.Post
ordered-add-total t c = omega (arith, few-before t c.before.before.before.before.before)

ordered-add-total-2 : (t : ℕ) → ordered-lts.Need-overflow_add-total-2 (calls t) (ordered_at t) ordered.Post
ordered-add-total-2 t c = let i = c in omega (arith, few-before t i.before.before.before.before.before.before, few-inner t i.before.before.before.before)

ordered-less-one-requires-2 : (t : ℕ) → ordered-lts.Need-less_one-requires-2 (calls t) (ordered_at t) ordered.Post
ordered-less-one-requires-2 t c κs = tt

ordered-sub-sign : (t : ℕ) → ordered-lts.Need-overflow_sub-m (calls t) (ordered_at t) ordered.Post
ordered-sub-sign t c = omega (arith, c.if-m-eq0.false)

ordered-mul-sign : (t : ℕ) → ordered-lts.Need-overflow_mul-less_one (calls t) (ordered_at t) ordered.Post
ordered-mul-sign t c =
    let l = c in
    let s = l in
    let k = first-32 t s.before.before.before.before.before.before.before.before.before.before.before.before.before.before.before.before.before.before.before in
    let f = degrees-fit l.length-n.result l.length-m.result c.less_one-2.result c.less_one-2.ensures (omega (arith, l.length-n.ensures)) (omega (arith, l.length-m.ensures, s.requires.1)) in
    omega arith

ordered-sign-requires : (t : ℕ) → ordered-lts.Need-sign-sg-requires (calls t) (ordered_at t) ordered.Post
ordered-sign-requires t c κs = tt

ordered-join-requires : (t : ℕ) → ordered-lts.Need-join-requires (calls t) (ordered_at t) ordered.Post
ordered-join-requires t c κs = let i = c in omega (arith, few-before t i.before.before.before.before.before.before.before.before.before.before, few-inner t i.before.before.before.before.before.before.before.before)

ordered-returns-7 : (t : ℕ) → ordered-lts.Need-returns (calls t) (ordered_at t) ordered.Post
ordered-returns-7 t c =
    let i = c in
    let w = i in
    let x = w in
    let l = x in
    let s = l in
    all_made (terms_of s.args.a) (terms_of s.args.b) (two t x.before.before.before.before.before.before.before.before.before.before.before.before.before.before.before.before.before.before) x.divide-d.result x.divide-d.ensures w.in_default.is (some t w.before.before.before.before.before.before.before.before.before.before.before.before.before.before) w.power-p.result (power-is t w.before.before.before.before.before.before.before.before.before.before.before) i.in_default-op.is i.ordered-s.result i.ordered-s.ensures c.in_default-os.is _ _ _ _ _ l.length-n.ensures l.length-m.ensures c.less_one-2.ensures c.sign-sg.ensures c.join.ensures

pub +ordered_spec : {M : Type 1} → statement M
+ordered_spec = close μ-ordered λ t. ordered-lts.spec (calls t)
    (ordered_at t)
    ordered.Post
    (ordered-length-requires t)
    (ordered-length-requires-2 t)
    (ordered-whole-requires t)
    (ordered-worked-requires t)
    (ordered-returns t)
    (ordered-element-copy-out-c t)
    (ordered-less-one-requires t)
    (ordered-power-requires t)
    (ordered-returns-2 t)
    (ordered-divide-requires t)
    (ordered-enum-told t)
    (ordered-no-number-requires t)
    (ordered-returns-3 t)
    (ordered-enum-told-2 t)
    (ordered-length-requires-3 t)
    (ordered-whole-requires-2 t)
    (ordered-worked-requires-2 t)
    (ordered-returns-4 t)
    (ordered-lead-requires t)
    (ordered-less-requires t)
    (ordered-power-requires-2 t)
    (ordered-enum-told-3 t)
    (ordered-add-no-number t)
    (ordered-no-number-requires-2 t)
    (ordered-returns-5 t)
    (ordered-enum-told-4 t)
    (ordered-ordered-requires t)
    (ordered-enum-told-5 t)
    (ordered-add-no-number-2 t)
    (ordered-add-no-number-3 t)
    (ordered-no-number-requires-3 t)
    (ordered-returns-6 t)
    (ordered-enum-told-6 t)
    (ordered-add-total t)
    (ordered-add-total-2 t)
    (ordered-less-one-requires-2 t)
    (ordered-sub-sign t)
    (ordered-mul-sign t)
    (ordered-sign-requires t)
    (ordered-join-requires t)
    (ordered-returns-7 t)

-- The proof of the cycle of calls {bisect_isolate_inner}. The measure is the number of splits that there may still be.
use mathlib.Core.Path.{◌≡◌, sym, ap, ap₂, ◌∙◌}
use mathlib.Core.Bool.{false}
use mathlib.Core.List.{List}
use mathlib.Core.Logic.{⊎_elim}
use native.Mathlib.Omega.{arith}
use Prim.Native.Nat.{ℕ, ◌-◌, ◌≤◌, ◌<◌}
use borrow.Fn.Kinds.{In}
use borrow.Fn.PlainCycle.{Measures, is, falls, and}
use lib.Ieee.{Float, binary64, sub, lt}
use Rattle.yun.specs.Got.{then_got}
use Rattle.sturm.specs.Rows.{rows_in}
use Rattle.bisect.specs.Bracket.{Found, found_in, brackets_of, items_of, marked}
use Rattle.bisect.specs.declared.Bracket.{Bracket}
use Rattle.bisect.specs.Bisect.{partly, inner_of}
use Rattle.bisect.specs.declared.End.{End}
use Rattle.bisect.specs.Cut.{count_in, end_of}
use Rattle.bisect.proofs.Cuts.{cut-same, seen}
use Rattle.bisect.proofs.Hold.{read_of, kept_of, kept-refused, found-done}
use Rattle.bisect.proofs.Inner.{inner-none, inner-stays, inner-goes, inner-deep, then-partly, then-missing, inner-right, inner-end}
use Rattle.bisect.proofs.bisect_isolate_inner.Reads as inner
use Rattle.bisect.proofs.bisect_isolate_inner.Kinds as kinds
use Rattle.bisect.proofs.+bisect_isolate_inner.Lts-bisect_isolate_inner as lts
use Rattle.bisect.proofs.beyond.Reads as beyond-reads
use Rattle.bisect.proofs.end_at.Reads as end-at-reads
use Rattle.bisect.proofs.mark.Reads as mark-reads
use Rattle.bisect.proofs.push.Reads as push-reads
use Rattle.bisect.proofs.refused.Reads as refused-reads
use Rattle.bisect.proofs.split_at.Reads as split-at-reads
use Rattle.bisect.proofs.stays.Reads as stays-reads
use Rattle.terms.proofs.less.Reads as less-reads
use Rattle.bisect.proofs.+bisect_isolate_inner.{statement}
use Rattle.bisect.proofs.+bisect_isolate_inner.Tie.{close}

abbrev μ : Measures 2 kinds.ps ℕ
μ κs a = a.1.1.1.1.1.1.0

abbrev at-t : ℕ → In 2 kinds.ps
at-t t = and 2 kinds.ps (is 2 kinds.ps μ t) inner.Pre

abbrev below : ℕ → In 2 kinds.ps
below t = and 2 kinds.ps (falls 2 kinds.ps ◌<◌ μ t) inner.Pre

-- what is known of the functions called: an inner call is one below t
abbrev calls : ℕ → lts.Claims
calls t = (
  less-reads.Asked,
  less-reads.Learnt,
  stays-reads.Asked,
  stays-reads.Learnt,
  push-reads.Asked,
  push-reads.Learnt,
  refused-reads.Asked,
  refused-reads.Learnt,
  split-at-reads.Asked,
  split-at-reads.Learnt,
  mark-reads.Asked,
  mark-reads.Learnt,
  end-at-reads.Asked,
  end-at-reads.Learnt,
  beyond-reads.Asked,
  beyond-reads.Learnt,
  below t,
  inner.Post,
)

-- the rows that are lent
abbrev rows : (t : ℕ) → lts.Start (calls t) (at-t t) inner.Post → List (List Float)
rows t z = rows_in z.args.values.now z.args.sizes.now

-- the changes that came with the ends give the count
counted : (t : ℕ) (z : lts.Start (calls t) (at-t t) inner.Post) → z.args.a.changes - z.args.b.changes ≡ count_in (rows t z) z.args.a.at z.args.b.at
counted t z = ap₂ (λ (x y : End). x.changes - y.changes) z.requires.1.1 z.requires.1.2

enum_told : (t : ℕ) → lts.Need-enum_told-1 (calls t) (at-t t) inner.Post
enum_told t c = c.in-Err-1.keys1

returns : (t : ℕ) → lts.Need-returns-in-Err (calls t) (at-t t) inner.Post
returns t c =
    let z = c in
    let s = z.args in
    kept-refused s.found z.requires.1.0 _ (λ l. inner_of s.depth (rows t z.before.before.before) s.a.at s.b.at s.tol l) c.in-Err.is

enum-told-2 : (t : ℕ) → lts.Need-enum_told-in_default (calls t) (at-t t) inner.Post
enum-told-2 t c = c.in_default-1.keys2

less-requires : (t : ℕ) → lts.Need-less-n-requires (calls t) (at-t t) inner.Post
less-requires t c κs = tt

returns-2 : (t : ℕ) → lts.Need-returns-then-n-eq0 (calls t) (at-t t) inner.Post
returns-2 t c =
    let n = c in
    let z = n in
    let s = z.args in
    z.requires.1.0 ∙ ap brackets_of (inner-none s.depth (rows t z.before.before.before.before.before) s.a.at s.b.at s.tol (found_in s.found) (omega (arith, n.less-n.ensures, counted t z.before.before.before.before.before, c.if-n-eq0.true)))

stays-requires : (t : ℕ) → lts.Need-stays-requires (calls t) (at-t t) inner.Post
stays-requires t c κs = tt

-- the start, from behind the test of a bracket as it is
abbrev begun : (t : ℕ) → lts.After-stays (calls t) (at-t t) inner.Post → lts.Start (calls t) (at-t t) inner.Post
begun t y = y.before.before.before.before.before.before.before.before

push-requires : (t : ℕ) → lts.Need-push-requires (calls t) (at-t t) inner.Post
push-requires t c κs = (begun t c.before).requires.1.0

count-is : (t : ℕ) (y : lts.After-stays (calls t) (at-t t) inner.Post) → let z = begun t y in y.less-n.result ≡ count_in (rows t z) z.args.a.at z.args.b.at
count-is t y = y.less-n.ensures ∙ counted t (begun t y)

returns-3 : (t : ℕ) → lts.Need-returns-then-stays (calls t) (at-t t) inner.Post
returns-3 t c =
    let i = c in
    let y = i in
    let z = begun t y.before.before in
    let s = z.args in
    c.push.ensures ∙ ap brackets_of (inner-stays s.depth (rows t z) s.a.at s.b.at s.tol (found_in s.found) _ (count-is t y.before.before) y.if-n-eq0.false (sym y.stays.ensures ∙ i.if-stays.true))

-- past that test: over 1, and not narrow
goes : (t : ℕ) (c : lts.Else-stays (calls t) (at-t t) inner.Post) → let z = begun t c.before in
    (2 ≤ count_in (rows t z) z.args.a.at z.args.b.at) × (lt (sub binary64 z.args.b.at z.args.a.at) z.args.tol ≡ false)
goes t c =
    let y = c in
    let z = begun t y.before in
    let s = z.args in
    inner-goes s.depth (rows t z) s.a.at s.b.at s.tol (found_in s.found) _ (count-is t y.before) y.if-n-eq0.false (sym y.stays.ensures ∙ c.if-stays.false)

refused-requires : (t : ℕ) → lts.Need-refused-requires (calls t) (at-t t) inner.Post
refused-requires t c κs = tt

returns-4 : (t : ℕ) → lts.Need-returns-then-depth-eq0 (calls t) (at-t t) inner.Post
returns-4 t c =
    let i = c in
    let e = i in
    let z = begun t e.before.before.before in
    let s = z.args in
    let (two, wide) = goes t e.before.before in
    c.refused.ensures ∙ ap brackets_of (inner-deep s.depth (rows t z) s.a.at s.b.at s.tol (found_in s.found) two wide (items_of s.found) (omega (arith, i.if-depth-eq0.true)) (found-done s.found z.requires.1.0 e.in_default.is))

split-at-requires : (t : ℕ) → lts.Need-split_at-s-requires (calls t) (at-t t) inner.Post
split-at-requires t c κs = tt

mark-requires : (t : ℕ) → lts.Need-mark-now-requires (calls t) (at-t t) inner.Post
mark-requires t c κs = (begun t c.before.before.before).requires.1.0

end-at-requires : (t : ℕ) → lts.Need-end_at-lo-requires (calls t) (at-t t) inner.Post
end-at-requires t c κs = tt

beyond-requires : (t : ℕ) → lts.Need-beyond-hi-requires (calls t) (at-t t) inner.Post
beyond-requires t c κs =
    let p = c in
    let z = begun t p.before.before.before.before.before in
    (cut-same (rows t z) z.args.a.at z.args.b.at z.args.tol p.split_at-s.result p.split_at-s.ensures, c.end_at-lo.ensures)

-- what is known behind the split
module _ (t : ℕ) (c : lts.After-beyond-hi (calls t) (at-t t) inner.Post) where
  abbrev m : lts.After-mark-now (calls t) (at-t t) inner.Post
  m = c.before.before

  abbrev p : lts.After-split_at-s (calls t) (at-t t) inner.Post
  p = m.before

  abbrev z : lts.Start (calls t) (at-t t) inner.Post
  z = begun t p.before.before.before

  now-kept : m.mark-now.result ≡ brackets_of (found_in m.mark-now.result)
  now-kept = kept_of m.mark-now.result (then_got (found_in z.args.found) (λ l. marked p.split_at-s.result.exact p.split_at-s.result.mid l)) m.mark-now.ensures

  lo-is : c.end_at-lo.result ≡ end_of (rows t z) c.end_at-lo.result.at
  lo-is = seen (rows t z) c.end_at-lo.result p.split_at-s.result.lo c.end_at-lo.ensures

  hi-is : c.beyond-hi.result ≡ end_of (rows t z) c.beyond-hi.result.at
  hi-is = seen (rows t z) c.beyond-hi.result p.split_at-s.result.hi c.beyond-hi.ensures

  -- what is found in the parts, by where the split put their ends
  lower : (g : Found) → let s = z.args in
      then_got g (λ l. inner_of (s.depth - 1) (rows t z) s.a.at c.end_at-lo.result.at s.tol l) ≡ then_got g (λ l. inner_of (s.depth - 1) (rows t z) s.a.at p.split_at-s.result.lo s.tol l)
  lower g = let s = z.args in ap (λ (e : End). then_got g (λ l. inner_of (s.depth - 1) (rows t z) s.a.at e.at s.tol l)) c.end_at-lo.ensures

  upper : (g : Found) → let s = z.args in
      then_got g (λ l. inner_of (s.depth - 1) (rows t z) c.beyond-hi.result.at s.b.at s.tol l) ≡ then_got g (λ l. inner_of (s.depth - 1) (rows t z) p.split_at-s.result.hi s.b.at s.tol l)
  upper g = let s = z.args in ap (λ (e : End). then_got g (λ l. inner_of (s.depth - 1) (rows t z) e.at s.b.at s.tol l)) c.beyond-hi.ensures

sub-bisect-isolate-inner : (t : ℕ) → lts.Need-overflow_sub-depth (calls t) (at-t t) inner.Post
sub-bisect-isolate-inner t c = omega (arith, c.if-depth-eq0.false)

bisect-isolate-inner-requires : (t : ℕ) → lts.Need-bisect_isolate_inner-now-requires (calls t) (at-t t) inner.Post
bisect-isolate-inner-requires t c κs =
    let b = c.before in
    (omega (arith, (z t b).requires.0, (p t b).if-depth-eq0.false), (now-kept t b, (z t b).requires.1.1, lo-is t b))

-- what is found once the left part is done, where there is one
first : (t : ℕ) (j : lts.Joined-s (calls t) (at-t t) inner.Post) → let b = j.before in let s = (z t b).args in
    j.if-s.now ≡ brackets_of (then_got (found_in (m t b).mark-now.result) (λ l. partly (p t b).split_at-s.result.left (λ l. inner_of (s.depth - 1) (rows t (z t b)) s.a.at (p t b).split_at-s.result.lo s.tol l) l))
first t j =
    let b = j.before in
    let s = (z t b).args in
    let g = found_in (m t b).mark-now.result in
    let part : List Bracket → Found = λ l. inner_of (s.depth - 1) (rows t (z t b)) s.a.at (p t b).split_at-s.result.lo s.tol l in
    ⊎_elim (λ w. w.now-is ∙ w.bisect_isolate_inner-now.ensures ∙ ap brackets_of (lower t b g ∙ sym (then-partly g (p t b).split_at-s.result.left part w.if-s.true)))
    (λ w. w.now-is ∙ now-kept t b ∙ ap brackets_of (sym (then-missing g (p t b).split_at-s.result.left part w.if-s.false)))
    j.if-s.branch-raw

first-kept : (t : ℕ) (j : lts.Joined-s (calls t) (at-t t) inner.Post) → j.if-s.now ≡ brackets_of (found_in j.if-s.now)
first-kept t j =
    let b = j.before in
    let s = (z t b).args in
    kept_of j.if-s.now (then_got (found_in (m t b).mark-now.result) (λ l. partly (p t b).split_at-s.result.left (λ l. inner_of (s.depth - 1) (rows t (z t b)) s.a.at (p t b).split_at-s.result.lo s.tol l) l)) (first t j)

sub-bisect-isolate-inner-2 : (t : ℕ) → lts.Need-overflow_sub-depth-then-s-2 (calls t) (at-t t) inner.Post
sub-bisect-isolate-inner-2 t c = omega (arith, c.if-depth-eq0.false)

bisect-isolate-inner-requires-2 : (t : ℕ) → lts.Need-bisect_isolate_inner-now-requires-then-s-2 (calls t) (at-t t) inner.Post
bisect-isolate-inner-requires-2 t c κs =
    let j = c.before in
    let b = j.before in
    (omega (arith, (z t b).requires.0, (p t b).if-depth-eq0.false), (first-kept t j, hi-is t b, (z t b).requires.1.2))

returns-5 : (t : ℕ) → lts.Need-returns-then-s-2 (calls t) (at-t t) inner.Post
returns-5 t c =
    let j = c.before.before in
    let b = j.before in
    let v = p t b in
    let s = (z t b).args in
    c.bisect_isolate_inner-now-then-s-2.ensures ∙ ap brackets_of (upper t b (found_in j.if-s.now) ∙ inner-right s.depth (rows t (z t b)) s.a.at s.b.at s.tol (found_in s.found) (goes t v.before.before).0 (goes t v.before.before).1 v.split_at-s.result v.split_at-s.ensures (omega (arith, v.if-depth-eq0.false)) (found_in (m t b).mark-now.result) (read_of (m t b).mark-now.result _ (m t b).mark-now.ensures) (found_in j.if-s.now) (read_of j.if-s.now _ (first t j)) c.if-s-2.true)

returns-6 : (t : ℕ) → lts.Need-returns-else-s-2 (calls t) (at-t t) inner.Post
returns-6 t c =
    let j = c.before in
    let b = j.before in
    let v = p t b in
    let s = (z t b).args in
    first-kept t j ∙ ap brackets_of (inner-end s.depth (rows t (z t b)) s.a.at s.b.at s.tol (found_in s.found) (goes t v.before.before).0 (goes t v.before.before).1 v.split_at-s.result v.split_at-s.ensures (omega (arith, v.if-depth-eq0.false)) (found_in (m t b).mark-now.result) (read_of (m t b).mark-now.result _ (m t b).mark-now.ensures) (found_in j.if-s.now) (read_of j.if-s.now _ (first t j)) c.if-s-2.false)

pub +bisect_isolate_inner_spec : {M : Type 1} → statement M
+bisect_isolate_inner_spec = close μ λ t. lts.spec (calls t)
    (at-t t)
    inner.Post
    (enum_told t)
    (returns t)
    (enum-told-2 t)
    (less-requires t)
    (returns-2 t)
    (stays-requires t)
    (push-requires t)
    (returns-3 t)
    (refused-requires t)
    (returns-4 t)
    (split-at-requires t)
    (mark-requires t)
    (end-at-requires t)
    (beyond-requires t)
    (sub-bisect-isolate-inner t)
    (bisect-isolate-inner-requires t)
    (sub-bisect-isolate-inner-2 t)
    (bisect-isolate-inner-requires-2 t)
    (returns-5 t)
    (returns-6 t)

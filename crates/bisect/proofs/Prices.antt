-- The calls of the bisection are bounded: a call that counts a root finds a bracket or refuses, and each bracket pays for the calls on the way to it. So it does for the values that are worked out.
use mathlib.Core.Path.{◌≡◌, refl, ap, subst, ◌∙◌}
use mathlib.Core.Bool.{Bool, true, false}
use mathlib.Core.List.{List, [], ◌∷◌, ◌++◌}
use Prim.Native.Nat.{ℕ, zero, suc, ◌+◌, ◌*◌, ◌≤◌, ◌<◌}
use native.Mathlib.Nat.{mul-le-mul_left}
use native.Mathlib.Omega.{arith}
use lib.Dec.{ltb}
use lib.Ieee.{Float, binary64, sub, lt, le}
use lib.ListN.{length, length-append}
use borrow.Author.Tests.{ltb-true, ltb-false}
use Rattle.ratio.specs.declared.Reason.TheVariants.{TooDeep}
use Rattle.yun.specs.Got.{got, none, then_got}
use Rattle.bisect.specs.declared.Bracket.{Bracket}
use Rattle.bisect.specs.Bracket.{Found, push_if, pushed, marked}
use Rattle.bisect.specs.Cut.{count_in, root_at, middle, hits_of, nearby, cut_if, cut_of}
use Rattle.bisect.specs.Bisect.{decided, partly, split_by, inner_of, start, end, unless_empty, bisect_of}
use Rattle.bisect.specs.Price.{after, if_there, if_split, below, work_of, unless_none, work_for, calls_for, looks, split_cost, evaluations_for, most_calls, most_evaluations, PricePromise}

-- a refusal weighs one bracket more than there may be
abbrev weight : Found → ℕ
weight (got l) = length l
weight (none why) = 65

abbrev pub Fits : Found → Type 0
Fits (got l) = length l ≤ 64
Fits (none why) = Unit

record Busy (k n w calls : ℕ) : Type 0 where
  more : n < w
  paid : calls + (2 * k + 1) * n ≤ (2 * k + 1) * w

record Idle (n w calls : ℕ) : Type 0 where
  one : calls ≡ 1
  same : w ≡ n

-- any call: at most one that no bracket pays for
record Weak (k n w calls : ℕ) : Type 0 where
  kept : n ≤ w
  owed : calls + (2 * k + 1) * n ≤ (2 * k + 1) * w + 1

record Priced (k count n : ℕ) (g : Found) (calls : ℕ) : Type 0 where
  busy : 1 ≤ count → Busy k n (weight g) calls
  idle : count ≡ 0 → Idle n (weight g) calls
  fits : Fits g

by_count : {A : Type 0} (n : ℕ) → (n ≡ 0 → A) → (1 ≤ n → A) → A
by_count zero f g = f refl
by_count (suc n) f g = g (omega arith)

weak : (k count n : ℕ) (g : Found) (calls : ℕ) → Priced k count n g calls → Weak k n (weight g) calls
weak k count n g calls p =
    by_count count
    (λ z. let i = p.idle z in record { kept = omega (arith, i.same); owed = rw (i.same, i.one) (omega arith) })
    (λ z. let b = p.busy z in record { kept = omega (arith, b.more); owed = omega (arith, b.paid) })

-- ---- one bracket more

push-if : (t : Bool) (l : List Bracket) (x : Bracket) → ltb (length l) 64 ≡ t → length l ≤ 64 → (weight (push_if t (l ++ (x ∷ []))) ≡ length l + 1) × Fits (push_if t (l ++ (x ∷ [])))
push-if true l x e h = let n : length (l ++ (x ∷ [])) ≡ length l + 1 = length-append l (x ∷ []) in (n, omega (arith, n, ltb-true (length l) 64 e))
push-if false l x e h = (omega (arith, ltb-false (length l) 64 e), tt)

push-weight : (a b : Float) (l : List Bracket) → length l ≤ 64 → (weight (pushed a b l) ≡ length l + 1) × Fits (pushed a b l)
unfolding pushed
push-weight a b l h = push-if (ltb (length l) 64) l (record { left = a; right = b }) refl h

-- ---- by the count

decide : (k count : ℕ) (narrow : Bool) (a b : Float) (l : List Bracket) (z : Found) (m : ℕ) → length l ≤ 64
    → (2 ≤ count → Busy k (length l) (weight z) (suc m) × Fits z)
    → Priced k count (length l) (decided count narrow (got l) (pushed a b l) z) (suc (if_split count narrow m))
decide k zero narrow a b l z m h f = record { busy = λ x. absurd (omega arith); idle = λ x. record { one = refl; same = refl }; fits = h }
decide k (suc zero) narrow a b l z m h f =
    let p = push-weight a b l h in
    record { busy = λ x. record { more = omega (arith, p.0); paid = rw p.0 (omega arith) }; idle = λ x. absurd (omega arith); fits = p.1 }
decide k (suc (suc n)) true a b l z m h f =
    let p = push-weight a b l h in
    record { busy = λ x. record { more = omega (arith, p.0); paid = rw p.0 (omega arith) }; idle = λ x. absurd (omega arith); fits = p.1 }
decide k (suc (suc n)) false a b l z m h f = record { busy = λ x. (f (omega arith)).0; idle = λ x. absurd (omega arith); fits = (f (omega arith)).1 }

-- ---- a split: x and y find in the parts, p and q count the calls there

module _ (k cx cy : ℕ) (x y : List Bracket → Found) (p q : List Bracket → ℕ)
    (hx : (l : List Bracket) → length l ≤ 64 → Priced k cx (length l) (x l) (p l))
    (hy : (l : List Bracket) → length l ≤ 64 → Priced k cy (length l) (y l) (q l)) where
  weak-part : (there : Bool) (c : ℕ) (f : List Bracket → Found) (r : List Bracket → ℕ) → ((l : List Bracket) → length l ≤ 64 → Priced k c (length l) (f l) (r l)) → (l : List Bracket) → length l ≤ 64
      → Weak k (length l) (weight (partly there f l)) (if_there there r l) × Fits (partly there f l)
  weak-part true c f r h l n = (weak k c (length l) (f l) (r l) (h l n), (h l n).fits)
  weak-part false c f r h l n = (record { kept = omega arith; owed = omega arith }, n)

  -- the right part onto what the left one found
  second : (there : Bool) (g : Found) → Fits g → Weak k (weight g) (weight (then_got g (λ l. partly there y l))) (after g (λ l. if_there there q l)) × Fits (then_got g (λ l. partly there y l))
  second there (got l) f = weak-part there cy y q hy l f
  second there (none why) f = (record { kept = omega arith; owed = omega arith }, tt)

  three : (n : ℕ) → (2 * suc k + 1) * n ≡ 2 * (k * n) + 3 * n
  three n = let e : 2 * suc k + 1 ≡ 2 * k + 3 = omega arith in ap (λ (t : ℕ). t * n) e ∙ omega arith

  one : (n : ℕ) → (2 * k + 1) * n ≡ 2 * (k * n) + n
  one n = omega arith

  -- an exact root in the middle pays for both parts
  exact-paid : (left right : Bool) (n : ℕ) (g : Found) → weight g ≡ n + 1 → Fits g
      → Busy (suc k) n (weight (then_got (then_got g (λ l. partly left x l)) (λ l. partly right y l))) (suc (after g (λ l. if_there left p l + after (partly left x l) (λ l. if_there right q l))))
      × Fits (then_got (then_got g (λ l. partly left x l)) (λ l. partly right y l))
  exact-paid left right n (none why) e f =
      let z : n ≡ 64 = omega (arith, e) in
      (record { more = omega (arith, e); paid = rw z (omega (arith, three 64, three 65)) }, tt)
  exact-paid left right n (got l) e f =
      let u = weak-part left cx x p hx l f in
      let v = second right (partly left x l) u.1 in
      let w = weight (then_got (partly left x l) (λ l. partly right y l)) in
      let m = weight (partly left x l) in (
        record {
          more = omega (arith, e, u.0.kept, v.0.kept);
          paid = rw (three n, three w) (omega (arith, e, u.0.kept, v.0.kept, u.0.owed, v.0.owed, ap (λ (t : ℕ). k * t) e, one (length l), one m, one w));
        },
        v.1,
      )

  -- otherwise one of the parts counts a root
  halves-got : (l : List Bracket) (g : Found) → length l ≤ 64 → Priced k cx (length l) g (p l) → 1 ≤ cx + cy
      → Busy (suc k) (length l) (weight (then_got g y)) (suc (p l + after g q)) × Fits (then_got g y)
  halves-got l (none why) n h c =
      by_count cx
      (λ z. absurd (omega (arith, n, (h.idle z).same)))
      (λ z. let b = h.busy z in (record { more = b.more; paid = rw (three (length l), three 65) (omega (arith, b.more, b.paid, one (length l), one 65)) }, tt))
  halves-got l (got m) n h c =
      let r = hy m h.fits in
      by_count cx
      (λ z.
      let i = h.idle z in
      let b = r.busy (omega arith) in
      (record { more = omega (arith, i.same, b.more); paid = rw (three (length l), three (weight (y m))) (omega (arith, i.one, i.same, b.more, b.paid, ap (λ (t : ℕ). k * t) i.same, one (length m), one (weight (y m)))) }, r.fits))
      (λ z.
      let b = h.busy z in
      by_count cy
      (λ w.
      let i = r.idle w in
      (record { more = omega (arith, i.same, b.more); paid = rw (three (length l), three (weight (y m))) (omega (arith, i.one, i.same, b.more, b.paid, ap (λ (t : ℕ). k * t) i.same, one (length l), one (length m))) }, r.fits))
      (λ w.
      let d = r.busy w in
      (record { more = omega (arith, d.more, b.more); paid = rw (three (length l), three (weight (y m))) (omega (arith, d.more, d.paid, b.more, b.paid, one (length l), one (length m), one (weight (y m)))) }, r.fits)))

-- ---- one call

if_none : (n : ℕ) (w : Bool) → if_split n w 0 ≡ 0
if_none zero w = refl
if_none (suc zero) w = refl
if_none (suc (suc n)) true = refl
if_none (suc (suc n)) false = refl

if-one : (n : ℕ) (w : Bool) (m : ℕ) → suc (if_split n w m) ≡ 1 + if_split n w (0 + m)
if-one zero w m = omega arith
if-one (suc zero) w m = omega arith
if-one (suc (suc n)) true m = omega arith
if-one (suc (suc n)) false m = omega arith

module _ (k : ℕ) (c : List (List Float)) (tol : Float) (all : (a b : Float) (l : List Bracket) → length l ≤ 64 → Priced k (count_in c a b) (length l) (inner_of k c a b tol l) (work_of 1 (λ exact. 0) k c a b tol l)) where
  by-cut : (t : Bool) (a b m eps : Float) (l : List Bracket) → length l ≤ 64 → 2 ≤ count_in c a b
      → let s = cut_if t a b m eps in
      Busy (suc k) (length l) (weight (split_by s (λ l. inner_of k c a s.lo tol l) (λ l. inner_of k c s.hi b tol l) l)) (suc (below s (λ l. inner_of k c a s.lo tol l) (λ l. work_of 1 (λ exact. 0) k c a s.lo tol l) (λ l. work_of 1 (λ exact. 0) k c s.hi b tol l) l))
      × Fits (split_by s (λ l. inner_of k c a s.lo tol l) (λ l. inner_of k c s.hi b tol l) l)
  by-cut true a b m eps l h two =
      let s = cut_if true a b m eps in
      let u = push-weight m m l h in
      exact-paid k (count_in c a s.lo) (count_in c s.hi b) (λ l. inner_of k c a s.lo tol l) (λ l. inner_of k c s.hi b tol l) (λ l. work_of 1 (λ exact. 0) k c a s.lo tol l) (λ l. work_of 1 (λ exact. 0) k c s.hi b tol l)
      (all a s.lo) (all s.hi b) s.left s.right (length l) (pushed m m l) u.0 u.1
  by-cut false a b m eps l h two =
      halves-got k (count_in c a m) (count_in c m b) (λ l. inner_of k c a m tol l) (λ l. inner_of k c m b tol l) (λ l. work_of 1 (λ exact. 0) k c a m tol l) (λ l. work_of 1 (λ exact. 0) k c m b tol l)
      (all a m) (all m b) l (inner_of k c a m tol l) h (all a m l h) (omega (arith, two))

priced : (k : ℕ) (c : List (List Float)) (tol a b : Float) (l : List Bracket) → length l ≤ 64 → Priced k (count_in c a b) (length l) (inner_of k c a b tol l) (work_of 1 (λ exact. 0) k c a b tol l)
unfolding inner_of work_of cut_of
priced zero c tol a b l h =
    subst (λ (n : ℕ). Priced 0 (count_in c a b) (length l) (decided (count_in c a b) (lt (sub binary64 b a) tol) (got l) (pushed a b l) (none TooDeep)) (suc n)) (if_none (count_in c a b) (lt (sub binary64 b a) tol))
    (decide 0 (count_in c a b) (lt (sub binary64 b a) tol) a b l (none TooDeep) 0 h (λ two. (record { more = omega arith; paid = omega arith }, tt)))
priced (suc k) c tol a b l h =
    let s = cut_of c a b tol in
    let found = split_by s (λ l. inner_of k c a s.lo tol l) (λ l. inner_of k c s.hi b tol l) l in
    let calls = below s (λ l. inner_of k c a s.lo tol l) (λ l. work_of 1 (λ exact. 0) k c a s.lo tol l) (λ l. work_of 1 (λ exact. 0) k c s.hi b tol l) l in
    subst (λ (n : ℕ). Priced (suc k) (count_in c a b) (length l) (decided (count_in c a b) (lt (sub binary64 b a) tol) (got l) (pushed a b l) found) n) (if-one (count_in c a b) (lt (sub binary64 b a) tol) calls)
    (decide (suc k) (count_in c a b) (lt (sub binary64 b a) tol) a b l found calls h (λ two. by-cut k c tol (λ a b l h. priced k c tol a b l h) (hits_of (root_at c (middle a b)) (sub binary64 b a) tol) a b (middle a b) (nearby a b) l h two))

-- ---- the whole

most : (g : Found) → Fits g → weight g ≤ 65
most (got l) f = omega (arith, f)
most (none why) f = omega arith

one-call : (c : List (List Float)) (tol a b : Float) (l : List Bracket) → length l ≤ 64 → work_of 1 (λ exact. 0) 48 c a b tol l ≤ most_calls
one-call c tol a b l h =
    let p = priced 48 c tol a b l h in
    by_count (count_in c a b)
    (λ z. omega (arith, (p.idle z).one))
    (λ z. omega (arith, (p.busy z).paid, most (inner_of 48 c a b tol l) p.fits))

marked-fits : (t : Bool) (x : Float) (l : List Bracket) → length l ≤ 64 → Fits (marked t x l)
marked-fits true x l h = (push-weight x x l h).1
marked-fits false x l h = h

marked-both : (t : Bool) (x : Float) (g : Found) → Fits g → Fits (then_got g (λ l. marked t x l))
marked-both t x (got l) f = marked-fits t x l f
marked-both t x (none why) f = tt

after-most : (g : Found) (f : List Bracket → ℕ) (m : ℕ) → Fits g → ((l : List Bracket) → length l ≤ 64 → f l ≤ m) → after g f ≤ m
after-most (got l) f m h k = k l h
after-most (none why) f m h k = omega arith

unless-most : (t : Bool) (n m : ℕ) → n ≤ m → unless_none t n ≤ m
unless-most true n m h = omega arith
unless-most false n m h = h

calls-most : (c : List (List Float)) (a b tol : Float) → calls_for c a b tol ≤ most_calls
unfolding work_for
calls-most c a b tol =
    after-most (then_got (marked (root_at c a) a []) (λ l. marked (root_at c b) b l)) _ most_calls
    (marked-both (root_at c b) b (marked (root_at c a) a []) (marked-fits (root_at c a) a [] (omega arith)))
    (λ l h. unless-most (le (end c a b) (start c a b)) _ most_calls (omega (arith, one-call c tol (start c a b) (end c a b) l h)))

-- ---- values worked out: each bracket pays for the splits on the way to it, and for an exact root

-- n brackets before, w after, m between the parts; a split counts for s, an exact root for e more; each bracket below pays q
exact-pays : (q s e n m w x y : ℕ) → e ≤ q → n + 1 ≤ m → m ≤ w → x + q * (n + 1) ≤ q * m → y + q * m ≤ q * w → s + e + (x + y) + (q + s) * n ≤ (q + s) * w
exact-pays q s e n m w x y h i j hx hy =
    let z : s * (n + 1) ≤ s * w = mul-le-mul_left s (omega arith) in
    omega (arith, hx, hy, z)

halves-pay : (q s n m w x y : ℕ) → n < w → x + q * n ≤ q * m → y + q * m ≤ q * w → s + (x + y) + (q + s) * n ≤ (q + s) * w
halves-pay q s n m w x y h hx hy =
    let z : s * (n + 1) ≤ s * w = mul-le-mul_left s (omega arith) in
    omega (arith, hx, hy, z)

-- what a bracket pays, k splits below each other
abbrev share : ℕ → ℕ → ℕ → ℕ
share s e k = k * s + e

kept_in : (k count n : ℕ) (g : Found) (calls : ℕ) → Priced k count n g calls → n ≤ weight g
kept_in k count n g calls p = (weak k count n g calls p).kept

module _ (s e : ℕ) where
  module _ (k : ℕ) (x y : List Bracket → Found) (p q : List Bracket → ℕ)
      (hx : (l : List Bracket) → length l ≤ 64 → (length l ≤ weight (x l)) × Fits (x l) × (p l + share s e k * length l ≤ share s e k * weight (x l)))
      (hy : (l : List Bracket) → length l ≤ 64 → (length l ≤ weight (y l)) × Fits (y l) × (q l + share s e k * length l ≤ share s e k * weight (y l))) where
    part-pays : (there : Bool) (f : List Bracket → Found) (r : List Bracket → ℕ)
        → ((l : List Bracket) → length l ≤ 64 → (length l ≤ weight (f l)) × Fits (f l) × (r l + share s e k * length l ≤ share s e k * weight (f l))) → (l : List Bracket) → length l ≤ 64
        → (length l ≤ weight (partly there f l)) × Fits (partly there f l) × (if_there there r l + share s e k * length l ≤ share s e k * weight (partly there f l))
    part-pays true f r h l n = h l n
    part-pays false f r h l n = (omega arith, n, omega arith)

    -- the right part onto what the left one found
    next-pays : (there : Bool) (g : Found) → Fits g → (weight g ≤ weight (then_got g (λ l. partly there y l))) × (after g (λ l. if_there there q l) + share s e k * weight g ≤ share s e k * weight (then_got g (λ l. partly there y l)))
    next-pays there (got l) f = let z = part-pays there y q hy l f in (z.0, z.2)
    next-pays there (none why) f = (omega arith, omega arith)

    exact-spent : (left right : Bool) (n : ℕ) (g : Found) → weight g ≡ n + 1 → Fits g
        → s + e + after g (λ l. if_there left p l + after (partly left x l) (λ l. if_there right q l)) + (share s e k + s) * n ≤ (share s e k + s) * weight (then_got (then_got g (λ l. partly left x l)) (λ l. partly right y l))
    exact-spent left right n (none why) w f =
        let z : n ≡ 64 = omega (arith, w) in
        rw z (omega arith)
    exact-spent left right n (got l) w f =
        let u = part-pays left x p hx l f in
        let v = next-pays right (partly left x l) u.1 in
        exact-pays (share s e k) s e n (weight (partly left x l)) (weight (then_got (partly left x l) (λ l. partly right y l))) (if_there left p l) (after (partly left x l) (λ l. if_there right q l))
        (omega arith) (omega (arith, w, u.0)) v.0 (subst (λ (m : ℕ). if_there left p l + share s e k * m ≤ share s e k * weight (partly left x l)) w u.2) v.1

    halves-spent : (l : List Bracket) → length l ≤ 64 → length l < weight (then_got (x l) y)
        → s + (p l + after (x l) q) + (share s e k + s) * length l ≤ (share s e k + s) * weight (then_got (x l) y)
    halves-spent l n more =
        let u = hx l n in
        let v = next-pays true (x l) u.1 in
        halves-pay (share s e k) s (length l) (weight (x l)) (weight (then_got (x l) y)) (p l) (after (x l) q) more u.2 v.1

  -- by the count
  spent-by : (count : ℕ) (narrow : Bool) (a b : Float) (l : List Bracket) (z : Found) (t m q : ℕ) → length l ≤ 64 → (2 ≤ count → t + m + q * length l ≤ q * weight z)
      → 0 + if_split count narrow (t + m) + q * length l ≤ q * weight (decided count narrow (got l) (pushed a b l) z)
  spent-by zero narrow a b l z t m q h f = omega arith
  spent-by (suc zero) narrow a b l z t m q h f = let g : q * length l ≤ q * weight (pushed a b l) = mul-le-mul_left q (omega (arith, (push-weight a b l h).0)) in omega (arith, g)
  spent-by (suc (suc n)) true a b l z t m q h f = let g : q * length l ≤ q * weight (pushed a b l) = mul-le-mul_left q (omega (arith, (push-weight a b l h).0)) in omega (arith, g)
  spent-by (suc (suc n)) false a b l z t m q h f = omega (arith, f (omega arith))

  module _ (k : ℕ) (c : List (List Float)) (tol : Float)
      (all : (a b : Float) (l : List Bracket) → length l ≤ 64 → work_of 0 (split_cost s e) k c a b tol l + share s e k * length l ≤ share s e k * weight (inner_of k c a b tol l)) where
    each : (a b : Float) (l : List Bracket) → length l ≤ 64
        → (length l ≤ weight (inner_of k c a b tol l)) × Fits (inner_of k c a b tol l) × (work_of 0 (split_cost s e) k c a b tol l + share s e k * length l ≤ share s e k * weight (inner_of k c a b tol l))
    each a b l h =
        let p = priced k c tol a b l h in
        (kept_in k (count_in c a b) (length l) (inner_of k c a b tol l) (work_of 1 (λ exact. 0) k c a b tol l) p, p.fits, all a b l h)

    cut-spent : (t : Bool) (a b m eps : Float) (l : List Bracket) → length l ≤ 64 → let r = cut_if t a b m eps in
        length l < weight (split_by r (λ l. inner_of k c a r.lo tol l) (λ l. inner_of k c r.hi b tol l) l)
        → split_cost s e r.exact + below r (λ l. inner_of k c a r.lo tol l) (λ l. work_of 0 (split_cost s e) k c a r.lo tol l) (λ l. work_of 0 (split_cost s e) k c r.hi b tol l) l + (share s e k + s) * length l
        ≤ (share s e k + s) * weight (split_by r (λ l. inner_of k c a r.lo tol l) (λ l. inner_of k c r.hi b tol l) l)
    cut-spent true a b m eps l h more =
        let r = cut_if true a b m eps in
        let u = push-weight m m l h in
        exact-spent k (λ l. inner_of k c a r.lo tol l) (λ l. inner_of k c r.hi b tol l) (λ l. work_of 0 (split_cost s e) k c a r.lo tol l) (λ l. work_of 0 (split_cost s e) k c r.hi b tol l)
        (each a r.lo) (each r.hi b) r.left r.right (length l) (pushed m m l) u.0 u.1
    cut-spent false a b m eps l h more =
        halves-spent k (λ l. inner_of k c a m tol l) (λ l. inner_of k c m b tol l) (λ l. work_of 0 (split_cost s e) k c a m tol l) (λ l. work_of 0 (split_cost s e) k c m b tol l)
        (each a m) (each m b) l h more

  spent : (k : ℕ) (c : List (List Float)) (tol a b : Float) (l : List Bracket) → length l ≤ 64 → work_of 0 (split_cost s e) k c a b tol l + share s e k * length l ≤ share s e k * weight (inner_of k c a b tol l)
  unfolding inner_of work_of cut_of
  spent zero c tol a b l h =
      let p = priced 0 c tol a b l h in
      let z : share s e 0 * length l ≤ share s e 0 * weight (inner_of 0 c a b tol l) = mul-le-mul_left (share s e 0) (kept_in 0 (count_in c a b) (length l) (inner_of 0 c a b tol l) (work_of 1 (λ exact. 0) 0 c a b tol l) p) in
      omega (arith, z)
  spent (suc k) c tol a b l h =
      let r = cut_of c a b tol in
      let found = split_by r (λ l. inner_of k c a r.lo tol l) (λ l. inner_of k c r.hi b tol l) l in
      let work = below r (λ l. inner_of k c a r.lo tol l) (λ l. work_of 0 (split_cost s e) k c a r.lo tol l) (λ l. work_of 0 (split_cost s e) k c r.hi b tol l) l in
      let z : share s e k + s ≡ share s e (suc k) = omega arith in
      subst (λ (q : ℕ). 0 + if_split (count_in c a b) (lt (sub binary64 b a) tol) (split_cost s e r.exact + work) + q * length l ≤ q * weight (decided (count_in c a b) (lt (sub binary64 b a) tol) (got l) (pushed a b l) found)) z
      (spent-by (count_in c a b) (lt (sub binary64 b a) tol) a b l found (split_cost s e r.exact) work (share s e k + s) h (λ two.
      cut-spent k c tol (λ a b l h. spent k c tol a b l h) (hits_of (root_at c (middle a b)) (sub binary64 b a) tol) a b (middle a b) (nearby a b) l h
      (by-cut k c tol (λ a b l h. priced k c tol a b l h) (hits_of (root_at c (middle a b)) (sub binary64 b a) tol) a b (middle a b) (nearby a b) l h two).0.more))

  -- all brackets and a refusal
  spent-most : (c : List (List Float)) (tol a b : Float) (l : List Bracket) → length l ≤ 64 → work_of 0 (split_cost s e) 48 c a b tol l ≤ 65 * (48 * s + e)
  spent-most c tol a b l h =
      let x = spent 48 c tol a b l h in
      let y : share s e 48 * weight (inner_of 48 c a b tol l) ≤ share s e 48 * 65 = mul-le-mul_left (share s e 48) (most (inner_of 48 c a b tol l) (priced 48 c tol a b l h).fits) in
      omega (arith, x, y)

few-looks : (c : List (List Float)) → looks c ≤ 1
few-looks [] = omega arith
few-looks (p ∷ c) = omega arith

evaluations-most : (c : List (List Float)) (a b tol : Float) → evaluations_for c a b tol ≤ most_evaluations (length c)
unfolding work_for
evaluations-most c a b tol =
    let n = length c in
    let z = few-looks c in
    let w =
    after-most (then_got (marked (root_at c a) a []) (λ l. marked (root_at c b) b l))
    (λ l. unless_none (le (end c a b) (start c a b)) (2 * n + work_of 0 (split_cost (looks c + n) n) 48 c (start c a b) (end c a b) tol l)) (2 * n + 65 * (48 * (n + 1) + n))
    (marked-both (root_at c b) b (marked (root_at c a) a []) (marked-fits (root_at c a) a [] (omega arith)))
    (λ l h. unless-most (le (end c a b) (start c a b)) _ (2 * n + 65 * (48 * (n + 1) + n)) (omega (arith, z, spent-most (looks c + n) n c tol (start c a b) (end c a b) l h)))
    in
    omega (arith, z, w)

pub price-bounded : PricePromise most_calls
price-bounded = record { calls = calls-most; evaluations = evaluations-most }

-- ---- the brackets

unless-fits : (t : Bool) (x y : Found) → Fits x → Fits y → Fits (unless_empty t x y)
unless-fits true x y a b = a
unless-fits false x y a b = b

then-fits : (g : Found) (f : List Bracket → Found) → Fits g → ((l : List Bracket) → length l ≤ 64 → Fits (f l)) → Fits (then_got g f)
then-fits (got l) f h k = k l h
then-fits (none why) f h k = tt

pub bisect-fits : (c : List (List Float)) (a b tol : Float) → Fits (bisect_of c a b tol)
unfolding bisect_of
bisect-fits c a b tol =
    then-fits (then_got (marked (root_at c a) a []) (λ l. marked (root_at c b) b l)) _
    (marked-both (root_at c b) b (marked (root_at c a) a []) (marked-fits (root_at c a) a [] (omega arith)))
    (λ l h. unless-fits (le (end c a b) (start c a b)) (got l) _ h (priced 48 c tol (start c a b) (end c a b) l h).fits)

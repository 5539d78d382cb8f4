-- Laws of the tally: what a tally that isn't refused holds, one candidate more, and the walks over listings, their turns, ends and refusals.
use Rattle.std.specs.Prelude.{Ok, Err}
use mathlib.Core.Path.{◌≡◌, refl, sym, ap, ap₂, ◌∙◌}
use mathlib.Core.Bool.{true, false}
use mathlib.Core.List.{List, [], ◌∷◌}
use Prim.Native.Nat.{ℕ, ◌+◌, ◌-◌, ◌*◌, ◌<◌, ◌≤◌}
use native.Mathlib.Omega.{arith}
use lib.IntN.{ℤ, pos}
use lib.ListN.{length, replicate}
use lib.Seq.{take-append_seam}
use Rattle.ratio.specs.declared.Ratio.{Ratio}
use Rattle.ratio.specs.declared.Reason.{Reason}
use Rattle.ratio.specs.Refusal.{zero_r}
use Rattle.ratio.specs.Step.{is_nil, new_of}
use Rattle.divisors.specs.Walk.{rest}
use Rattle.terms.specs.Machine.{Ran, fine, over, and_then, plain, whole_r}
use Rattle.terms.specs.Work.{valued}
use Rattle.search.specs.declared.Tally.{Tally}
use Rattle.search.specs.declared.Valued.{Valued}
use Rattle.search.specs.Try.{Count, noted, kept_if, try_at, unless_zero, try_one, try_row, try_all}
use Rattle.search.specs.Tally.{filled, count_of, kept_list, Tallied, tally_of, halted_at, valued_of}
use Rattle.search.proofs.PriceTry.{count_in, few-steps, one-few}

-- ---- what a tally holds

-- the length and the array of a tally are those of its list
pub record Known (t : Tally) : Type 0 where
  pub size : t.len ≡ length (kept_list t)
  pub array : t.values ≡ filled (kept_list t)
  pub going : t.fine ≡ true

pub known : (t : Tally) → Tallied t → Known t
known t e = record { size = ap (λ (s : Tally). s.len) e; array = ap (λ (s : Tally). s.values) e; going = ap (λ (s : Tally). s.fine) e }

-- other counts, the same list
pub recounted : (t : Tally) → Tallied t → (n k : ℕ) → ◌≡◌ {A = Tally} (record { fine = true; values = t.values; len = t.len; tried = n; steps = k }) (tally_of (fine (record { tried = n; steps = k }) (kept_list t)))
recounted t e n k = ap (λ (s : Tally). record { fine = true; values = s.values; len = s.len; tried = n; steps = k }) e

-- the tally of a list holds that list
module _ (c : Count) (l : List Ratio) (t : Tally) (e : t ≡ tally_of (fine c l)) where
  pub kept-is : kept_list t ≡ l
  kept-is = ap kept_list e ∙ take-append_seam l (replicate (32 - length l) zero_r)

  pub count-is : count_of t ≡ c
  count-is = ap count_of e

  pub is-tallied : Tallied t
  is-tallied = e ∙ sym (ap₂ (λ d m. tally_of (fine d m)) count-is kept-is)

-- work that isn't refused is told by its tally
pub record Went (r : Ran Count (List Ratio)) (t : Tally) : Type 0 where
  pub is : r ≡ fine (count_of t) (kept_list t)
  pub tallied : Tallied t

pub went : (r : Ran Count (List Ratio)) (t : Tally) → t ≡ tally_of r → t.fine ≡ true → Went r t
went (fine c l) t e f = record { is = sym (ap₂ fine (count-is c l t e) (kept-is c l t e)); tallied = is-tallied c l t e }
went (over c) t e f = let g : t.fine ≡ false = ap (λ (s : Tally). s.fine) e in let z : ◌≡◌ {A = ℕ} 0 1 = cc in absurd (omega arith)

-- a refused one is the end
pub halted : (r : Ran Count (List Ratio)) (k : Count → List Ratio → Ran Count (List Ratio)) (t : Tally) → t ≡ tally_of r → t.fine ≡ false → t ≡ tally_of (and_then r k)
halted (fine c l) k t e f = let g : t.fine ≡ true = ap (λ (s : Tally). s.fine) e in let z : ◌≡◌ {A = ℕ} 0 1 = cc in absurd (omega arith)
halted (over c) k t e f = e

pub tally-count : (r : Ran Count (List Ratio)) (t : Tally) → t ≡ tally_of r → count_of t ≡ count_in r
tally-count (fine c l) t e = ap count_of e
tally-count (over c) t e = ap count_of e

-- ---- one candidate

module _ (l : List Ratio) (p q : ℤ) (t : Tally) (e : Tallied t) where
  pub one_none : is_nil q ≡ true → t ≡ tally_of (try_one l p q (count_of t) (kept_list t))
  unfolding try_one
  one_none z = e ∙ ap (λ b. tally_of (unless_zero b (count_of t) (kept_list t) (try_at l (new_of p q) (count_of t) (kept_list t)))) (sym z)

  pub one-refused : (why : Reason) → is_nil q ≡ false → new_of p q ≡ Err why → halted_at t.tried t.steps ≡ tally_of (try_one l p q (count_of t) (kept_list t))
  unfolding try_one
  one-refused why z n = ap₂ (λ b s. tally_of (unless_zero b (count_of t) (kept_list t) (try_at l s (count_of t) (kept_list t)))) (sym z) (sym n)

  module _ (x : Ratio) (z : is_nil q ≡ false) (n : new_of p q ≡ Ok x) (v : Valued) (w : v ≡ valued_of (valued plain l x (whole_r (pos 1)) zero_r t.steps)) where
    abbrev after : Ran ℕ Ratio → Ran Count (List Ratio)
    after r = and_then (noted t.tried r) (λ c y. fine c (kept_if (is_nil y.num) x (kept_list t)))

    by_value : after (valued plain l x (whole_r (pos 1)) zero_r t.steps) ≡ try_one l p q (count_of t) (kept_list t)
    unfolding try_one
    by_value = ap₂ (λ b s. unless_zero b (count_of t) (kept_list t) (try_at l s (count_of t) (kept_list t))) (sym z) (sym n)

    pub one-over : v.fine ≡ false → halted_at (t.tried + 1) v.steps ≡ tally_of (try_one l p q (count_of t) (kept_list t))
    one-over f = over_by (valued plain l x (whole_r (pos 1)) zero_r t.steps) v w f ∙ ap tally_of by_value
      where
        over_by : (r : Ran ℕ Ratio) (v : Valued) → v ≡ valued_of r → v.fine ≡ false → halted_at (t.tried + 1) v.steps ≡ tally_of (after r)
        over_by (fine k y) v w f = let g : v.fine ≡ true = ap (λ (u : Valued). u.fine) w in let z : ◌≡◌ {A = ℕ} 0 1 = cc in absurd (omega arith)
        over_by (over k) v w f = ap (λ (u : Valued). halted_at (t.tried + 1) u.steps) w

    pub one-tried : v.fine ≡ true → tally_of (fine (record { tried = t.tried + 1; steps = v.steps }) (kept_if (is_nil v.value.num) x (kept_list t))) ≡ tally_of (try_one l p q (count_of t) (kept_list t))
    one-tried f = fine-by (valued plain l x (whole_r (pos 1)) zero_r t.steps) v w f ∙ ap tally_of by_value
      where
        fine-by : (r : Ran ℕ Ratio) (v : Valued) → v ≡ valued_of r → v.fine ≡ true → tally_of (fine (record { tried = t.tried + 1; steps = v.steps }) (kept_if (is_nil v.value.num) x (kept_list t))) ≡ tally_of (after r)
        fine-by (fine k y) v w f = ap (λ (u : Valued). tally_of (fine (record { tried = t.tried + 1; steps = u.steps }) (kept_if (is_nil u.value.num) x (kept_list t)))) w
        fine-by (over k) v w f = let g : v.fine ≡ false = ap (λ (u : Valued). u.fine) w in let z : ◌≡◌ {A = ℕ} 0 1 = cc in absurd (omega arith)

-- ---- a walk over a listing

module _ (l : List Ratio) (p : ℤ) (size : ℕ) (marks : List ℕ) (t : Tally) where
  -- what is left from a place on gives the whole row
  pub record Rowing (at : ℕ) (s : Tally) : Type 0 where
    pub whole : tally_of (try_row l p (rest size marks at) (count_of s) (kept_list s)) ≡ tally_of (try_row l p (rest size marks 0) (count_of t) (kept_list t))
    pub tallied : Tallied s
    pub tried : s.tried ≤ t.tried + at
    pub steps : s.steps ≤ t.steps + 96 * at
    pub place : at ≤ 262144

  pub rowing-none : Tallied t → Rowing 0 t
  rowing-none e = record { whole = refl; tallied = e; tried = omega arith; steps = omega arith; place = omega arith }

  module _ (at : ℕ) (s : Tally) (r : Rowing at s) where
    pub rowing-all : rest size marks at ≡ [] → s ≡ tally_of (try_row l p (rest size marks 0) (count_of t) (kept_list t))
    unfolding try_row
    rowing-all e = r.tallied ∙ (rw e at r.whole)

    module _ (q : ℤ) (next : ℕ) (e : rest size marks at ≡ q ∷ rest size marks next) (n : Tally) (f : n ≡ tally_of (try_one l p q (count_of s) (kept_list s))) where
      pub rowing-over : n.fine ≡ false → n ≡ tally_of (try_row l p (rest size marks 0) (count_of t) (kept_list t))
      unfolding try_row
      rowing-over g = halted (try_one l p q (count_of s) (kept_list s)) _ n f g ∙ (rw e at r.whole)

      few : length l ≤ 32 → (n.tried ≤ s.tried + 1) × (n.steps ≤ s.steps + 96)
      few h =
          let k = one-few l p q (count_of s) (kept_list s) in
          let c : count_of n ≡ count_in (try_one l p q (count_of s) (kept_list s)) = tally-count (try_one l p q (count_of s) (kept_list s)) n f in
          let a : n.tried ≡ (count_in (try_one l p q (count_of s) (kept_list s))).tried = ap (λ (d : Count). d.tried) c in
          let b : n.steps ≡ (count_in (try_one l p q (count_of s) (kept_list s))).steps = ap (λ (d : Count). d.steps) c in
          (omega (arith, k.tried), omega (arith, few-steps (3 * length l) 1 _ _ k))

      pub rowing-few : length l ≤ 32 → at < next → next ≤ 262144 → (n.tried ≤ t.tried + 262144) × (n.steps ≤ t.steps + 25165824)
      rowing-few h j m = let k = few h in (omega (arith, r.tried), omega (arith, r.steps))

      pub rowing_more : length l ≤ 32 → at < next → next ≤ 262144 → n.fine ≡ true → Rowing next n
      unfolding try_row
      rowing_more h j m g =
          let w = went (try_one l p q (count_of s) (kept_list s)) n f g in
          let k = few h in
          record {
            whole = rw (e, w.is) at r.whole;
            tallied = w.tallied;
            tried = omega (arith, r.tried);
            steps = omega (arith, r.steps);
            place = m;
          }

module _ (l : List Ratio) (size : ℕ) (marks : List ℕ) (qs : List ℤ) (t : Tally) where
  -- what is left from a place on gives the whole search
  pub record Searching (at : ℕ) (s : Tally) : Type 0 where
    pub whole : tally_of (try_all l (rest size marks at) qs (count_of s) (kept_list s)) ≡ tally_of (try_all l (rest size marks 0) qs (count_of t) (kept_list t))
    pub tallied : Tallied s
    pub tried : s.tried ≤ 262144 * at
    pub steps : s.steps ≤ 25165824 * at
    pub place : at ≤ 262144

  pub searching-none : Tallied t → t.tried ≡ 0 → t.steps ≡ 0 → Searching 0 t
  searching-none e n k = record { whole = refl; tallied = e; tried = omega arith; steps = omega arith; place = omega arith }

  module _ (at : ℕ) (s : Tally) (r : Searching at s) where
    pub searching-all : rest size marks at ≡ [] → s ≡ tally_of (try_all l (rest size marks 0) qs (count_of t) (kept_list t))
    unfolding try_all
    searching-all e = r.tallied ∙ (rw e at r.whole)

    module _ (p : ℤ) (next : ℕ) (e : rest size marks at ≡ p ∷ rest size marks next) (n : Tally) (f : n ≡ tally_of (try_row l p qs (count_of s) (kept_list s))) where
      pub searching-over : n.fine ≡ false → n ≡ tally_of (try_all l (rest size marks 0) qs (count_of t) (kept_list t))
      unfolding try_all
      searching-over g = halted (try_row l p qs (count_of s) (kept_list s)) _ n f g ∙ (rw e at r.whole)

      pub searching-more : at < next → next ≤ 262144 → n.tried ≤ s.tried + 262144 → n.steps ≤ s.steps + 25165824 → n.fine ≡ true → Searching next n
      unfolding try_all
      searching-more j m a b g =
          let w = went (try_row l p qs (count_of s) (kept_list s)) n f g in
          record {
            whole = rw (e, w.is) at r.whole;
            tallied = w.tallied;
            tried = omega (arith, r.tried);
            steps = omega (arith, r.steps);
            place = m;
          }

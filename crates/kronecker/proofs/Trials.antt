-- Laws of the search: what a trial tells, and loops over combinations and degrees.
use Rattle.ratio.specs.Refusal.{no_refusal}
use Rattle.std.specs.Prelude.{Err}
use mathlib.Core.Path.{◌≡◌, refl, sym, ap, ◌∙◌}
use mathlib.Core.Bool.{true, false}
use mathlib.Core.List.{List, []}
use Prim.Native.Nat.{ℕ, suc, ◌+◌, ◌-◌, ◌<◌, ◌≤◌}
use native.Mathlib.Numerals.{add-one}
use native.Mathlib.Omega.{arith}
use borrow.Author.Tests.{lt-ltb, le-ltb}
use lib.ListN.{length, drop, get_or, drop_of_length-le}
use lib.Seq.{drop-cons}
use Rattle.ratio.specs.declared.Ratio.{Ratio}
use Rattle.ratio.specs.declared.Reason.{Reason}
use Rattle.terms.specs.declared.Answer.{Answer}
use Rattle.terms.specs.Poly.{terms_of}
use Rattle.remainders.specs.declared.Division.{Division}
use Rattle.remainders.specs.Answer.{divided_of}
use Rattle.kronecker.specs.declared.Split.{Split}
use Rattle.kronecker.specs.declared.Verdict.TheVariants.{Next, NoSplit, Refused}
use Rattle.kronecker.specs.declared.Gathered.{Gathered}
use Rattle.kronecker.specs.Combinations.{Gathering, stopped, made, on_listing, rows_of, gathering_of}
use Rattle.kronecker.specs.Points.{all_whole}
use Rattle.kronecker.specs.Interpolation.{interpolated_of}
use Rattle.kronecker.specs.Split.{without, found_with, is_over, judged, tried_of, tried_from, tried_gathered, tried_at, tried_degrees, most_of, try_split_of}

-- ---- combination after combination

module _ (f : List Ratio) (n : ℕ) (all : List (List Ratio)) where
  pub record Trying (i : ℕ) : Type 0 where
    pub whole : tried_from f n (drop i all) ≡ tried_from f n all

  pub trying-none : Trying 0
  trying-none = record { whole = refl }

  module _ (i : ℕ) (d : List Ratio) (h : i < length all) (t : Trying i) (s : Split) (e : s ≡ tried_of f n (get_or all i d)) where
    pub trying-more : is_over s.verdict ≡ false → Trying (i + 1)
    unfolding tried_from
    trying-more o =
        let q : is_over (tried_of f n (get_or all i d)).verdict ≡ false = sym (ap (λ (t : Split). is_over t.verdict) e) ∙ o in
        record { whole = rw (add-one i) (rw (drop-cons all i d h, q) at t.whole) }

    pub trying-over : is_over s.verdict ≡ true → s ≡ tried_from f n all
    unfolding tried_from
    trying-over o =
        let q : is_over (tried_of f n (get_or all i d)).verdict ≡ true = sym (ap (λ (t : Split). is_over t.verdict) e) ∙ o in
        e ∙ (rw (drop-cons all i d h, q) at t.whole)

  pub trying-all : (i : ℕ) → length all ≤ i → Trying i → without Next ≡ tried_from f n all
  unfolding tried_from
  trying-all i h t = let e : drop i all ≡ [] = drop_of_length-le all h in rw e at t.whole

-- ---- degree after degree

module _ (f : List Ratio) (budget m : ℕ) where
  pub record Rising (k : ℕ) : Type 0 where
    pub whole : tried_degrees f budget (m + 1 - k) k ≡ try_split_of f budget

  pub rising_none : m ≡ most_of f → Rising 1
  unfolding try_split_of
  rising_none same = let s : m + 1 - 1 ≡ most_of f = omega (arith, same) in record { whole = rw s }

  module _ (k : ℕ) (h : k ≤ m) (t : Rising k) (s : Split) (e : s ≡ tried_at f budget (k + 1)) where
    pub rising-more : is_over s.verdict ≡ false → Rising (k + 1)
    unfolding tried_degrees
    rising-more o =
        let q : is_over (tried_at f budget (k + 1)).verdict ≡ false = sym (ap (λ (t : Split). is_over t.verdict) e) ∙ o in
        let u : m + 1 - k ≡ suc (m - k) = omega arith in
        let v : m + 1 - suc k ≡ m - k = omega arith in
        record { whole = rw (add-one k, v) (rw (u, q) at t.whole) }

    pub rising-over : is_over s.verdict ≡ true → s ≡ try_split_of f budget
    unfolding tried_degrees
    rising-over o =
        let q : is_over (tried_at f budget (k + 1)).verdict ≡ true = sym (ap (λ (t : Split). is_over t.verdict) e) ∙ o in
        let u : m + 1 - k ≡ suc (m - k) = omega arith in
        e ∙ (rw (u, q) at t.whole)

  pub rising-all : (k : ℕ) → m < k → Rising k → without NoSplit ≡ try_split_of f budget
  unfolding tried_degrees
  rising-all k h t = let u : m + 1 - k ≡ 0 = omega arith in rw u at t.whole

-- ---- one candidate

module _ (f c : List Ratio) where
  pub judged-short : length c < 2 → without Next ≡ judged f c
  unfolding judged
  judged-short h = rw (lt-ltb (length c) 2 h)

  module _ (h : 2 ≤ length c) where
    pub judged-broken : all_whole c ≡ false → without Next ≡ judged f c
    unfolding judged
    judged-broken w = rw (le-ltb (length c) 2 h, w)

    module _ (w : all_whole c ≡ true) (d : Division) (e : d ≡ divided_of f c) where
      pub judged-over : (why : Reason) → d.outcome ≡ Err why → without NoSplit ≡ judged f c
      unfolding judged
      judged-over why o = rw (le-ltb (length c) 2 h, w, ← e, o)

      pub judged-next : d.outcome ≡ no_refusal → 0 < length (terms_of d.rest) → without Next ≡ judged f c
      unfolding judged
      judged-next o k = rw (le-ltb (length c) 2 h, w, ← e, o, lt-ltb 0 (length (terms_of d.rest)) k)

      pub judged-found : d.outcome ≡ no_refusal → length (terms_of d.rest) ≤ 0 → found_with c ≡ judged f c
      unfolding judged
      judged-found o k = rw (le-ltb (length c) 2 h, w, ← e, o, le-ltb 0 (length (terms_of d.rest)) k)

module _ (f : List Ratio) (n : ℕ) (ys : List Ratio) (a : Answer) (e : a ≡ interpolated_of ys n) where
  pub tried-skipped : (why : Reason) → a.outcome ≡ Err why → without Next ≡ tried_of f n ys
  unfolding tried_of
  tried-skipped why o = rw (← e, o)

  pub tried-judged : a.outcome ≡ no_refusal → judged f (terms_of a.poly) ≡ tried_of f n ys
  unfolding tried_of
  tried-judged o = rw (← e, o)

-- ---- what was gathered

module _ (f : List Ratio) (n : ℕ) (all : Gathering) (g : Gathered) (e : gathering_of n g ≡ all) where
  pub gathered-refused : (why : Reason) → g.outcome ≡ Err why → without (Refused why) ≡ tried_gathered f n all
  gathered-refused why o = let q : all ≡ stopped why = sym e ∙ ap (λ t. on_listing t (made (rows_of n g.combinations))) o in rw q

  pub gathered-tried : g.outcome ≡ no_refusal → tried_from f n (rows_of n g.combinations) ≡ tried_gathered f n all
  gathered-tried o = let q : all ≡ made (rows_of n g.combinations) = sym e ∙ ap (λ t. on_listing t (made (rows_of n g.combinations))) o in rw q

-- Laws of combinations: how they lie in memory, and loops that let them grow.
use Rattle.ratio.specs.Refusal.{no_refusal}
use Rattle.std.specs.Prelude.{Err}
use mathlib.Core.Path.{◌≡◌, refl, sym, ap, ◌∙◌}
use mathlib.Core.Bool.{true, false}
use mathlib.Core.List.{List, [], ◌∷◌, ◌++◌, map, map-append}
use Prim.Native.Nat.{ℕ, zero, suc, ◌+◌, ◌-◌, ◌<◌, ◌≤◌}
use native.Mathlib.Numerals.{add-one}
use native.Mathlib.Omega.{arith}
use borrow.Author.Tests.{le-leb, lt-leb}
use lib.IntN.{ℤ, nat_abs}
use lib.ListN.{length, take, drop, get_or, length-map, drop_of_length-le}
use lib.Seq.{length-take-le, drop-cons, get_or-take}
use Rattle.ratio.specs.declared.Ratio.{Ratio}
use Rattle.ratio.specs.declared.Reason.{Reason}
use Rattle.terms.specs.Machine.{whole_r}
use Rattle.divisors.specs.Listing.{factors_of}
use Rattle.divisors.specs.Marks.{listing_of}
use Rattle.divisors.specs.declared.Listing.{Listing}
use Rattle.kronecker.specs.declared.Combination.{Combination}
use Rattle.kronecker.specs.declared.Combinations.{Combinations}
use Rattle.kronecker.specs.declared.Gathered.{Gathered}
use Rattle.kronecker.specs.Combinations.{is_full, grown_by, grown_all, grown, made, number_at, gathered, Stored, row_of, rows_of, gathering_of}

-- as many rows as are in use
pub rows_long : (n : ℕ) (l : Combinations) → Stored l → length (rows_of n l) ≡ l.len
rows_long n l s = length-map (take l.len l.rows) (row_of n) ∙ length-take-le l.len l.rows (omega (arith, s.few, s.places))

pub full-yes : (n : ℕ) (l : Combinations) → Stored l → 100 ≤ l.len → is_full (rows_of n l) ≡ true
full-yes n l s h = le-leb 100 (length (rows_of n l)) (omega (arith, rows_long n l s))

pub full-no : (n : ℕ) (l : Combinations) → Stored l → l.len < 100 → is_full (rows_of n l) ≡ false
full-no n l s h = lt-leb 100 (length (rows_of n l)) (omega (arith, rows_long n l s))

-- one row more
pub rows_more : (n : ℕ) (l r : Combinations) (c : Combination) → take r.len r.rows ≡ take l.len l.rows ++ (c ∷ []) → rows_of n r ≡ rows_of n l ++ (row_of n c ∷ [])
rows_more n l r c e = ap (map (row_of n)) e ∙ map-append (row_of n) (take l.len l.rows) (c ∷ [])

pub rows_none : (n : ℕ) (l : Combinations) → l.len ≡ 0 → rows_of n l ≡ []
rows_none n l e = ap (λ (k : ℕ). map (row_of n) (take k l.rows)) e

get_d_map : {X Y : Type 0} (f : X → Y) (l : List X) (i : ℕ) (d : X) → get_or (map f l) i (f d) ≡ f (get_or l i d)
get_d_map f [] i d = refl
get_d_map f (x ∷ l) zero d = refl
get_d_map f (x ∷ l) (suc i) d = get_d_map f l i d

-- a read of a row in use
pub rows-read : (n : ℕ) (l : Combinations) (i : ℕ) (d : Combination) → i < l.len → row_of n (get_or l.rows i d) ≡ get_or (rows_of n l) i (row_of n d)
rows-read n l i d h = sym (get_d_map (row_of n) (take l.len l.rows) i d ∙ ap (row_of n) (get_or-take l.len l.rows i d h))

-- ---- each combination with each divisor

-- what is full stays as it is
full_by : (out : List (List Ratio)) (c : List Ratio) (ds : List ℤ) → is_full out ≡ true → grown_by out c ds ≡ out
unfolding grown_by
full_by out c [] f = refl
full_by out c (d ∷ ds) f = rw f

full-all : (out l : List (List Ratio)) (ds : List ℤ) → is_full out ≡ true → grown_all out l ds ≡ out
unfolding grown_all
full-all out [] ds f = refl
full-all out (c ∷ l) ds f = rw (full_by out c ds f) (full-all out l ds f)

-- the first combination goes on with the divisors that are left, the others with all of them
abbrev pub grow_on : List (List Ratio) → List (List Ratio) → List ℤ → List ℤ → List (List Ratio)
grow_on out [] left ds = out
grow_on out (c ∷ more) left ds = grown_all (grown_by out c left) more ds

all-on : (out l : List (List Ratio)) (ds : List ℤ) → grow_on out l ds ds ≡ grown_all out l ds
unfolding grown_all
all-on out [] ds = refl
all-on out (c ∷ l) ds = refl

module _ (all : List (List Ratio)) (ds : List ℤ) where
  pub record Growing (i : ℕ) (out : List (List Ratio)) (left : List ℤ) : Type 0 where
    pub whole : grow_on out (drop i all) left ds ≡ grown_all [] all ds

  pub growing-none : (out : List (List Ratio)) → out ≡ [] → Growing 0 out ds
  growing-none out e = record { whole = rw e (all-on [] all ds) }

  growing-more : (i : ℕ) (out : List (List Ratio)) (left more : List ℤ) (d : ℤ) (e : List Ratio) → i < length all → left ≡ d ∷ more → is_full out ≡ false → Growing i out left → Growing i (out ++ ((get_or all i e ++ (whole_r d ∷ [])) ∷ [])) more
  unfolding grown_by
  growing-more i out left more d e h p f g = record { whole = rw (drop-cons all i e h) (rw (drop-cons all i e h, p, f) at g.whole) }

  -- the same with the rows as they lie in memory
  pub growing-step : (n i : ℕ) (out r : Combinations) (c : List Ratio) (x : Combination) (y : Ratio) (left more : List ℤ) (d : ℤ) (e : List Ratio) → i < length all → left ≡ d ∷ more → Stored out → out.len < 100 → take r.len r.rows ≡ take out.len out.rows ++ (x ∷ []) → row_of n x ≡ c ++ (y ∷ []) → c ≡ get_or all i e → y ≡ whole_r d → Growing i (rows_of n out) left → Growing i (rows_of n r) more
  growing-step n i out r c x y left more d e h p s l q t u w g =
      let k : rows_of n r ≡ rows_of n out ++ ((get_or all i e ++ (whole_r d ∷ [])) ∷ []) = rows_more n out r x q ∙ ap (λ (t : List Ratio). rows_of n out ++ (t ∷ [])) (t ∙ ap (λ (v : List Ratio). v ++ (y ∷ [])) u ∙ ap (λ (v : Ratio). get_or all i e ++ (v ∷ [])) w) in
      rw k (growing-more i (rows_of n out) left more d e h p (full-no n out s l) g)

  -- no divisor is left: on to the next combination
  pub growing-next : (i : ℕ) (out : List (List Ratio)) (left : List ℤ) → i < length all → left ≡ [] → Growing i out left → Growing (i + 1) out ds
  unfolding grown_by
  growing-next i out left h p g = record { whole = rw (add-one i, all-on out (drop (suc i) all) ds) (rw (drop-cons all i [] h, p) at g.whole) }

  pub growing-full : (i : ℕ) (out : List (List Ratio)) (left : List ℤ) → i < length all → is_full out ≡ true → is_full all ≡ false → Growing i out left → out ≡ grown all ds
  unfolding grown
  growing-full i out left h f a g = rw a (rw (drop-cons all i [] h, full_by out (get_or all i []) left f, full-all out (drop (suc i) all) ds f) at g.whole)

  pub growing-all : (i : ℕ) (out : List (List Ratio)) (left : List ℤ) → length all ≤ i → is_full all ≡ false → Growing i out left → out ≡ grown all ds
  unfolding grown
  growing-all i out left h a g =
      let e : drop i all ≡ [] = drop_of_length-le all h in
      rw a (rw e at g.whole)

  pub grown-full : is_full all ≡ true → [] ≡ grown all ds
  unfolding grown
  grown-full f = rw f

-- ---- point after point

module _ (f : List Ratio) (budget n : ℕ) where
  pub record Gathers (j : ℕ) (l : List (List Ratio)) : Type 0 where
    pub whole : gathered f budget (n - j) j l ≡ gathered f budget n 0 ([] ∷ [])

  pub gathers-none : (l : List (List Ratio)) → l ≡ [] ∷ [] → Gathers 0 l
  gathers-none l e = let s : n - 0 ≡ n = omega arith in record { whole = rw (s, e) }

  module _ (j : ℕ) (l : List (List Ratio)) (h : j < n) (g : Gathers j l) (a : Listing) (e : a ≡ listing_of (number_at f j) budget) where
    pub gathers-more : (next : List (List Ratio)) → a.outcome ≡ no_refusal → next ≡ grown l (factors_of (nat_abs (number_at f j))) → Gathers (j + 1) next
    unfolding gathered
    gathers-more next o p =
        let k : n - j ≡ suc (n - suc j) = omega arith in
        let q : (listing_of (number_at f j) budget).outcome ≡ no_refusal = sym (ap (λ (t : Listing). t.outcome) e) ∙ o in
        record { whole = rw (add-one j, p) (rw (k, q) at g.whole) }

    pub gathers-over : (r : Gathered) (why : Reason) → a.outcome ≡ Err why → r.outcome ≡ Err why → gathering_of n r ≡ gathered f budget n 0 ([] ∷ [])
    unfolding gathered
    gathers-over r why o p =
        let k : n - j ≡ suc (n - suc j) = omega arith in
        let q : (listing_of (number_at f j) budget).outcome ≡ Err why = sym (ap (λ (t : Listing). t.outcome) e) ∙ o in
        rw p (rw (k, q) at g.whole)

  pub gathers-all : (j : ℕ) (l : List (List Ratio)) → n ≤ j → Gathers j l → made l ≡ gathered f budget n 0 ([] ∷ [])
  unfolding gathered
  gathers-all j l h g = let k : n - j ≡ 0 = omega arith in rw k at g.whole

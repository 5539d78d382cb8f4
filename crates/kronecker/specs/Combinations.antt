-- Document 01, module 5, Kronecker: a divisor of each value, at most 100 combinations in listing order. If 100 is reached before the last point, none is tried.
use Rattle.std.specs.Prelude.{◌≡◌, Bool, cond, List, [], ◌∷◌, ◌++◌, map, ℕ, zero, suc, ◌≤◌, leb, ℤ, nat_abs, length, take, Ok, Err}
use Rattle.ratio.specs.Refusal.{ratio_of, Outcome}
use Rattle.ratio.specs.declared.Ratio.{Ratio}
use Rattle.ratio.specs.declared.Reason.{Reason}
use Rattle.terms.specs.Machine.{whole_r}
use Rattle.divisors.specs.Listing.{factors_of}
use Rattle.divisors.specs.Marks.{listing_of}
use Rattle.kronecker.specs.declared.Combination.{Combination}
use Rattle.kronecker.specs.declared.Combinations.{Combinations}
use Rattle.kronecker.specs.declared.Gathered.{Gathered}
use Rattle.kronecker.specs.Points.{value_at}

abbrev pub is_full : List (List Ratio) → Bool
is_full l = leb 100 (length l)

-- a combination goes on with each divisor, until there are 100
unfoldable pub grown_by : List (List Ratio) → List Ratio → List ℤ → List (List Ratio)
grown_by out c [] = out
grown_by out c (d ∷ ds) = cond (is_full out) out (grown_by (out ++ ((c ++ (whole_r d ∷ [])) ∷ [])) c ds)

-- one combination after the other
unfoldable pub grown_all : List (List Ratio) → List (List Ratio) → List ℤ → List (List Ratio)
grown_all out [] ds = out
grown_all out (c ∷ more) ds = grown_all (grown_by out c ds) more ds

-- the combinations with a value for the next point; none where 100 were reached before it
unfoldable pub grown : List (List Ratio) → List ℤ → List (List Ratio)
grown l ds = cond (is_full l) [] (grown_all [] l ds)

pub data Gathering : Type 0 where
  stopped : Reason → Gathering
  made : List (List Ratio) → Gathering

abbrev pub on_listing : Outcome → Gathering → Gathering
on_listing (Ok _) g = g
on_listing (Err why) g = stopped why

-- the number whose divisors are listed for point i
abbrev pub number_at : List Ratio → ℕ → ℤ
number_at f i = (ratio_of (value_at f i)).num

-- n points from point i on; each listing is measured against the budget
unfoldable pub gathered : List Ratio → ℕ → ℕ → ℕ → List (List Ratio) → Gathering
gathered f budget zero i l = made l
gathered f budget (suc n) i l =
    on_listing (listing_of (number_at f i) budget).outcome (gathered f budget n (suc i) (grown l (factors_of (nat_abs (number_at f i)))))

-- how combinations of n values lie in memory
abbrev pub row_of : ℕ → Combination → List Ratio
row_of n c = take n c.values

pub record Stored (l : Combinations) : Type 0 where
  pub few : l.len ≤ 100
  pub places : length l.rows ≡ 100

abbrev pub rows_of : ℕ → Combinations → List (List Ratio)
rows_of n l = map (row_of n) (take l.len l.rows)

abbrev pub gathering_of : ℕ → Gathered → Gathering
gathering_of n g = on_listing g.outcome (made (rows_of n g.combinations))

-- Walking a listing: which entry comes next, and what is still to come. A place is 4 j + k: entry k of the number j + 1.
use Rattle.std.specs.Prelude.{◌≡◌, Bool, true, false, ◌&&◌, cond, List, [], ◌∷◌, ◌++◌, ℕ, zero, suc, ◌+◌, ◌-◌, ◌*◌, ◌/◌, ◌%◌, ◌^◌, ◌<◌, ◌≤◌, leb, ltb, eqb, ℤ, pos, drop, Option, Some, None}
use Rattle.ratio.specs.Range.{limit}
use Rattle.divisors.specs.declared.Factor.{Factor}
use Rattle.divisors.specs.Listing.{entries, keep}
use Rattle.divisors.specs.Marks.{bit_at}

-- bit j counts where it is set and j + 1 is at most the root: no divisor behind it is listed
abbrev pub marked : ℕ → List ℕ → ℕ → Bool
marked size marks j = leb ((j + 1) * (j + 1)) size && bit_at marks j

-- the entries for k bits from bit j on
unfoldable pub rest_after : ℕ → List ℕ → ℕ → ℕ → List ℤ
rest_after size marks zero j = []
rest_after size marks (suc k) j = keep (marked size marks j) (entries size (j + 1)) ++ rest_after size marks k (suc j)

-- the entry 0 alone
abbrev pub zero_from : ℕ → List ℤ
zero_from zero = pos 0 ∷ []
zero_from (suc at) = []

-- a place of a number within the range
abbrev pub is_place : ℕ → ℕ → Bool
is_place size at = leb size limit && ltb at 262144

-- what is still to be listed from a place on
unfoldable pub rest : ℕ → List ℕ → ℕ → List ℤ
rest zero marks at = zero_from at
rest (suc n) marks at =
    keep (is_place (suc n) at)
    (keep (marked (suc n) marks (at / 4)) (drop (at % 4) (entries (suc n) (at / 4 + 1))) ++ rest_after (suc n) marks (65535 - at / 4) (at / 4 + 1))

-- the first bit that counts from j on, among k; j + k where there is none
unfoldable pub mark_from : ℕ → List ℕ → ℕ → ℕ → ℕ
mark_from size marks zero j = j
mark_from size marks (suc k) j = cond (marked size marks j) j (mark_from size marks k (suc j))

-- no bit is set from j up to j + r
pub record Clear (marks : List ℕ) (j r : ℕ) : Type 0 where
  pub some : 0 < r
  pub inside : j + r ≤ 65536
  pub unset : (b : ℕ) → b < r → bit_at marks (j + b) ≡ false

-- the same within a word: from bit s up to bit s + r
pub record ClearIn (word s r : ℕ) : Type 0 where
  pub some : 0 < r
  pub inside : s + r ≤ 64
  pub unset : (b : ℕ) → b < r → eqb (word / 2 ^ (s + b) % 2) 1 ≡ false

abbrev pub entry_of : List ℤ → ℕ → Option ℤ
entry_of [] k = None
entry_of (z ∷ l) zero = Some z
entry_of (z ∷ l) (suc k) = entry_of l k

-- the entry z is found, and the place behind it is next
abbrev pub found_at : ℤ → ℕ → Option Factor
found_at z next = Some (record { value = z; next = next })

abbrev pub found_if : Bool → Option Factor → Option Factor
found_if true f = f
found_if false f = None

-- the first entry of the number j + 1
abbrev pub first_of : ℕ → Option Factor
first_of j = found_if (ltb j 65536) (found_at (pos (j + 1)) (j * 4 + 1))

abbrev pub or_else : Option ℤ → ℕ → Option Factor → Option Factor
or_else (Some z) next f = found_at z next
or_else None next f = f

abbrev pub entry_if : Bool → Option ℤ → Option ℤ
entry_if true e = e
entry_if false e = None

-- the entry at a place, where its number is marked
abbrev pub here_of : ℕ → List ℕ → ℕ → Option ℤ
here_of size marks at = entry_if (marked size marks (at / 4)) (entry_of (entries size (at / 4 + 1)) (at % 4))

abbrev pub zero_next : ℕ → Option Factor
zero_next zero = found_at (pos 0) 1
zero_next (suc at) = None

-- the entry at a place or after it
unfoldable pub next_of : ℕ → List ℕ → ℕ → Option Factor
next_of zero marks at = zero_next at
next_of (suc n) marks at =
    found_if (is_place (suc n) at) (or_else (here_of (suc n) marks at) (at + 1) (first_of (mark_from (suc n) marks (65535 - at / 4) (at / 4 + 1))))

-- What a listing holds from its first place on: `factors_of` where it was answered, and nothing where no bit is set.
use mathlib.Core.Path.{◌≡◌, refl, sym, ap, ap₂, ◌∙◌}
use mathlib.Core.Bool.{Bool, true, false, ◌&&◌}
use mathlib.Core.List.{List, [], ◌++◌}
use Prim.Native.Nat.{ℕ, zero, suc, ◌+◌, ◌*◌, ◌/◌, ◌%◌, ◌^◌, ◌<◌, ◌≤◌}
use native.Mathlib.Nat.{zero-div}
use native.Mathlib.Omega.{arith}
use borrow.Author.Tests.{le-leb, leb-true}
use lib.Dec.{leb, eqb}
use lib.ListN.{get_or, replicate}
use Rattle.ratio.specs.Range.{limit}
use Rattle.divisors.specs.Listing.{entries, is_small, keep, list_from, factors_of}
use Rattle.divisors.specs.Marks.{marks_of, bit_at}
use Rattle.divisors.specs.Walk.{marked, rest, rest_after}
use Rattle.divisors.proofs.Words.{marks-bit}
use Rattle.divisors.proofs.Skip.{unset}
use Rattle.divisors.proofs.Rest.{left, rest-inside, from_suc}

-- from the first place on, the entries for all 65,536 bits
rest-first : (n : ℕ) (marks : List ℕ) → suc n ≤ limit → rest (suc n) marks 0 ≡ rest_after (suc n) marks 65536 0
unfolding left
rest-first n marks h = rest-inside n marks 0 h (omega arith) ∙ sym (from_suc (suc n) marks 65535 0)

held : (s t : Bool) → (t ≡ true → s ≡ true) → s && t ≡ t
held true t f = refl
held false true f = f refl
held false false f = refl

and_first : (s t : Bool) → s && t ≡ true → s ≡ true
and_first true t e = refl
and_first false t e = e

-- the bits set are at most the root
marks-count : (n j : ℕ) → j < 65536 → marked n (marks_of n) j ≡ is_small n (suc j)
marks-count n j h =
    ap₂ (λ i t. leb (i * i) n && t) (let e : j + 1 ≡ suc j = omega arith in e) (marks-bit n j h)
    ∙ held (leb (suc j * suc j) n) (is_small n (suc j)) (λ e. le-leb (suc j * suc j) n (leb-true (suc j * suc j) n (and_first _ _ e)))

-- the marked numbers are those that `factors_of` lists
from_list : (n k j : ℕ) → j + k ≤ 65536 → rest_after n (marks_of n) k j ≡ list_from n k (suc j)
unfolding rest_after list_from
from_list n zero j h = refl
from_list n (suc k) j h =
    ap₂ (λ t i. keep t (entries n i) ++ rest_after n (marks_of n) k (suc j)) (marks-count n j (omega arith)) (let e : j + 1 ≡ suc j = omega arith in e)
    ∙ ap (λ l. keep (is_small n (suc j)) (entries n (suc j)) ++ l) (from_list n k (suc j) (omega arith))

pub rest-factors : (n : ℕ) → n ≤ limit → rest n (marks_of n) 0 ≡ factors_of n
unfolding rest factors_of
rest-factors zero h = refl
rest-factors (suc n) h = rest-first n (marks_of (suc n)) h ∙ from_list (suc n) 65536 0 (omega arith)

-- no bit set, no entry
from-clear : (n : ℕ) (marks : List ℕ) → ((j : ℕ) → bit_at marks j ≡ false) → (k j : ℕ) → rest_after n marks k j ≡ []
unfolding rest_after
from-clear n marks f zero j = refl
from-clear n marks f (suc k) j = ap (λ t. keep t (entries n (j + 1)) ++ rest_after n marks k (suc j)) (unset n marks j (f j)) ∙ from-clear n marks f k (suc j)

blank-word : (k i : ℕ) → ◌≡◌ {A = ℕ} (get_or (replicate k 0) i 0) 0
blank-word zero i = refl
blank-word (suc k) zero = refl
blank-word (suc k) (suc i) = blank-word k i

blank-bit : (k j : ℕ) → bit_at (replicate k 0) j ≡ false
blank-bit k j =
    ap (λ w. eqb (w / 2 ^ (j % 64) % 2) 1) (blank-word k (j / 64))
    ∙ ap (λ w. eqb (w % 2) 1) (zero-div (2 ^ (j % 64)))

pub rest-blank : (n k : ℕ) → suc n ≤ limit → rest (suc n) (replicate k 0) 0 ≡ []
rest-blank n k h = rest-first n (replicate k 0) h ∙ from-clear (suc n) (replicate k 0) (blank-bit k) 65536 0

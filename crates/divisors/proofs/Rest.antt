-- What is left of a listing at a place: its first entry and what is left behind that, up to the end.
use Rattle.std.specs.Prelude.{Some, None}
use mathlib.Core.Path.{◌≡◌, refl, sym, ap, ap₂, ◌∙◌}
use mathlib.Core.Bool.{Bool, true, false, ◌&&◌, cond}
use mathlib.Core.List.{List, [], ◌∷◌, ◌++◌}
use Prim.Native.Nat.{ℕ, zero, suc, ◌+◌, ◌*◌, ◌-◌, ◌/◌, ◌%◌, ◌<◌, ◌≤◌}
use native.Mathlib.Omega.{arith}
use borrow.Author.Tests.{le-ltb, lt-leb}
use lib.Dec.{leb, eqb}
use lib.IntN.{ℤ}
use lib.ListN.{drop}
use Rattle.ratio.specs.Range.{limit}
use Rattle.divisors.specs.Listing.{entries, others, keep}
use Rattle.divisors.specs.Walk.{marked, rest, rest_after, mark_from, entry_of, entry_if}
use Rattle.divisors.proofs.Next.{inside}

-- a list from a place on, by the entry at that place
pub drop-entry : (l : List ℤ) (k : ℕ) (z : ℤ) → entry_of l k ≡ Some z → drop k l ≡ z ∷ drop (suc k) l
drop-entry [] k z e = absurd (let f : ◌≡◌ {A = ℕ} 0 1 = cc in omega arith)
drop-entry (x ∷ l) zero z e = let f : x ≡ z = cc in ap (λ y. y ∷ l) f
drop-entry (x ∷ l) (suc k) z e = drop-entry l k z e

pub drop-nothing : (l : List ℤ) (k : ℕ) → entry_of l k ≡ None → drop k l ≡ []
drop-nothing [] zero e = refl
drop-nothing [] (suc k) e = refl
drop-nothing (x ∷ l) zero e = absurd (let f : ◌≡◌ {A = ℕ} 0 1 = cc in omega arith)
drop-nothing (x ∷ l) (suc k) e = drop-nothing l k e

-- what is left from entry k of the number j + 1 on
unfoldable pub left : ℕ → List ℕ → ℕ → ℕ → List ℤ
left size marks j k = keep (marked size marks j) (drop k (entries size (j + 1))) ++ rest_after size marks (65535 - j) (j + 1)

-- at most four entries are listed for one number
others-two : (t : Bool) (d : ℕ) → drop 2 (others t d) ≡ []
others-two true d = refl
others-two false d = refl

keep-nil : (t : Bool) → keep t [] ≡ []
keep-nil true = refl
keep-nil false = refl

module _ (size : ℕ) (marks : List ℕ) where
  pub from-none : (j : ℕ) → rest_after size marks 0 j ≡ []
  unfolding rest_after
  from-none j = refl

  pub from_suc : (k j : ℕ) → rest_after size marks (suc k) j ≡ keep (marked size marks j) (entries size (j + 1)) ++ rest_after size marks k (suc j)
  unfolding rest_after
  from_suc k j = refl

  -- where the walk over the bits finds none, nothing is left
  pub from_end : (k j : ℕ) → mark_from size marks k j ≡ j + k → rest_after size marks k j ≡ []
  unfolding rest_after mark_from
  from_end zero j e = refl
  from_end (suc k) j e = by (marked size marks j) e (from_end k (suc j))
    where
      by : (t : Bool) → cond t j (mark_from size marks k (suc j)) ≡ j + suc k → (mark_from size marks k (suc j) ≡ suc j + k → rest_after size marks k (suc j) ≡ []) → keep t (entries size (j + 1)) ++ rest_after size marks k (suc j) ≡ []
      by true f g = absurd (omega arith)
      by false f g = g (omega arith)

  -- where it finds one, that number's entries come next
  pub from-mark : (k j : ℕ) → mark_from size marks k j < j + k → rest_after size marks k j ≡ entries size (mark_from size marks k j + 1) ++ rest_after size marks (j + k - (mark_from size marks k j + 1)) (mark_from size marks k j + 1)
  unfolding rest_after mark_from
  from-mark zero j h = absurd (omega arith)
  from-mark (suc k) j h = by (marked size marks j) h (from-mark k (suc j))
    where
      by : (t : Bool) → (let m = cond t j (mark_from size marks k (suc j)) in m < j + suc k) → (let m = mark_from size marks k (suc j) in m < suc j + k → rest_after size marks k (suc j) ≡ entries size (m + 1) ++ rest_after size marks (suc j + k - (m + 1)) (m + 1)) → (let m = cond t j (mark_from size marks k (suc j)) in keep t (entries size (j + 1)) ++ rest_after size marks k (suc j) ≡ entries size (m + 1) ++ rest_after size marks (j + suc k - (m + 1)) (m + 1))
      by true f g = ap₂ (λ a b. entries size (j + 1) ++ rest_after size marks a b) (let e : k ≡ j + suc k - (j + 1) = omega arith in e) (let e : suc j ≡ j + 1 = omega arith in e)
      by false f g = g (omega arith) ∙ ap (λ a. entries size (mark_from size marks k (suc j) + 1) ++ rest_after size marks a (mark_from size marks k (suc j) + 1)) (let e : suc j + k - (mark_from size marks k (suc j) + 1) ≡ j + suc k - (mark_from size marks k (suc j) + 1) = omega arith in e)

  pub left-entry : (j k : ℕ) (z : ℤ) → entry_if (marked size marks j) (entry_of (entries size (j + 1)) k) ≡ Some z → left size marks j k ≡ z ∷ left size marks j (suc k)
  unfolding left
  left-entry j k z = by (marked size marks j)
    where
      by : (t : Bool) → entry_if t (entry_of (entries size (j + 1)) k) ≡ Some z → keep t (drop k (entries size (j + 1))) ++ rest_after size marks (65535 - j) (j + 1) ≡ z ∷ (keep t (drop (suc k) (entries size (j + 1))) ++ rest_after size marks (65535 - j) (j + 1))
      by true e = ap (λ l. l ++ rest_after size marks (65535 - j) (j + 1)) (drop-entry (entries size (j + 1)) k z e)
      by false e = absurd (let f : ◌≡◌ {A = ℕ} 0 1 = cc in omega arith)

  pub left-nothing : (j k : ℕ) → entry_if (marked size marks j) (entry_of (entries size (j + 1)) k) ≡ None → left size marks j k ≡ rest_after size marks (65535 - j) (j + 1)
  unfolding left
  left-nothing j k = by (marked size marks j)
    where
      by : (t : Bool) → entry_if t (entry_of (entries size (j + 1)) k) ≡ None → keep t (drop k (entries size (j + 1))) ++ rest_after size marks (65535 - j) (j + 1) ≡ rest_after size marks (65535 - j) (j + 1)
      by true e = ap (λ l. l ++ rest_after size marks (65535 - j) (j + 1)) (drop-nothing (entries size (j + 1)) k e)
      by false e = refl

  -- behind the fourth entry the next number's begin
  pub left-four : (j : ℕ) → left size marks j 4 ≡ rest_after size marks (65535 - j) (j + 1)
  unfolding left
  left-four j =
      ap (λ l. keep (marked size marks j) l ++ rest_after size marks (65535 - j) (j + 1)) (others-two (eqb ((j + 1) * (j + 1)) size) (size / (j + 1)))
      ∙ ap (λ l. l ++ rest_after size marks (65535 - j) (j + 1)) (keep-nil (marked size marks j))

  pub left-first : (j : ℕ) → j < 65535 → left size marks (j + 1) 0 ≡ rest_after size marks (65535 - j) (j + 1)
  unfolding left
  left-first j h = sym (ap (λ a. rest_after size marks a (j + 1)) (omega arith) ∙ from_suc (65535 - (j + 1)) (j + 1) ∙ ap (λ b. keep (marked size marks (j + 1)) (entries size (j + 1 + 1)) ++ rest_after size marks (65535 - (j + 1)) b) (omega arith))

module _ (n : ℕ) (marks : List ℕ) where
  pub rest-inside : (at : ℕ) → suc n ≤ limit → at < 262144 → rest (suc n) marks at ≡ left (suc n) marks (at / 4) (at % 4)
  unfolding rest left
  rest-inside at h g = ap (λ t. keep t (left (suc n) marks (at / 4) (at % 4))) (inside (suc n) at h g)

  pub rest-large : (at : ℕ) → limit < suc n → rest (suc n) marks at ≡ []
  unfolding rest
  rest-large at h = rw (lt-leb (suc n) limit h)

  out : (t : Bool) (l : List ℤ) → keep (t && false) l ≡ []
  out true l = refl
  out false l = refl

  pub rest_out : (at : ℕ) → 262144 ≤ at → rest (suc n) marks at ≡ []
  unfolding rest
  rest_out at h = rw (le-ltb at 262144 h) (out (leb (suc n) limit) _)

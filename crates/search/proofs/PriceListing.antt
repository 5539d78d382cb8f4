-- A listing within the budget has at most four entries for each number up to the budget.
use Rattle.ratio.specs.Refusal.{no_refusal}
use Rattle.std.specs.Prelude.{Err}
use mathlib.Core.Path.{◌≡◌, ap}
use mathlib.Core.Bool.{Bool, true, false}
use mathlib.Core.List.{◌++◌}
use Prim.Native.Nat.{ℕ, zero, suc, ◌+◌, ◌-◌, ◌*◌, ◌/◌, ◌<◌, ◌≤◌}
use native.Mathlib.Decide.{dec_le, ℕ_discrete}
use native.Mathlib.Omega.{arith}
use lib.Dec.{eqb}
use lib.IntN.{ℤ, nat_abs}
use lib.ListN.{length, length-append}
use Rattle.ratio.specs.Range.{limit}
use Rattle.ratio.specs.declared.Reason.{Reason}
use Rattle.divisors.specs.declared.Listing.{Listing}
use Rattle.divisors.specs.Listing.{others, entries, is_small, keep, list_from, factors_of}
use Rattle.divisors.specs.Marks.{listing_of, refused_by}
use Rattle.divisors.proofs.Words.{square_le, above_root}
use Rattle.divisors.proofs.Next.{listing-large, listing_none, listing-over, listing-budget}

others-two : (t : Bool) (d : ℕ) → length (others t d) ≤ 2
others-two true d = omega arith
others-two false d = omega arith

kept-four : (t : Bool) (n i : ℕ) → length (keep t (entries n i)) ≤ 4
kept-four true n i = let h = others-two (eqb (i * i) n) (n / i) in omega arith
kept-four false n i = omega arith

module _ (n b : ℕ) (h : n < (b + 1) * (b + 1)) where
  -- four for each number from i to b
  from-few : (k i : ℕ) → length (list_from n k i) ≤ 4 * (b + 1 - i)
  unfolding list_from
  from-few zero i = omega arith
  from-few (suc k) i = go (dec_le i b) (from-few k (suc i))
    where
      both : length (keep (is_small n i) (entries n i) ++ list_from n k (suc i)) ≡ length (keep (is_small n i) (entries n i)) + length (list_from n k (suc i))
      both = length-append (keep (is_small n i) (entries n i)) (list_from n k (suc i))

      go : Dec (i ≤ b) → length (list_from n k (suc i)) ≤ 4 * (b + 1 - suc i) → length (keep (is_small n i) (entries n i) ++ list_from n k (suc i)) ≤ 4 * (b + 1 - i)
      go (yes p) again = omega (arith, both, kept-four (is_small n i) n i)
      go (no p) again =
          let e : is_small n i ≡ false = above_root n i (omega (arith, square_le (b + 1) i (omega arith))) in
          let z : length (keep (is_small n i) (entries n i)) ≡ 0 = ap (λ t. length (keep t (entries n i))) e in
          omega (arith, both)

pub factors-few : (n b : ℕ) → 1 ≤ b → n < (b + 1) * (b + 1) → length (factors_of n) ≤ 4 * b
unfolding factors_of
factors-few zero b p h = omega arith
factors-few (suc n) b p h = let k = from-few (suc n) b h 65536 1 in omega arith

-- ---- an answered listing is within its budget

module _ (n : ℤ) (budget : ℕ) (d : (listing_of n budget).outcome ≡ no_refusal) where
  not-refused : (why : Reason) → listing_of n budget ≡ refused_by why → ⊥
  unfolding refused_by
  not-refused why e = let f : (listing_of n budget).outcome ≡ Err why = ap (λ (l : Listing). l.outcome) e in let z : ◌≡◌ {A = ℕ} 0 1 = cc in omega arith

  pub answered-within : (1 ≤ budget) × (nat_abs n < (budget + 1) * (budget + 1))
  answered-within = by (dec_le (nat_abs n) limit) (ℕ_discrete budget 0) (dec_le budget 65536) (dec_le ((budget + 1) * (budget + 1)) (nat_abs n))
    where
      by : Dec (nat_abs n ≤ limit) → Dec (budget ≡ 0) → Dec (budget ≤ 65536) → Dec ((budget + 1) * (budget + 1) ≤ nat_abs n) → (1 ≤ budget) × (nat_abs n < (budget + 1) * (budget + 1))
      by (no a) b c e = absurd (not-refused _ (listing-large n budget (omega arith)))
      by (yes a) (yes b) c e = absurd (not-refused _ (listing_none n budget a b))
      by (yes a) (no b) (no c) e = absurd (not-refused _ (listing-over n budget a b (omega arith)))
      by (yes a) (no b) (yes c) (yes e) = absurd (not-refused _ (listing-budget n budget a b c e))
      by (yes a) (no b) (yes c) (no e) = (omega arith, omega arith)

  pub listing-few : length (factors_of (nat_abs n)) ≤ 4 * budget
  listing-few = let (p, q) = answered-within in factors-few (nat_abs n) budget p q

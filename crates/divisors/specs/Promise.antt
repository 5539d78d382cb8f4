-- Demand 2 for a listing: it is refused exactly where document 01 says, and an answered one holds each divisor of n, with each sign, once, and nothing else.
use Rattle.ratio.specs.Refusal.{status_of}
use Rattle.std.specs.Prelude.{◌≡◌, Bool, true, false, List, [], ◌∷◌, ℕ, suc, ◌+◌, ◌*◌, ◌<◌, ◌≤◌, eqb, ℤ, pos, negsuc, nat_abs, ◌*ℤ◌, Option, Some, None}
use Rattle.ratio.specs.Range.{Within}
use Rattle.divisors.specs.declared.Factor.{Factor}
use Rattle.divisors.specs.declared.Listing.{Listing}
use Rattle.divisors.specs.Listing.{factors_of}
use Rattle.divisors.specs.Walk.{rest}

abbrev pub same_z : ℤ → ℤ → Bool
same_z (pos a) (pos b) = eqb a b
same_z (pos a) (negsuc b) = false
same_z (negsuc a) (pos b) = false
same_z (negsuc a) (negsuc b) = eqb a b

abbrev pub count_more : Bool → ℕ → ℕ
count_more true n = suc n
count_more false n = n

-- how often z stands in a list
unfoldable pub count_of : ℤ → List ℤ → ℕ
count_of z [] = 0
count_of z (a ∷ l) = count_more (same_z z a) (count_of z l)

-- z divides n
pub record DivisorOf (n z : ℤ) : Type 0 where
  pub quotient : ℤ
  pub is : n ≡ quotient *ℤ z

-- r is floor(sqrt m)
pub record Root (m r : ℕ) : Type 0 where
  pub reached : r * r ≤ m
  pub passed : m < (r + 1) * (r + 1)

-- a number within the range, and a budget from 1 to 65,536
pub record Allowed (n : ℤ) (budget : ℕ) : Type 0 where
  pub number : Within n
  pub some : 1 ≤ budget
  pub most : budget ≤ 65536

-- the entries of a listing, from its first place on
abbrev pub listed : Listing → List ℤ
listed l = rest l.size l.marks 0

pub record Lists (n : ℤ) (budget : ℕ) (l : Listing) : Type 0 where
  pub bad : (Allowed n budget → ⊥) → status_of l.outcome ≡ 5
  pub over : Allowed n budget → (r : ℕ) → Root (nat_abs n) r → budget < r → status_of l.outcome ≡ 6
  pub answered : Allowed n budget → (r : ℕ) → Root (nat_abs n) r → r ≤ budget → status_of l.outcome ≡ 0
  pub order : status_of l.outcome ≡ 0 → listed l ≡ factors_of (nat_abs n)
  pub divisors : status_of l.outcome ≡ 0 → (n ≡ pos 0 → ⊥) → (z : ℤ) → DivisorOf n z → count_of z (listed l) ≡ 1
  pub others : status_of l.outcome ≡ 0 → (n ≡ pos 0 → ⊥) → (z : ℤ) → (DivisorOf n z → ⊥) → count_of z (listed l) ≡ 0
  pub refused : (status_of l.outcome ≡ 0 → ⊥) → listed l ≡ []

-- the entry found is the first of what is left, and the walk goes on behind it
pub record Walks (size : ℕ) (marks : List ℕ) (at : ℕ) (f : Option Factor) : Type 0 where
  pub found : (x : Factor) → f ≡ Some x → rest size marks at ≡ x.value ∷ rest size marks x.next
  pub forward : (x : Factor) → f ≡ Some x → (at < x.next) × (x.next ≤ 262144)
  pub ended : f ≡ None → rest size marks at ≡ []

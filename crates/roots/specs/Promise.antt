-- Demand 2 and demand 3 for module 5, roots: an answered list holds each rational root once, rising, in lowest terms, and nothing else; and what the search costs.
use Rattle.std.specs.Prelude.{◌≡◌, ℕ, suc, ◌+◌, ◌*◌, ◌<◌, ◌≤◌, ℤ, nat_abs, get_or, Result, Ok, Err}
use Rattle.algebra.specs.Rational.{Rat, Same, Less}
use Rattle.algebra.specs.Textbook.{HasDegree, IsZero, IsRoot}
use Rattle.ratio.specs.Promise.{rat, Lowest}
use Rattle.ratio.specs.Refusal.{zero_r, status_of}
use Rattle.ratio.specs.declared.Ratio.{Ratio}
use Rattle.ratio.specs.declared.Reason.{Reason}
use Rattle.terms.specs.declared.Poly.{Poly}
use Rattle.poly.specs.declared.Gate.TheVariants.{Open}
use Rattle.poly.specs.Door.{door_of}
use Rattle.poly.specs.Promise.{reading}
use Rattle.divisors.specs.Marks.{listing_of}
use Rattle.divisors.specs.Promise.{Root}
use Rattle.search.specs.declared.Roots.{Roots}
use Rattle.roots.specs.declared.Quote.{Quote}
use Rattle.roots.specs.Answer.{budget_door, rational_roots_of}
use Rattle.roots.specs.Quote.{candidates_price}

-- entry i of a list of roots
abbrev pub entry : Roots → ℕ → Ratio
entry r i = get_or r.values i zero_r

-- x is one of the entries
pub record Stands (x : Rat) (r : Roots) : Type 0 where
  pub place : ℕ
  pub inside : place < r.len
  pub is : Same (rat (entry r place)) x

pub record RootsPromise (p : Poly) (budget : ℕ) (r : Roots) : Type 0 where
  pub sound : (IsZero (reading p) → ⊥) → status_of r.outcome ≡ 0 → (i : ℕ) → i < r.len → IsRoot (reading p) (rat (entry r i))
  pub complete : (IsZero (reading p) → ⊥) → status_of r.outcome ≡ 0 → (x : Rat) → IsRoot (reading p) x → Stands x r
  pub rising : (i : ℕ) → suc i < r.len → Less (rat (entry r i)) (rat (entry r (suc i)))
  pub lowest : (i : ℕ) → i < r.len → Lowest (entry r i)
  -- a refusal has no entry; the zero polynomial is answered and has none, and nothing is tried
  pub refused : (status_of r.outcome ≡ 0 → ⊥) → r.len ≡ 0
  pub of_zero : door_of p ≡ Open → budget_door budget ≡ Open → IsZero (reading p) → (status_of r.outcome ≡ 0) × (r.len ≡ 0) × (r.tried ≡ 0)
  -- no more than the degree
  pub few : (n : ℕ) → HasDegree (reading p) n → r.len ≤ n
  pub candidates : r.tried ≤ candidates_price budget
  pub price : (n : ℕ) → HasDegree (reading p) n → r.steps ≤ 3 * (n + 1) * r.tried

-- no search of this degree and budget takes more than was quoted; and what came through the door has a quote
pub record QuotesRoots (n budget : ℕ) (q : Result Quote Reason) : Type 0 where
  pub bounds : (p : Poly) → HasDegree (reading p) n → (m : Quote) → q ≡ Ok m → ((rational_roots_of p budget).tried ≤ m.candidates) × ((rational_roots_of p budget).steps ≤ m.steps)
  -- a listing of a tries the numbers up to the root of its size; a search makes two
  pub trials : (a b : ℤ) → status_of (listing_of a budget).outcome ≡ 0 → status_of (listing_of b budget).outcome ≡ 0
      → (x y : ℕ) → Root (nat_abs a) x → Root (nat_abs b) y → (m : Quote) → q ≡ Ok m → x + y ≤ m.trials
  pub quoted : (p : Poly) → door_of p ≡ Open → budget_door budget ≡ Open → HasDegree (reading p) n → (why : Reason) → q ≡ Err why → ⊥

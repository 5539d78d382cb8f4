-- Demand 2 for the chain and the count (document 01, module 6): the chain is what its definition says; the count is the number of sign changes at the left end less that at the right, along the chain of a square-free part. Floats may miss a root, so that nothing is said of roots.
use Rattle.ratio.specs.Refusal.{status_of}
use Rattle.std.specs.Prelude.{◌≡◌, true, false, ◌&&◌, List, [], map, ℕ, ◌+◌, ◌-◌, ◌≤◌, ◌<◌, Float, length, get_or}
use Rattle.algebra.specs.Rational.{Rat}
use Rattle.algebra.specs.Textbook.{HasDegree, IsZero, Divides, IsRoot}
use Rattle.ratio.specs.declared.Ratio.{Ratio}
use Rattle.terms.specs.declared.Poly.{Poly}
use Rattle.terms.specs.Meaning.{rats}
use Rattle.terms.specs.Poly.{poly_of}
use Rattle.poly.specs.declared.Gate.TheVariants.{Open, Bad}
use Rattle.poly.specs.Door.{door_of}
use Rattle.poly.specs.Promise.{reading}
use Rattle.chain.specs.declared.Chain.{Chain}
use Rattle.chain.specs.Answer.{entries_of}
use Rattle.chain.specs.Promise.{IsChain}
use Rattle.sturm.specs.declared.Count.{Count}
use Rattle.sturm.specs.Changes.{changes}
use Rattle.sturm.specs.Along.{rows_of, signs_at}
use Rattle.sturm.specs.Count.{inside}

pub record ChainPromise (p : Poly) (r : Chain) : Type 0 where
  pub is : status_of r.outcome ≡ 0 → IsChain (reading p) (map rats (entries_of r))
  -- every place holds a canonical polynomial, zero where it is not used
  pub canonical : (i : ℕ) → door_of (get_or r.polys i (poly_of [])) ≡ Open
  -- no more polynomials than the degree says
  pub few : (n : ℕ) → HasDegree (reading p) n → length (entries_of r) ≤ n + 1
  pub refused : (status_of r.outcome ≡ 0 → ⊥) → entries_of r ≡ []
  -- what came through the door is refused with 2 alone
  pub over : door_of p ≡ Open → (status_of r.outcome ≡ 0 → ⊥) → status_of r.outcome ≡ 2

-- n sign changes are lost between the ends, along the chain of a part of f that has the same roots
pub record Counts (f : List Rat) (lo hi : Float) (n : ℕ) : Type 0 where
  pub part : List Ratio
  pub chain : List (List Ratio)
  pub divides : (IsZero f → ⊥) → Divides (rats part) f
  pub roots_kept : (IsZero f → ⊥) → (x : Rat) → IsRoot f x → IsRoot (rats part) x
  pub roots-only : (IsZero f → ⊥) → (x : Rat) → IsRoot (rats part) x → IsRoot f x
  pub is-chain : IsChain (rats part) (map rats chain)
  pub number : n ≡ changes (signs_at (rows_of chain) lo) - changes (signs_at (rows_of chain) hi)

pub record CountPromise (p : Poly) (lo hi : Float) (r : Count) : Type 0 where
  pub counts : status_of r.outcome ≡ 0 → Counts (reading p) lo hi r.count
  -- no more than the degree says; of zero none
  pub few : (n : ℕ) → HasDegree (reading p) n → r.count ≤ n
  pub of_zero : IsZero (reading p) → r.count ≡ 0
  pub refused : (status_of r.outcome ≡ 0 → ⊥) → r.count ≡ 0
  -- 5 for an end that is not within ±1e15 and for what isn't canonical, before 4 for a length over 32; then 2 alone
  pub ends : (inside lo && inside hi) ≡ false → status_of r.outcome ≡ 5
  pub bad : door_of p ≡ Bad → status_of r.outcome ≡ 5
  pub long : (inside lo && inside hi) ≡ true → 32 < p.len → status_of r.outcome ≡ 4
  pub over : (inside lo && inside hi) ≡ true → door_of p ≡ Open → (status_of r.outcome ≡ 0 → ⊥) → status_of r.outcome ≡ 2

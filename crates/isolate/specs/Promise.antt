-- Demand 2 for the isolation of real roots (document 01, module 6): the roots come from brackets found along the chain of a square-free part. Floats may miss a root, so that nothing is said of the reals.
use Rattle.ratio.specs.Refusal.{status_of}
use Rattle.std.specs.Prelude.{◌≡◌, true, false, List, [], map, ◌<◌, Float}
use Rattle.algebra.specs.Rational.{Rat}
use Rattle.algebra.specs.Textbook.{IsZero, Divides, IsRoot}
use Rattle.ratio.specs.declared.Ratio.{Ratio}
use Rattle.terms.specs.declared.Poly.{Poly}
use Rattle.terms.specs.Meaning.{rats}
use Rattle.poly.specs.declared.Gate.TheVariants.{Open}
use Rattle.poly.specs.Door.{door_of}
use Rattle.poly.specs.Promise.{reading}
use Rattle.yun.specs.Got.{got}
use Rattle.chain.specs.Promise.{IsChain}
use Rattle.sturm.specs.Value.{floats_of}
use Rattle.sturm.specs.Along.{rows_of}
use Rattle.bisect.specs.declared.Bracket.{Bracket}
use Rattle.bisect.specs.Bisect.{bisect_of}
use Rattle.isolate.specs.declared.Isolation.{Isolation}
use Rattle.isolate.specs.Answer.{roots_in}
use Rattle.isolate.specs.Sorted.{roots_onto}
use Rattle.isolate.specs.Apart.{apart_onto}
use Rattle.isolate.specs.Isolate.{within}

-- l holds the roots of brackets along the chain of a part of f that has the same roots
pub record Isolates (f : List Rat) (lo hi tol : Float) (l : List Float) : Type 0 where
  pub part : List Ratio
  pub chain : List (List Ratio)
  pub brackets : List Bracket
  pub divides : (IsZero f → ⊥) → Divides (rats part) f
  pub roots_kept : (IsZero f → ⊥) → (x : Rat) → IsRoot f x → IsRoot (rats part) x
  pub roots-only : (IsZero f → ⊥) → (x : Rat) → IsRoot (rats part) x → IsRoot f x
  pub is-chain : IsChain (rats part) (map rats chain)
  pub found : bisect_of (rows_of chain) lo hi tol ≡ got brackets
  pub roots : l ≡ apart_onto tol (roots_onto (floats_of part) tol brackets []) []

pub record IsolationPromise (p : Poly) (lo hi tol : Float) (r : Isolation) : Type 0 where
  pub isolates : status_of r.outcome ≡ 0 → Isolates (reading p) lo hi tol (roots_in r)
  pub refused : (status_of r.outcome ≡ 0 → ⊥) → roots_in r ≡ []
  -- 5 for an end or a tolerance outside its limits, before 4 for a length over 32
  pub limits : within lo hi tol ≡ false → status_of r.outcome ≡ 5
  pub long : within lo hi tol ≡ true → 32 < p.len → status_of r.outcome ≡ 4
  -- then 2, 4 and 7 alone
  pub over : within lo hi tol ≡ true → door_of p ≡ Open → (status_of r.outcome ≡ 0 → ⊥) → (status_of r.outcome ≡ 2 → ⊥) → (status_of r.outcome ≡ 4 → ⊥) → status_of r.outcome ≡ 7

-- How often a root is one: a polynomial that is not zero is a power of x − r times one that is not zero at r.
use mathlib.Core.Path.{◌≡◌, sym, ◌∙◌, subst}
use mathlib.Core.Logic.{◌≢◌}
use mathlib.Core.List.{[], ◌∷◌}
use Prim.Native.Nat.{ℕ, zero, suc}
use native.Mathlib.Omega.{arith}
use Rattle.algebra.proofs.Ring.{CRing, Domain, pow, by1, one-mul}
use Rattle.algebra.proofs.Reflect.{ring!, reify}
use Rattle.algebra.proofs.Poly.{Poly, Poly-ring, mul_p, nil_p}
use Rattle.algebra.proofs.Degree.{HasDeg, degree-of}
use Rattle.algebra.proofs.Evaluation.{ev}
use Rattle.algebra.proofs.Roots.{linear, root-divides, linear-quotient}

module _ {A : Type 0} (D : Domain A) where
  abbrev R : CRing A
  R = D.ring

  -- p = (x − r)ᵐ h, and r is no root of h
  pub record Multiplicity (p : Poly R) (r : A) : Type 0 where
    pub times : ℕ
    pub rest : Poly R
    pub is : p ≡ mul_p R (pow (Poly-ring R) (linear R r) times) rest
    pub no-root : ev R rest r ≢ R.nil

  no-times : (p : Poly R) (r : A) → ev R p r ≢ R.nil → Multiplicity p r
  unfolding pow
  no-times p r h = record { times = 0; rest = p; is = sym (one-mul (Poly-ring R) p); no-root = h }

  one_more : (p q : Poly R) (r : A) → p ≡ mul_p R q (linear R r) → Multiplicity q r → Multiplicity p r
  unfolding pow
  one_more p q r e z = record {
    times = suc z.times;
    rest = z.rest;
    is = e ∙ by1 (Poly-ring R) (linear R r) z.is
        (ring! (Poly-ring R) (q ∷ linear R r ∷ z.rest ∷ pow (Poly-ring R) (linear R r) z.times ∷ []) (search reify depth 30 fits 20000) tt);
    no-root = z.no-root;
  }

  try-root : (p : Poly R) (r : A) (n : ℕ) → HasDeg R p n → ((m : ℕ) (q : Poly R) → n ≡ suc m → HasDeg R q m → Multiplicity q r) → Multiplicity p r
  try-root p r n d rec = go (D.discrete (ev R p r) R.nil)
    where
      go : Dec (ev R p r ≡ R.nil) → Multiplicity p r
      go (no f) = no-times p r f
      go (yes e) =
          let (q, f) = root-divides D p r e in
          let (m, g) = linear-quotient D p q r n d f in
          one_more p q r f (rec m q g.1 g.0)

  multiplicity-from : (n : ℕ) (p : Poly R) → HasDeg R p n → (r : A) → Multiplicity p r
  multiplicity-from zero p d r = try-root p r 0 d (λ m q e h. absurd (omega arith))
  multiplicity-from (suc n) p d r = try-root p r (suc n) d (λ m q e h. multiplicity-from n q (subst (HasDeg R q) (omega arith) h) r)

  pub multiplicity : (p : Poly R) → p ≢ nil_p R → (r : A) → Multiplicity p r
  multiplicity p h r = let (n, d) = degree-of D p h in multiplicity-from n p d r

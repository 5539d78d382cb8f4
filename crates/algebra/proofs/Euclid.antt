-- The greatest common divisor of two polynomials over a field, with its cofactors.
use mathlib.Core.Path.{◌≡◌, sym, subst}
use Prim.Native.Nat.{ℕ, zero, suc, ◌<◌}
use native.Mathlib.Omega.{arith}
use Rattle.algebra.proofs.Ring.{CRing, Field, Field-domain}
use Rattle.algebra.proofs.Series.{Below}
use Rattle.algebra.proofs.Poly.{Poly, nil_p, Poly-ring, nil-below}
use Rattle.algebra.proofs.Degree.{Size, null, sized, size, length_p, length-below, deg-bound}
use Rattle.algebra.proofs.Division.{Division, divide}
use Rattle.algebra.proofs.Bezout.{Bezout, bez-nil, bez-step}

module _ {A : Type 0} (K : Field A) where
  abbrev R : CRing A
  R = K.ring

  by-nil : (a b : Poly R) → b ≡ nil_p R → Bezout (Poly-ring R) a b
  by-nil a b e = subst (Bezout (Poly-ring R) a) (sym e) (bez-nil (Poly-ring R) a)

  -- f bounds how many steps are left: b has no coefficient from f on
  euclid : (f : ℕ) (a b : Poly R) → Below R f b.0 → Bezout (Poly-ring R) a b
  euclid zero a b hb = by-nil a b (nil-below R b hb)
  euclid (suc f) a b hb = go (λ c hc. euclid f b c hc) (size (Field-domain K) b)
    where
      go : ((c : Poly R) → Below R f c.0 → Bezout (Poly-ring R) b c) → Size (Field-domain K) b → Bezout (Poly-ring R) a b
      go rec (null e) = by-nil a b e
      go rec (sized m d) =
          let z : Division R b m a = divide K b m d a in
          let l : m < suc f = deg-bound R b m (suc f) d hb in
          bez-step (Poly-ring R) a b z.quot z.rem z.is (rec z.rem (λ k h. z.small k (omega arith)))

  pub gcd_p : (a b : Poly R) → Bezout (Poly-ring R) a b
  gcd_p a b = euclid (length_p (Field-domain K) b) a b (length-below (Field-domain K) b)

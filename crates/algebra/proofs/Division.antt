-- Division of polynomials with remainder: it can be done over a field, and its outcome is the only one over a domain.
use mathlib.Core.Path.{◌≡◌, sym, ◌∙◌, ap}
use mathlib.Core.List.{[], ◌∷◌}
use Prim.Native.Nat.{ℕ, zero, suc, ◌≤◌, ◌-◌ as ◌-ⁿ◌}
use native.Mathlib.Omega.{arith}
use native.Mathlib.Decide.{dec_le, ℕ_discrete}
use Rattle.algebra.proofs.Ring.{CRing, Domain, Field, Field-domain, by1, by2, sub-nil}
use Rattle.algebra.proofs.Reflect.{ring!, reify}
use Rattle.algebra.proofs.Series.{mul_s, Below}
use Rattle.algebra.proofs.Poly.{Poly, add_p, mul_p, neg_p, nil_p, con_p, Poly-ring, mk-poly, nil-at}
use Rattle.algebra.proofs.Monomials.{mon_s, mon_p, mon-mul}
use Rattle.algebra.proofs.Divides.{Dvd}
use Rattle.algebra.proofs.Degree.{HasDeg, length_p, length-below, sum_below, neg-below}
use Rattle.algebra.proofs.PolyDomain.{short-multiple}

module _ {A : Type 0} (R : CRing A) where
  -- a = b q + r, and r has no coefficient from m on
  pub record Division (b : Poly R) (m : ℕ) (a : Poly R) : Type 0 where
    pub quot : Poly R
    pub rem : Poly R
    pub is : a ≡ add_p R (mul_p R b quot) rem
    pub small : Below R m rem.0

  -- b divides a exactly if nothing remains
  pub nil-rem : (b : Poly R) (m : ℕ) (a : Poly R) (z : Division b m a) → z.rem ≡ nil_p R → Dvd (Poly-ring R) b a
  nil-rem b m a z e = (z.quot, z.is ∙ by1 (Poly-ring R) (con_p R R.one) e (ring! (Poly-ring R) (b ∷ z.quot ∷ z.rem ∷ []) (search reify depth 30 fits 20000) tt))

module _ {A : Type 0} (D : Domain A) where
  abbrev R : CRing A
  R = D.ring

  module _ (b : Poly R) (m : ℕ) (d : HasDeg R b m) (a : Poly R) (x y : Division R b m a) where
    difference : mul_p R (add_p R x.quot (neg_p R y.quot)) b ≡ add_p R y.rem (neg_p R x.rem)
    difference = by1 (Poly-ring R) (con_p R R.one) (sym x.is ∙ y.is)
        (ring! (Poly-ring R) (b ∷ x.quot ∷ y.quot ∷ x.rem ∷ y.rem ∷ []) (search reify depth 30 fits 20000) tt)

    pub quot_unique : x.quot ≡ y.quot
    quot_unique = sub-nil (Poly-ring R) x.quot y.quot (short-multiple D (add_p R x.quot (neg_p R y.quot)) b m d short)
      where
        short : Below R m (mul_p R (add_p R x.quot (neg_p R y.quot)) b).0
        short k h = ap (λ z. z.0 k) difference ∙ sum_below R y.rem (neg_p R x.rem) m y.small (neg-below R x.rem m x.small) k h

    pub rem-unique : x.rem ≡ y.rem
    rem-unique = by2 (Poly-ring R) (con_p R R.one) (sym x.is ∙ y.is) (neg_p R b) quot_unique
        (ring! (Poly-ring R) (b ∷ x.quot ∷ y.quot ∷ x.rem ∷ y.rem ∷ []) (search reify depth 30 fits 20000) tt)

  pub rem-nil : (b : Poly R) (m : ℕ) → HasDeg R b m → (a : Poly R) (z : Division R b m a) → Dvd (Poly-ring R) b a → z.rem ≡ nil_p R
  rem-nil b m d a z (q, e) = rem-unique b m d a z (record { quot = q; rem = nil_p R; is = e ∙ ring! (Poly-ring R) (b ∷ q ∷ []) (search reify depth 30 fits 20000) tt; small = λ k h. nil-at R k })

module _ {A : Type 0} (K : Field A) where
  abbrev F : CRing A
  F = K.ring

  open F use {add as ◌+◌, mul as ◌*◌, neg as -◌, nil as 𝟘, one as 𝟙}

  infixl 60 ◌+◌
  infixl 70 ◌*◌
  infix 75 -◌
  module _ (b : Poly F) (m : ℕ) (d : HasDeg F b m) where
    -- one step: the leading coefficient goes
    factor : ℕ → Poly F → Poly F
    factor n a = mon_p F (a.0 n * K.inv (b.0 m)) (n -ⁿ m)

    less : ℕ → Poly F → Poly F
    less n a = add_p F a (neg_p F (mul_p F (factor n a) b))

    less-below : (n : ℕ) (a : Poly F) → m ≤ n → Below F (suc n) a.0 → Below F n (less n a).0
    unfolding less factor add_p neg_p mul_p mon_p mk-poly
    less-below n a g ha k h = go (ℕ_discrete k n)
      where
        c : A
        c = a.0 n * K.inv (b.0 m)

        go : Dec (k ≡ n) → a.0 k + - mul_s F (mon_s F c (n -ⁿ m)) b.0 k ≡ 𝟘
        go (yes e) =
            ap (λ z. a.0 k + - z) (mon-mul F c (n -ⁿ m) b.0 k m (omega arith))
            ∙ ap (λ z. a.0 z + - (c * b.0 m)) e
            ∙ by1 F (- a.0 n) (K.mul-inv (b.0 m) d.leads) (ring! F (a.0 n ∷ b.0 m ∷ K.inv (b.0 m) ∷ []) (search reify depth 30 fits 20000) tt)
        go (no f) =
            ap (λ z. a.0 k + - z) (mon-mul F c (n -ⁿ m) b.0 k (k -ⁿ (n -ⁿ m)) (omega arith))
            ∙ by2 F 𝟙 (ha k (omega arith)) (- c) (d.ends (k -ⁿ (n -ⁿ m)) (omega arith)) (ring! F (a.0 k ∷ c ∷ b.0 (k -ⁿ (n -ⁿ m)) ∷ []) (search reify depth 30 fits 20000) tt)

    done : (a : Poly F) → Below F m a.0 → Division F b m a
    done a h = record { quot = nil_p F; rem = a; is = ring! (Poly-ring F) (a ∷ b ∷ []) (search reify depth 30 fits 20000) tt; small = h }

    more : (n : ℕ) (a : Poly F) → Division F b m (less n a) → Division F b m a
    unfolding less
    more n a z = record {
      quot = add_p F z.quot (factor n a);
      rem = z.rem;
      is = by1 (Poly-ring F) (Poly-ring F).one z.is (ring! (Poly-ring F) (a ∷ b ∷ factor n a ∷ z.quot ∷ z.rem ∷ []) (search reify depth 30 fits 20000) tt);
      small = z.small;
    }

    divide-from : (n : ℕ) (a : Poly F) → Below F n a.0 → Division F b m a
    divide-from zero a ha = done a (λ k h. ha k (omega arith))
    divide-from (suc n) a ha = elim (dec_le m n) [
      | yes g ↦ more n a (divide-from n (less n a) (less-below n a g ha))
      | no f ↦ done a (λ k h. ha k (omega arith))
    ]

    pub divide : (a : Poly F) → Division F b m a
    divide a = divide-from (length_p (Field-domain K) a) a (length-below (Field-domain K) a)

-- The polynomials over a domain are a domain: the degrees of factors add up; and what divides what, by degrees.
use mathlib.Core.Path.{◌≡◌, refl, sym, ◌∙◌, ap, subst}
use mathlib.Core.Logic.{◌≢◌}
use mathlib.Core.List.{[], ◌∷◌}
use Prim.Native.Nat.{ℕ, zero, suc, ◌≤◌, ◌<◌, ◌+◌ as ◌+ⁿ◌, ◌*◌ as ◌*ⁿ◌}
use native.Mathlib.Omega.{arith}
use Rattle.algebra.proofs.Ring.{CRing, Domain, pow, by1, by2, nil-mul, sub-nil, mul-ne}
use Rattle.algebra.proofs.Reflect.{ring!, reify}
use Rattle.algebra.proofs.Series.{Below}
use Rattle.algebra.proofs.Poly.{Poly, add_p, mul_p, neg_p, nil_p, con_p, Poly-ring}
use Rattle.algebra.proofs.Constants.{con-of}
use Rattle.algebra.proofs.Divides.{Dvd, Coprime, coprime-unit}
use Rattle.algebra.proofs.Degree.{HasDeg, mul-lead, mul-below, deg-bound, deg-unique, deg-not-nil, deg-con, Size, null, sized, size}

module _ {A : Type 0} (D : Domain A) where
  abbrev R : CRing A
  R = D.ring

  -- the degree of a product
  pub deg-mul : (p q : Poly R) (m n : ℕ) → HasDeg R p m → HasDeg R q n → HasDeg R (mul_p R p q) (m +ⁿ n)
  deg-mul p q m n d e = record {
    leads = λ z. mul-ne D (p.0 m) (q.0 n) d.leads e.leads (sym (mul-lead R p q m n d.ends e.ends) ∙ z);
    ends = mul-below R p q m n d.ends e.ends;
  }

  pub deg-scaled : (c : A) (p : Poly R) (n : ℕ) → c ≢ R.nil → HasDeg R p n → HasDeg R (mul_p R (con_p R c) p) n
  deg-scaled c p n h d = subst (HasDeg R (mul_p R (con_p R c) p)) (omega arith) (deg-mul (con_p R c) p 0 n (deg-con R c h) d)

  -- the degree of a power
  pub deg-pow : (p : Poly R) (n k : ℕ) → HasDeg R p n → HasDeg R (pow (Poly-ring R) p k) (k *ⁿ n)
  unfolding pow
  deg-pow p n zero d = let none : 0 ≡ 0 *ⁿ n = omega arith in subst (HasDeg R (con_p R R.one)) none (deg-con R R.one D.proper)
  deg-pow p n (suc k) d =
      let more : k *ⁿ n +ⁿ n ≡ suc k *ⁿ n = omega arith in
      subst (HasDeg R (mul_p R (pow (Poly-ring R) p k) p)) more (deg-mul (pow (Poly-ring R) p k) p (k *ⁿ n) n (deg-pow p n k d) d)

  pub no-zero-div : (p q : Poly R) → q ≢ nil_p R → mul_p R p q ≡ nil_p R → p ≡ nil_p R
  no-zero-div p q h e = go (size D p) (size D q)
    where
      go : Size D p → Size D q → p ≡ nil_p R
      go (null z) s = z
      go (sized m d) (null z) = absurd (h z)
      go (sized m d) (sized n d') = absurd (deg-not-nil R (mul_p R p q) (m +ⁿ n) (deg-mul p q m n d d') e)

  pub P-cancel : (a b c : Poly R) → c ≢ nil_p R → mul_p R a c ≡ mul_p R b c → a ≡ b
  P-cancel a b c h e = sub-nil (Poly-ring R) a b (no-zero-div (add_p R a (neg_p R b)) c h
      (by1 (Poly-ring R) (con_p R R.one) e (ring! (Poly-ring R) (a ∷ b ∷ c ∷ []) (search reify depth 30 fits 20000) tt)))

  dec-nil : (p : Poly R) → Dec (p ≡ nil_p R)
  dec-nil p = go (size D p)
    where
      go : Size D p → Dec (p ≡ nil_p R)
      go (null z) = yes z
      go (sized n d) = no (deg-not-nil R p n d)

  pub P-discrete : Discrete (Poly R)
  P-discrete a b = go (dec-nil (add_p R a (neg_p R b)))
    where
      go : Dec (add_p R a (neg_p R b) ≡ nil_p R) → Dec (a ≡ b)
      go (yes e) = yes (sub-nil (Poly-ring R) a b e)
      go (no f) = no (λ e. f (by1 (Poly-ring R) (con_p R R.one) e (ring! (Poly-ring R) (a ∷ b ∷ []) (search reify depth 30 fits 20000) tt)))

  pub P-proper : con_p R R.one ≢ nil_p R
  P-proper = deg-not-nil R (con_p R R.one) 0 (deg-con R R.one D.proper)

  abbrev pub Poly-domain : Domain (Poly R)
  Poly-domain = record { ring = Poly-ring R; proper = P-proper; cancel = P-cancel; discrete = P-discrete }

  pub deg-adds : (r p q : Poly R) (k m n : ℕ) → r ≡ mul_p R p q → HasDeg R r k → HasDeg R p m → HasDeg R q n → k ≡ m +ⁿ n
  deg-adds r p q k m n e d x y = deg-unique R (mul_p R p q) k (m +ⁿ n) (subst (λ z. HasDeg R z k) e d) (deg-mul p q m n x y)

  -- factors of what has a degree have degrees
  pub record FactorDegrees (p q : Poly R) (k : ℕ) : Type 0 where
    pub left : ℕ
    pub right : ℕ
    pub deg-left : HasDeg R p left
    pub deg-right : HasDeg R q right
    pub adds : k ≡ left +ⁿ right

  pub deg-factors : (p q : Poly R) (k : ℕ) → HasDeg R (mul_p R p q) k → FactorDegrees p q k
  deg-factors p q k d = go (size D p) (size D q)
    where
      go : Size D p → Size D q → FactorDegrees p q k
      go (null z) s = absurd (deg-not-nil R (mul_p R p q) k d (ap (λ t. mul_p R t q) z ∙ nil-mul (Poly-ring R) q))
      go (sized m e) (null z) = absurd (deg-not-nil R (mul_p R p q) k d (ap (λ t. mul_p R p t) z ∙ ring! (Poly-ring R) (p ∷ []) (search reify depth 30 fits 20000) tt))
      go (sized m e) (sized n e') =
          record { left = m; right = n; deg-left = e; deg-right = e'; adds = deg-adds (mul_p R p q) p q k m n refl d e e' }

  -- a factor of a constant is a constant
  pub deg-zero-factor : (p q : Poly R) → HasDeg R (mul_p R p q) 0 → HasDeg R q 0
  deg-zero-factor p q d =
      let f = deg-factors p q 0 d in
      subst (HasDeg R q) (let z = f.adds in omega arith) f.deg-right

  -- a multiple that is shorter than what it is a multiple of is zero
  pub short-multiple : (q p : Poly R) (n : ℕ) → HasDeg R p n → Below R n (mul_p R q p).0 → q ≡ nil_p R
  short-multiple q p n d h = go (size D q)
    where
      go : Size D q → q ≡ nil_p R
      go (null z) = z
      go (sized m e) =
          let l : m +ⁿ n < n = deg-bound R (mul_p R q p) (m +ⁿ n) n (deg-mul q p m n e d) h in
          absurd (omega arith)

  -- a divisor has no larger degree
  pub dvd-degree : (d p : Poly R) (n : ℕ) → Dvd (Poly-ring R) d p → HasDeg R p n → (m : ℕ) × (HasDeg R d m × (m ≤ n))
  dvd-degree d p n (q, e) h =
      let f : FactorDegrees q d n = deg-factors q d n (subst (λ z. HasDeg R z n) e h) in
      (f.right, (f.deg-right, let s = f.adds in omega arith))

  -- what divides a constant that is not 0 is a constant
  pub dvd-constant : (d : Poly R) (c : A) → c ≢ R.nil → Dvd (Poly-ring R) d (con_p R c) → HasDeg R d 0
  dvd-constant d c h (q, e) = deg-zero-factor q d (subst (λ z. HasDeg R z 0) e (deg-con R c h))

  -- so nothing but constants divides two coprime polynomials
  pub coprime-constant : (a b d : Poly R) → Coprime (Poly-ring R) a b → Dvd (Poly-ring R) d a → Dvd (Poly-ring R) d b → HasDeg R d 0
  coprime-constant a b d c h k = dvd-constant d R.one D.proper (coprime-unit (Poly-ring R) a b d c h k)

  -- polynomials that divide each other differ by a constant factor
  pub associates : (p q : Poly R) → q ≢ nil_p R → Dvd (Poly-ring R) q p → Dvd (Poly-ring R) p q → (c : A) × ((c ≢ R.nil) × (p ≡ mul_p R (con_p R c) q))
  associates p q h (a, e) (b, f) =
      let unit : mul_p R b a ≡ con_p R R.one =
      P-cancel (mul_p R b a) (con_p R R.one) q h
      (by2 (Poly-ring R) (neg_p R b) e (neg_p R (con_p R R.one)) f (ring! (Poly-ring R) (a ∷ b ∷ p ∷ q ∷ []) (search reify depth 30 fits 20000) tt)) in
      let d : HasDeg R a 0 = deg-zero-factor b a (subst (λ z. HasDeg R z 0) (sym unit) (deg-con R R.one D.proper)) in
      (a.0 0, (d.leads, e ∙ ap (λ z. mul_p R z q) (con-of R a d.ends)))

-- Over a field: constant factors change no divisibility, every polynomial has a monic form, and the monic greatest common divisor.
use mathlib.Core.Path.{◌≡◌, refl, sym, ◌∙◌, ap}
use mathlib.Core.Logic.{◌≢◌}
use mathlib.Core.List.{[], ◌∷◌}
use Rattle.algebra.proofs.Ring.{CRing, Field, Field-domain, nil-mul, mul-nil, by1, by2}
use Rattle.algebra.proofs.Reflect.{ring!, reify}
use Rattle.algebra.proofs.Bezout.{Bezout}
use Rattle.algebra.proofs.Divides.{Dvd, Coprime, dvd-unit, unit-dvd, dvd-mul-l, dvd_trans, dvd-right}
use Rattle.algebra.proofs.Poly.{Poly, mul_p, neg_p, nil_p, con_p, Poly-ring}
use Rattle.algebra.proofs.Constants.{con-mul, con-mul-at, con-of}
use Rattle.algebra.proofs.Degree.{HasDeg, degree-of}
use Rattle.algebra.proofs.Monic.{MonicP}
use Rattle.algebra.proofs.Euclid.{gcd_p}

module _ {A : Type 0} (K : Field A) where
  abbrev F : CRing A
  F = K.ring

  pub con-unit : (c : A) → c ≢ F.nil → mul_p F (con_p F c) (con_p F (K.inv c)) ≡ con_p F F.one
  con-unit c h = sym (con-mul F c (K.inv c)) ∙ ap (con_p F) (K.mul-inv c h)

  -- a constant factor changes nothing in what divides what
  pub scaled-dvd : (c : A) (d p : Poly F) → c ≢ F.nil → Dvd (Poly-ring F) d p → Dvd (Poly-ring F) (mul_p F (con_p F c) d) p
  scaled-dvd c d p h = dvd-unit (Poly-ring F) (con_p F c) (con_p F (K.inv c)) d p (con-unit c h)

  pub unscaled-dvd : (c : A) (d p : Poly F) → Dvd (Poly-ring F) (mul_p F (con_p F c) d) p → Dvd (Poly-ring F) d p
  unscaled-dvd c d p h = dvd_trans (Poly-ring F) d (mul_p F (con_p F c) d) p (dvd-right (Poly-ring F) d (con_p F c)) h

  pub dvd-scaled : (c : A) (d p : Poly F) → Dvd (Poly-ring F) d p → Dvd (Poly-ring F) d (mul_p F (con_p F c) p)
  dvd-scaled c d p = dvd-mul-l (Poly-ring F) d p (con_p F c)

  pub dvd-unscaled : (c : A) (d p : Poly F) → c ≢ F.nil → Dvd (Poly-ring F) d (mul_p F (con_p F c) p) → Dvd (Poly-ring F) d p
  dvd-unscaled c d p h = unit-dvd (Poly-ring F) (con_p F c) (con_p F (K.inv c)) d p (con-unit c h)

  -- p divided by its leading coefficient
  pub record MonicForm (p : Poly F) : Type 0 where
    pub lead : A
    pub lead-ne : lead ≢ F.nil
    pub form : Poly F
    pub monic : MonicP F form
    pub is : p ≡ mul_p F (con_p F lead) form
    pub inverse : form ≡ mul_p F (con_p F (K.inv lead)) p

  pub monic-form : (p : Poly F) → p ≢ nil_p F → MonicForm p
  monic-form p h =
      let (n, d) = degree-of (Field-domain K) p h in
      record {
        lead = p.0 n;
        lead-ne = d.leads;
        form = mul_p F (con_p F (K.inv (p.0 n))) p;
        monic = record {
          degree = n;
          leads = con-mul-at F (K.inv (p.0 n)) p n ∙ F.mul_comm (K.inv (p.0 n)) (p.0 n) ∙ K.mul-inv (p.0 n) d.leads;
          ends = λ k l. con-mul-at F (K.inv (p.0 n)) p k ∙ ap (F.mul (K.inv (p.0 n))) (d.ends k l) ∙ mul-nil F (K.inv (p.0 n));
        };
        is = by1 (Poly-ring F) (neg_p F p) (con-unit (p.0 n) d.leads)
            (ring! (Poly-ring F) (p ∷ con_p F (p.0 n) ∷ con_p F (K.inv (p.0 n)) ∷ []) (search reify depth 30 fits 20000) tt);
        inverse = refl;
      }

  pub record MonicGcd (a b : Poly F) : Type 0 where
    pub bezout : Bezout (Poly-ring F) a b
    pub monic : MonicP F bezout.g

  bez-nil-only : (a b : Poly F) (z : Bezout (Poly-ring F) a b) → z.g ≡ nil_p F → (a ≡ nil_p F) × (b ≡ nil_p F)
  bez-nil-only a b z e = (
    z.div-a ∙ ap (λ t. mul_p F t z.a') e ∙ nil-mul (Poly-ring F) z.a',
    z.div-b ∙ ap (λ t. mul_p F t z.b') e ∙ nil-mul (Poly-ring F) z.b',
  )

  -- there is a monic one unless both are zero
  pub monic-gcd : (a b : Poly F) → (a ≡ nil_p F → b ≡ nil_p F → ⊥) → MonicGcd a b
  monic-gcd a b h =
      let z : Bezout (Poly-ring F) a b = gcd_p K a b in
      let m : MonicForm z.g = monic-form z.g (λ e. h (bez-nil-only a b z e).0 (bez-nil-only a b z e).1) in
      let c : Poly F = con_p F (K.inv m.lead) in
      record {
        bezout = record {
          g = m.form;
          u = mul_p F c z.u;
          v = mul_p F c z.v;
          a' = mul_p F (con_p F m.lead) z.a';
          b' = mul_p F (con_p F m.lead) z.b';
          comb = by2 (Poly-ring F) (con_p F F.one) m.inverse c z.comb
              (ring! (Poly-ring F) (a ∷ b ∷ c ∷ m.form ∷ z.g ∷ z.u ∷ z.v ∷ []) (search reify depth 30 fits 20000) tt);
          div-a = by2 (Poly-ring F) (con_p F F.one) z.div-a z.a' m.is
              (ring! (Poly-ring F) (a ∷ con_p F m.lead ∷ m.form ∷ z.g ∷ z.a' ∷ []) (search reify depth 30 fits 20000) tt);
          div-b = by2 (Poly-ring F) (con_p F F.one) z.div-b z.b' m.is
              (ring! (Poly-ring F) (b ∷ con_p F m.lead ∷ m.form ∷ z.g ∷ z.b' ∷ []) (search reify depth 30 fits 20000) tt);
        };
        monic = m.monic;
      }

  -- a constant greatest common divisor
  pub constant-coprime : (a b : Poly F) (z : Bezout (Poly-ring F) a b) → HasDeg F z.g 0 → Coprime (Poly-ring F) a b
  constant-coprime a b z d =
      let c : A = z.g.0 0 in
      let i : Poly F = con_p F (K.inv c) in (
        mul_p F z.u i,
        mul_p F z.v i,
        by2 (Poly-ring F) (neg_p F i) (sym (con-of F z.g d.ends) ∙ z.comb) (con_p F F.one) (con-unit c d.leads)
            (ring! (Poly-ring F) (a ∷ b ∷ i ∷ con_p F c ∷ z.u ∷ z.v ∷ []) (search reify depth 30 fits 20000) tt),
      )

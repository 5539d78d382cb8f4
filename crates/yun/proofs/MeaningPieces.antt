-- Lists of factors as products over the rationals: one more factor, the degree, and how many there can be.
use mathlib.Core.Path.{◌≡◌, refl, sym, ap, ap₂, subst, ◌∙◌}
use mathlib.Core.List.{List, [], ◌∷◌, ◌++◌}
use Prim.Native.Nat.{ℕ, suc, ◌+◌, ◌-◌, ◌*◌, ◌≤◌, ◌<◌}
use native.Mathlib.Nat.{mul-pos, mul-le-mul_right}
use native.Mathlib.Omega.{arith}
use lib.ListN.{length}
use Rattle.algebra.specs.Rational.{Rat}
use Rattle.algebra.specs.Polynomial.{product}
use Rattle.algebra.proofs.Ring.{pow}
use Rattle.algebra.proofs.Rational.{ℚ-ring, ℚ-domain, 1ℚ}
use Rattle.algebra.proofs.Poly.{con_p, Poly-ring}
use Rattle.algebra.proofs.Divides.{Dvd}
use Rattle.algebra.proofs.Degree.{HasDeg, deg-con}
use Rattle.algebra.proofs.PolyDomain.{deg-mul, deg-pow}
use Rattle.algebra.proofs.Monic.{MonicP}
use Rattle.algebra.proofs.Lists.{ℚP, ◌*P◌, poly, poly-one, poly-product, poly-power}
use Rattle.algebra.proofs.ListWords.{monic-from, degree-to, degree-from, divides-to}
use Rattle.ratio.specs.declared.Ratio.{Ratio}
use Rattle.terms.specs.Poly.{terms_of, poly_of}
use Rattle.terms.proofs.Meaning.{poly_r}
use Rattle.terms.proofs.MeaningCanonical.{Canonical, canonical-degree}
use Rattle.yun.specs.declared.Piece.{Piece}
use Rattle.yun.specs.Promise.{factor, degree_of, powers, bases, degrees, Every, Rising, SquareFree, IsFactor}
use Rattle.yun.proofs.MeaningRound.{SquareFreeP}

-- what every factor is: n coefficients or 2, whichever is less, are the least it has
pub record Fine (n : ℕ) (p : Piece) : Type 0 where
  pub canonical : Canonical (terms_of p.poly)
  pub made : p.poly ≡ poly_of (terms_of p.poly)
  pub monic : MonicP ℚ-ring (poly_r (terms_of p.poly))
  pub some : 1 ≤ length (terms_of p.poly)
  pub long : 2 ≤ n → 2 ≤ length (terms_of p.poly)

-- ---- the product

pub powers_p : List Piece → ℚP
powers_p [] = con_p ℚ-ring 1ℚ
powers_p (p ∷ l) = pow (Poly-ring ℚ-ring) (poly_r (terms_of p.poly)) p.times *P powers_p l

pub powers-none : powers_p [] ≡ con_p ℚ-ring 1ℚ
unfolding powers_p
powers-none = refl

pub powers-poly : (l : List Piece) → poly (powers l) ≡ powers_p l
unfolding powers_p powers
powers-poly [] = poly-one
powers-poly (p ∷ l) = poly-product _ (powers l) ∙ ap₂ ◌*P◌ (poly-power (factor p) p.times) (powers-poly l)

pub powers-more : (l : List Piece) (p : Piece) → powers_p (l ++ (p ∷ [])) ≡ powers_p l *P pow (Poly-ring ℚ-ring) (poly_r (terms_of p.poly)) p.times
unfolding powers_p
powers-more [] p = (Poly-ring ℚ-ring).mul_comm (pow (Poly-ring ℚ-ring) (poly_r (terms_of p.poly)) p.times) (con_p ℚ-ring 1ℚ)
powers-more (q ∷ l) p =
    let x : ℚP = pow (Poly-ring ℚ-ring) (poly_r (terms_of q.poly)) q.times in
    let y : ℚP = pow (Poly-ring ℚ-ring) (poly_r (terms_of p.poly)) p.times in
    ap (λ z. x *P z) (powers-more l p) ∙ sym ((Poly-ring ℚ-ring).mul_assoc x (powers_p l) y)

-- each taken once
pub bases_p : List Piece → ℚP
bases_p [] = con_p ℚ-ring 1ℚ
bases_p (p ∷ l) = poly_r (terms_of p.poly) *P bases_p l

pub bases-none : bases_p [] ≡ con_p ℚ-ring 1ℚ
unfolding bases_p
bases-none = refl

pub bases-poly : (l : List Piece) → poly (bases l) ≡ bases_p l
unfolding bases_p bases
bases-poly [] = poly-one
bases-poly (p ∷ l) = poly-product (factor p) (bases l) ∙ ap (λ z. poly (factor p) *P z) (bases-poly l)

pub bases-more : (l : List Piece) (p : Piece) → bases_p (l ++ (p ∷ [])) ≡ bases_p l *P poly_r (terms_of p.poly)
unfolding bases_p
bases-more [] p = (Poly-ring ℚ-ring).mul_comm (poly_r (terms_of p.poly)) (con_p ℚ-ring 1ℚ)
bases-more (q ∷ l) p =
    let x : ℚP = poly_r (terms_of q.poly) in
    ap (λ z. x *P z) (bases-more l p) ∙ sym ((Poly-ring ℚ-ring).mul_assoc x (bases_p l) (poly_r (terms_of p.poly)))

pub square-free-from : (p : List Rat) → SquareFreeP (poly p) → SquareFree p
square-free-from p h d n g z = h (poly d) n (degree-to d (suc n) g) (subst (λ q. Dvd (Poly-ring ℚ-ring) q (poly p)) (poly-product d d) (divides-to (product d d) p z))

-- ---- every factor

pub every_more : (P : Piece → Type 0) (l : List Piece) (p : Piece) → Every P l → P p → Every P (l ++ (p ∷ []))
every_more P [] p h x = (x, tt)
every_more P (q ∷ l) p h x = (h.0, every_more P l p h.1 x)

pub every_map : (P Q : Piece → Type 0) → ((p : Piece) → P p → Q p) → (l : List Piece) → Every P l → Every Q l
every_map P Q f [] h = tt
every_map P Q f (p ∷ l) h = (f p h.0, every_map P Q f l h.1)

-- one that occurs more often than the others
pub rising-more : (k i : ℕ) (l : List Piece) (p : Piece) → p.times ≡ i → Rising k l → Every (λ q. q.times < i) l → k ≤ i → Rising k (l ++ (p ∷ []))
rising-more k i [] p e r b h = (omega arith, tt)
rising-more k i (q ∷ l) p e r b h = (r.0, rising-more (suc q.times) i l p e r.1 b.1 b.0)

-- ---- a factor

terms-degree : (l : List Ratio) → Canonical l → 1 ≤ length l → HasDeg ℚ-ring (poly_r l) (length l - 1)
terms-degree [] c h = absurd (omega arith)
terms-degree (x ∷ l) c h = let e : length l ≡ length (x ∷ l) - 1 = omega arith in subst (HasDeg ℚ-ring (poly_r (x ∷ l))) e (canonical-degree x l c)

module _ (n : ℕ) where
  fine-degree : (p : Piece) → Fine n p → HasDeg ℚ-ring (poly_r (terms_of p.poly)) (degree_of p)
  fine-degree p f = terms-degree (terms_of p.poly) f.canonical f.some

  fine-factor : (p : Piece) → Fine n p → IsFactor p
  fine-factor p f = record { monic = monic-from (factor p) f.monic; has-degree = degree-from (factor p) (degree_of p) (fine-degree p f) }

  pub every-factor : (l : List Piece) → Every (Fine n) l → Every IsFactor l
  every-factor [] h = tt
  every-factor (p ∷ l) h = (fine-factor p h.0, every-factor l h.1)

  pub every-proper : (l : List Piece) → 2 ≤ n → Every (Fine n) l → Every (λ p. 1 ≤ degree_of p) l
  every-proper [] g h = tt
  every-proper (p ∷ l) g h = (omega (arith, h.0.long g), every-proper l g h.1)

  -- ---- degrees

  pub powers-degree : (l : List Piece) → Every (Fine n) l → HasDeg ℚ-ring (powers_p l) (degrees l)
  unfolding powers_p degrees
  powers-degree [] h = deg-con ℚ-ring 1ℚ ℚ-domain.proper
  powers-degree (p ∷ l) h = deg-mul ℚ-domain _ (powers_p l) (p.times * degree_of p) (degrees l) (deg-pow ℚ-domain (poly_r (terms_of p.poly)) (degree_of p) p.times (fine-degree p h.0)) (powers-degree l h.1)

  pub degrees-many : (l : List Piece) (k : ℕ) → 2 ≤ n → Every (Fine n) l → Rising (suc k) l → length l ≤ degrees l
  unfolding degrees
  degrees-many [] k g h r = omega arith
  degrees-many (p ∷ l) k g h r =
      let d : 0 < degree_of p = omega (arith, h.0.long g) in
      let t : 0 < p.times = omega (arith, r.0) in
      omega (arith, mul-pos t d, degrees-many l p.times g h.1 r.1)

  -- no factor is longer than the degrees allow
  pub every-short : (l : List Piece) (k : ℕ) → Every (Fine n) l → Rising (suc k) l → Every (λ p. length (terms_of p.poly) ≤ suc (degrees l)) l
  unfolding degrees
  every-short [] k h r = tt
  every-short (p ∷ l) k h r =
      let t : 1 ≤ p.times = omega (arith, r.0) in (
        omega (arith, h.0.some, mul-le-mul_right (degree_of p) t),
        every_map (λ q. length (terms_of q.poly) ≤ suc (degrees l)) (λ q. length (terms_of q.poly) ≤ suc (p.times * degree_of p + degrees l)) (λ q e. omega arith) l (every-short l p.times h.1 r.1),
      )

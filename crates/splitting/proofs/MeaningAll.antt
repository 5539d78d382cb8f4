-- Splitting every factor of a square-free decomposition: the product stays the same, and every factor has degree at least 1.
use mathlib.Core.Path.{◌≡◌, refl, sym, ap, ap₂, subst, ◌∙◌}
use mathlib.Core.List.{List, [], ◌∷◌}
use Prim.Native.Nat.{ℕ, suc, ◌+◌, ◌-◌, ◌*◌, ◌≤◌}
use native.Mathlib.Nat.{mul-le-mul_right}
use native.Mathlib.Omega.{arith}
use lib.ListN.{length}
use Rattle.algebra.proofs.Ring.{pow}
use Rattle.algebra.proofs.Reflect.{ring!, reify}
use Rattle.algebra.proofs.Rational.{ℚ-ring, ℚ-domain, 1ℚ}
use Rattle.algebra.proofs.Poly.{Poly-ring}
use Rattle.algebra.proofs.Degree.{HasDeg, deg-con}
use Rattle.algebra.proofs.PolyDomain.{deg-mul, deg-pow}
use Rattle.algebra.proofs.Lists.{ℚP, ◌*P◌, poly-product, poly-power}
use Rattle.ratio.specs.declared.Ratio.{Ratio}
use Rattle.terms.specs.Poly.{terms_of, trim}
use Rattle.terms.proofs.Meaning.{poly_r}
use Rattle.terms.proofs.MeaningCanonical.{Canonical, canonical-degree}
use Rattle.yun.specs.declared.Piece.{Piece}
use Rattle.yun.specs.Got.{Got, got, none, then_got}
use Rattle.yun.specs.Promise.{factor, degree_of, powers, degrees, Every, Rising}
use Rattle.yun.proofs.MeaningPieces.{Fine, powers_p, powers-none, powers-poly}
use Rattle.splitting.specs.Split.{split_onto, split_all}
use Rattle.splitting.proofs.MeaningParts.{Part, monic, Ready}
use Rattle.splitting.proofs.MeaningSplit.{split-means}

pub powers-cons : (p : Piece) (l : List Piece) → powers_p (p ∷ l) ≡ pow (Poly-ring ℚ-ring) (poly_r (terms_of p.poly)) p.times *P powers_p l
unfolding powers
powers-cons p l = sym (powers-poly (p ∷ l)) ∙ poly-product _ (powers l) ∙ ap₂ ◌*P◌ (poly-power (factor p) p.times) (powers-poly l)

-- the degrees of the factors, each counted once
sizes : List Piece → ℕ
sizes [] = 0
sizes (p ∷ l) = degree_of p + sizes l

sizes-few : (k : ℕ) (l : List Piece) → Rising (suc k) l → sizes l ≤ degrees l
unfolding sizes degrees
sizes-few k [] h = omega arith
sizes-few k (p ∷ l) h = omega (arith, sizes-few p.times l h.1, mul-le-mul_right (degree_of p) h.0)

-- what a list of factors that is split comes to
pub record Refined (found all l : List Piece) : Type 0 where
  pub is : powers_p l ≡ powers_p found *P powers_p all
  pub parts : Every Part l

module _ (n budget : ℕ) where
  regroup : (a x y : ℚP) → (a *P x) *P y ≡ a *P (x *P y)
  regroup a x y = ring! (Poly-ring ℚ-ring) (a ∷ x ∷ y ∷ []) (search reify depth 30 fits 20000) tt

  module _ (p : Piece) (all : List Piece) (more : (found : List Piece) → Every Part found → length found + sizes all ≤ 31 → (l : List Piece) → split_all all budget found ≡ got l → Refined found all l)
      (fine : Fine n p) (found : List Piece) (parts : Every Part found) (room : length found + (degree_of p + sizes all) ≤ 31) where
    same : trim (terms_of p.poly) ≡ terms_of p.poly
    same = fine.canonical.trimmed

    ready : Ready found (trim (terms_of p.poly))
    ready = subst (Ready found) (sym same) (record {
      parts = parts;
      canonical = fine.canonical;
      some = fine.some;
      short = omega (arith, fine.some);
      sound = monic fine.monic;
      room = omega (arith, fine.some);
    })

    next : (g : Got (List Piece)) → split_onto (length (trim (terms_of p.poly))) (trim (terms_of p.poly)) p.times budget found ≡ g → (l : List Piece) → then_got g (λ m. split_all all budget m) ≡ got l → Refined found (p ∷ all) l
    next (got m) e l h =
        let g = split-means p.times budget (length (trim (terms_of p.poly))) (trim (terms_of p.poly)) found (omega arith) ready m e in
        let r = more m g.parts (omega (arith, g.few, ap length same, fine.some)) l h in
        record {
          is =
              r.is ∙ ap (λ t. t *P powers_p all) (g.is ∙ ap (λ t. powers_p found *P pow (Poly-ring ℚ-ring) (poly_r t) p.times) same)
              ∙ regroup (powers_p found) (pow (Poly-ring ℚ-ring) (poly_r (terms_of p.poly)) p.times) (powers_p all)
              ∙ ap (λ t. powers_p found *P t) (sym (powers-cons p all));
          parts = r.parts;
        }
    next (none why) e l h = absurd (let z : ◌≡◌ {A = ℕ} 0 1 = cc in omega arith)

  all-refined : (all found : List Piece) → Every (Fine n) all → Every Part found → length found + sizes all ≤ 31 → (l : List Piece) → split_all all budget found ≡ got l → Refined found all l
  unfolding split_all sizes
  all-refined [] found fine parts room l e =
      let z : found ≡ l = cc in
      record { is = ap powers_p (sym z) ∙ sym (ap (λ t. powers_p found *P t) powers-none ∙ (Poly-ring ℚ-ring).mul-one (powers_p found)); parts = subst (Every Part) z parts }
  all-refined (p ∷ all) found fine parts room l e =
      next p all (λ found parts room l e. all-refined all found fine.1 parts room l e) fine.0 found parts room (split_onto (length (trim (terms_of p.poly))) (trim (terms_of p.poly)) p.times budget found) refl l e

  pub split-all-means : (all : List Piece) → Every (Fine n) all → Rising 1 all → degrees all ≤ 31 → (l : List Piece) → split_all all budget [] ≡ got l → Refined [] all l
  split-all-means all fine rising room l e = all-refined all [] fine tt (omega (arith, sizes-few 0 all rising)) l e

-- ---- degrees

pub part-degree : (l : List Ratio) → Canonical l → 2 ≤ length l → HasDeg ℚ-ring (poly_r l) (length l - 1)
part-degree [] c h = absurd (omega arith)
part-degree (x ∷ l) c h = let e : length l ≡ length (x ∷ l) - 1 = omega arith in subst (HasDeg ℚ-ring (poly_r (x ∷ l))) e (canonical-degree x l c)

pub parts-degree : (l : List Piece) → Every Part l → HasDeg ℚ-ring (powers_p l) (degrees l)
unfolding degrees
parts-degree [] h = subst (λ t. HasDeg ℚ-ring t 0) (sym powers-none) (deg-con ℚ-ring 1ℚ ℚ-domain.proper)
parts-degree (p ∷ l) h =
    subst (λ t. HasDeg ℚ-ring t (p.times * degree_of p + degrees l)) (sym (powers-cons p l))
    (deg-mul ℚ-domain _ (powers_p l) (p.times * degree_of p) (degrees l) (deg-pow ℚ-domain (poly_r (terms_of p.poly)) (degree_of p) p.times (part-degree (terms_of p.poly) h.0.canonical h.0.long)) (parts-degree l h.1))

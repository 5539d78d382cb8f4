-- An answered gcd is the textbook's greatest common divisor: monic, common, greatest, and a combination of the two.
use mathlib.Core.Path.{◌≡◌, refl, sym, ap, subst, ◌∙◌}
use mathlib.Core.List.{List, [], ◌∷◌}
use Prim.Native.Nat.{ℕ, zero, suc, ◌≤◌}
use native.Mathlib.Omega.{arith}
use lib.ListN.{length}
use Rattle.algebra.specs.Textbook.{IsGcd}
use Rattle.algebra.proofs.Ring.{mul-nil, nil-mul, by2}
use Rattle.algebra.proofs.Reflect.{ring!, reify}
use Rattle.algebra.proofs.Rational.{ℚ, ℚ-ring, ℚ-domain, ℚ-field, ◌*ℚ◌, 0ℚ, 1ℚ, invℚ}
use Rattle.algebra.proofs.Poly.{nil_p, neg_p, con_p, Poly-ring}
use Rattle.algebra.proofs.Constants.{con-mul-at}
use Rattle.algebra.proofs.Divides.{Dvd, dvd-add, dvd-mul-l, dvd-whole}
use Rattle.algebra.proofs.Degree.{HasDeg}
use Rattle.algebra.proofs.Monic.{MonicP, monic-deg}
use Rattle.algebra.proofs.Gcd.{con-unit}
use Rattle.algebra.proofs.Lists.{ℚP, ◌+P◌, ◌*P◌, poly-empty}
use Rattle.algebra.proofs.ListWords.{gcd-from, combines-from}
use Rattle.ratio.specs.Refusal.{ratio_of}
use Rattle.ratio.specs.Step.{inv_of}
use Rattle.ratio.specs.declared.Ratio.{Ratio}
use Rattle.terms.specs.Machine.{fine, plain}
use Rattle.terms.specs.Meaning.{rats}
use Rattle.terms.specs.Work.{scaled}
use Rattle.terms.proofs.Meaning.{poly_r}
use Rattle.terms.proofs.MeaningStep.{both-answered}
use Rattle.terms.proofs.MeaningEach.{each-length}
use Rattle.terms.proofs.MeaningSum.{scaled-poly}
use Rattle.terms.proofs.MeaningLowest.{scaled-lowest}
use Rattle.terms.proofs.MeaningCanonical.{Canonical, canonical-degree, degree-canonical}
use Rattle.remainders.specs.Divide.{Split, divided, lead}
use Rattle.remainders.specs.Gcd.{monic, gcd_by, gcd_of}
use Rattle.remainders.proofs.MeaningDivision.{inverse-lead, cons-some, Divided, divided-poly, divided-means}

-- ---- scaling by the inverse lead

-- g is u over its leading coefficient c
pub record MonicOf (u g : List Ratio) : Type 0 where
  pub lead : ℚ
  pub lead-ne : lead ≡ 0ℚ → ⊥
  pub is : poly_r g ≡ con_p ℚ-ring (invℚ lead) *P poly_r u
  pub monic : MonicP ℚ-ring (poly_r g)
  pub canonical : Canonical g

scaled-length : (a : List Ratio) (c : Ratio) (n n' : ℕ) (l : List Ratio) → scaled plain a c n ≡ fine n' l → length l ≡ length a
unfolding scaled
scaled-length a c n n' l e = each-length _ (length a) 0 n n' l e

pub monic-means : (x : Ratio) (u : List Ratio) → Canonical (x ∷ u) → (n n' : ℕ) (g : List Ratio) → monic plain (x ∷ u) n ≡ fine n' g → MonicOf (x ∷ u) g
unfolding monic
monic-means x u c n n' g e =
    let r : Ratio = ratio_of (inv_of (lead plain (x ∷ u))) in
    let d : HasDeg ℚ-ring (poly_r (x ∷ u)) (length u) = canonical-degree x u c in
    let l : ℚ = (poly_r (x ∷ u)).0 (length u) in
    let p : poly_r g ≡ con_p ℚ-ring (invℚ l) *P poly_r (x ∷ u) = scaled-poly (x ∷ u) r n n' g e ∙ ap (λ z. con_p ℚ-ring z *P poly_r (x ∷ u)) (inverse-lead x u c) in
    let m : MonicP ℚ-ring (poly_r g) = record {
      degree = length u;
      leads = ap (λ z. z.0 (length u)) p ∙ con-mul-at ℚ-ring (invℚ l) (poly_r (x ∷ u)) (length u) ∙ ℚ-ring.mul_comm (invℚ l) l ∙ ℚ-field.mul-inv l d.leads;
      ends = λ k h. ap (λ z. z.0 k) p ∙ con-mul-at ℚ-ring (invℚ l) (poly_r (x ∷ u)) k ∙ ap (λ z. invℚ l *ℚ z) (d.ends k h) ∙ mul-nil ℚ-ring (invℚ l);
    } in
    record {
      lead = l;
      lead-ne = d.leads;
      is = p;
      monic = m;
      canonical = degree-canonical g (length u) (scaled-lowest (x ∷ u) r n n' g e) (scaled-length (x ∷ u) r n n' g e) (monic-deg ℚ-domain (poly_r g) m);
    }

-- u is c times g again
pub monic-back : (u g : List Ratio) (m : MonicOf u g) → poly_r u ≡ con_p ℚ-ring m.lead *P poly_r g
monic-back u g m =
    let c : ℚP = con_p ℚ-ring m.lead in
    let i : ℚP = con_p ℚ-ring (invℚ m.lead) in
    by2 (Poly-ring ℚ-ring) (neg_p ℚ-ring (poly_r u)) (con-unit ℚ-field m.lead m.lead-ne) (neg_p ℚ-ring c) m.is
    (ring! (Poly-ring ℚ-ring) (c ∷ i ∷ poly_r u ∷ poly_r g ∷ []) (search reify depth 30 fits 20000) tt)

-- ---- Euclid's loop

-- g is a common divisor of u and v, and a combination of them
pub record Euclid (u v g : List Ratio) : Type 0 where
  pub divides-u : Dvd (Poly-ring ℚ-ring) (poly_r g) (poly_r u)
  pub divides-v : Dvd (Poly-ring ℚ-ring) (poly_r g) (poly_r v)
  pub left : ℚP
  pub right : ℚP
  pub combines : poly_r g ≡ left *P poly_r u +P right *P poly_r v
  pub monic : MonicP ℚ-ring (poly_r g)
  pub canonical : Canonical g

-- nothing is left to divide by
last : (u g : List Ratio) → MonicOf u g → Euclid u [] g
last u g m =
    let c : ℚP = con_p ℚ-ring m.lead in
    let i : ℚP = con_p ℚ-ring (invℚ m.lead) in
    record {
      divides-u = (c, monic-back u g m);
      divides-v = (nil_p ℚ-ring, poly-empty ∙ sym (nil-mul (Poly-ring ℚ-ring) (poly_r g)));
      left = i;
      right = nil_p ℚ-ring;
      combines = m.is ∙ ring! (Poly-ring ℚ-ring) (i ∷ poly_r u ∷ poly_r [] ∷ []) (search reify depth 30 fits 20000) tt;
      monic = m.monic;
      canonical = m.canonical;
    }

-- one division more
before : (u v g : List Ratio) (s : Split Ratio) → Divided u v s → Euclid v s.rest g → Euclid u v g
before u v g s d z =
    let q : ℚP = poly_r s.quotient in
    let r : ℚP = poly_r s.rest in
    let e : poly_r u ≡ poly_r v *P q +P r = divided-poly u v s d in
    record {
      divides-u = dvd-whole (Poly-ring ℚ-ring) (poly_r g) (poly_r u) (poly_r v) q r e z.divides-u z.divides-v;
      divides-v = z.divides-u;
      left = z.right;
      right = z.left +P neg_p ℚ-ring (z.right *P q);
      combines = by2 (Poly-ring ℚ-ring) (con_p ℚ-ring 1ℚ) z.combines (neg_p ℚ-ring z.right) e
          (ring! (Poly-ring ℚ-ring) (poly_r g ∷ poly_r u ∷ poly_r v ∷ q ∷ r ∷ z.left ∷ z.right ∷ []) (search reify depth 30 fits 20000) tt);
      monic = z.monic;
      canonical = z.canonical;
    }

monic-last : (u : List Ratio) → Canonical u → (u ≡ [] → ⊥) → (n n' : ℕ) (g : List Ratio) → monic plain u n ≡ fine n' g → Euclid u [] g
monic-last [] c h n n' g e = absurd (h refl)
monic-last (x ∷ u) c h n n' g e = last (x ∷ u) g (monic-means x u c n n' g e)

pub gcd_by-means : (f : ℕ) (u v : List Ratio) → Canonical u → Canonical v → (u ≡ [] → v ≡ [] → ⊥) → length v ≤ f → (n n' : ℕ) (g : List Ratio) → gcd_by plain f u v n ≡ fine n' g → Euclid u v g
unfolding gcd_by
gcd_by-means zero u [] c c' h l n n' g e = monic-last u c (λ p. h p refl) n n' g e
gcd_by-means zero u (y ∷ v) c c' h l n n' g e = absurd (omega arith)
gcd_by-means (suc f) u [] c c' h l n n' g e = monic-last u c (λ p. h p refl) n n' g e
gcd_by-means (suc f) u (y ∷ v) c c' h l n n' g e =
    let s = both-answered (divided plain u (y ∷ v) n) _ n' g e in
    let d : Divided u (y ∷ v) s.got = divided-means u (y ∷ v) c c' (cons-some y v) n s.log s.got s.first in
    before u (y ∷ v) g s.got d
    (gcd_by-means f (y ∷ v) s.got.rest c' d.rest-canonical (λ p q. cons-some y v p) (omega (arith, d.shorter)) s.log n' g s.then)

-- ---- the gcd

euclid-gcd : (a b g : List Ratio) → Euclid a b g → IsGcd (rats a) (rats b) (rats g)
euclid-gcd a b g z =
    gcd-from (rats a) (rats b) (rats g)
    (record { monic = z.monic; divides-a = z.divides-u; divides-b = z.divides-v; greatest = greatest })
    (combines-from (rats a) (rats b) (rats g) z.left z.right z.combines)
  where
    greatest : (d : ℚP) → Dvd (Poly-ring ℚ-ring) d (poly_r a) → Dvd (Poly-ring ℚ-ring) d (poly_r b) → Dvd (Poly-ring ℚ-ring) d (poly_r g)
    greatest d x y = subst (Dvd (Poly-ring ℚ-ring) d) (sym z.combines)
        (dvd-add (Poly-ring ℚ-ring) d (z.left *P poly_r a) (z.right *P poly_r b) (dvd-mul-l (Poly-ring ℚ-ring) d (poly_r a) z.left x) (dvd-mul-l (Poly-ring ℚ-ring) d (poly_r b) z.right y))

module _ (a b : List Ratio) (ca : Canonical a) (cb : Canonical b) (some : a ≡ [] → b ≡ [] → ⊥) (k k' : ℕ) (g : List Ratio) (e : gcd_of plain a b k ≡ fine k' g) where
  pub gcd-euclid : Euclid a b g
  unfolding gcd_of
  gcd-euclid = gcd_by-means (length b) a b ca cb some (omega arith) k k' g e

  pub gcd-means : IsGcd (rats a) (rats b) (rats g)
  gcd-means = euclid-gcd a b g gcd-euclid

  pub gcd-canonical : Canonical g
  gcd-canonical = gcd-euclid.canonical

-- two zeros have no gcd: zero is handed back, at no step
pub gcd-of-zeros : (k : ℕ) → gcd_of plain [] [] k ≡ fine k []
unfolding gcd_of gcd_by monic
gcd-of-zeros k = refl

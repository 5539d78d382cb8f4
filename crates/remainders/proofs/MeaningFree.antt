-- An answered square-free part divides the polynomial and has the same roots.
use mathlib.Core.Path.{◌≡◌, refl, sym, ap, subst, ◌∙◌}
use mathlib.Core.Logic.{◌↔◌}
use mathlib.Core.List.{List, [], ◌∷◌}
use Prim.Native.Nat.{ℕ}
use Rattle.algebra.specs.Rational.{Rat}
use Rattle.algebra.specs.Textbook.{Divides, IsRoot}
use Rattle.algebra.proofs.Ring.{nil-mul, by2, by3}
use Rattle.algebra.proofs.Reflect.{ring!, reify}
use Rattle.algebra.proofs.Rational.{ℚ-ring, ℚ-field, 1ℚ, invℚ, val}
use Rattle.algebra.proofs.Characteristic.{rational-char}
use Rattle.algebra.proofs.Poly.{nil_p, neg_p, con_p, Poly-ring}
use Rattle.algebra.proofs.Divides.{Dvd, dvd_refl}
use Rattle.algebra.proofs.Gcd.{con-unit}
use Rattle.algebra.proofs.Derivative.{der_p}
use Rattle.algebra.proofs.Roots.{root-multiple}
use Rattle.algebra.proofs.SquareFree.{square-free-root}
use Rattle.algebra.proofs.Lists.{ℚP, ◌+P◌, ◌*P◌, poly-empty}
use Rattle.algebra.proofs.ListWords.{divides-from, root-to, root-from}
use Rattle.ratio.specs.declared.Ratio.{Ratio}
use Rattle.terms.specs.Machine.{fine, plain}
use Rattle.terms.specs.Meaning.{rats}
use Rattle.terms.specs.Poly.{trim}
use Rattle.terms.specs.Work.{derived}
use Rattle.terms.proofs.Meaning.{poly_r, poly_r-trim}
use Rattle.terms.proofs.MeaningStep.{both-answered, same_answer}
use Rattle.terms.proofs.MeaningSum.{derived-poly}
use Rattle.terms.proofs.MeaningLowest.{derived-lowest}
use Rattle.terms.proofs.MeaningCanonical.{Canonical, trim-canonical, canonical-some}
use Rattle.remainders.specs.Divide.{divided}
use Rattle.remainders.specs.Gcd.{gcd_of, monic_if, freed, square_free}
use Rattle.remainders.proofs.MeaningDivision.{cons-some, Divided, divided-poly, divided-means}
use Rattle.remainders.proofs.MeaningGcd.{MonicOf, monic-means, Euclid, gcd-euclid}

pub record SquareFreePart (f p : List Ratio) : Type 0 where
  pub divides : Divides (rats p) (rats f)
  pub same-roots : (x : Rat) → IsRoot (rats p) x ↔ IsRoot (rats f) x
  pub canonical : Canonical p

-- f itself
itself : (f : List Ratio) → Canonical f → SquareFreePart f f
itself f c = record { divides = divides-from (rats f) (rats f) (dvd_refl (Poly-ring ℚ-ring) (poly_r f)); same-roots = λ x. (λ r. r, λ r. r); canonical = c }

-- f over what it shares with its derivative, scaled
quotient-part : (f g q p : List Ratio) → (poly_r f ≡ nil_p ℚ-ring → ⊥) → poly_r f ≡ poly_r q *P poly_r g → Dvd (Poly-ring ℚ-ring) (poly_r g) (der_p ℚ-ring (poly_r f)) → MonicOf q p → SquareFreePart f p
quotient-part f g q p some e d m = record {
  divides = divides-from (rats p) (rats f) whole;
  same-roots = λ x. (
    λ r. root-from (rats f) x (root-multiple ℚ-ring (poly_r p) (poly_r f) (val x) whole (root-to (rats p) x r)),
    λ r. root-from (rats p) x (root-multiple ℚ-ring (poly_r q) (poly_r p) (val x) (con_p ℚ-ring (invℚ m.lead), m.is)
        (square-free-root ℚ-field rational-char (poly_r f) (poly_r q) (poly_r g) (val x) some e d (root-to (rats f) x r))),
  );
  canonical = m.canonical;
}
  where
    whole : Dvd (Poly-ring ℚ-ring) (poly_r p) (poly_r f)
    whole =
        let c : ℚP = con_p ℚ-ring m.lead in
        let i : ℚP = con_p ℚ-ring (invℚ m.lead) in (
          c *P poly_r g,
          by3 (Poly-ring ℚ-ring) (con_p ℚ-ring 1ℚ) e (neg_p ℚ-ring (poly_r q *P poly_r g)) (con-unit ℚ-field m.lead m.lead-ne) (neg_p ℚ-ring (c *P poly_r g)) m.is
              (ring! (Poly-ring ℚ-ring) (c ∷ i ∷ poly_r f ∷ poly_r g ∷ poly_r q ∷ poly_r p ∷ []) (search reify depth 30 fits 20000) tt),
        )

-- where nothing remains, quotient and divisor are the factors
pub nothing-remains : (f g q : List Ratio) → poly_r f ≡ poly_r g *P poly_r q +P poly_r [] → poly_r f ≡ poly_r q *P poly_r g
nothing-remains f g q e = by2 (Poly-ring ℚ-ring) (con_p ℚ-ring 1ℚ) e (con_p ℚ-ring 1ℚ) poly-empty
    (ring! (Poly-ring ℚ-ring) (poly_r f ∷ poly_r g ∷ poly_r q ∷ poly_r [] ∷ []) (search reify depth 30 fits 20000) tt)

module _ (f : List Ratio) (c : Canonical f) (some : poly_r f ≡ nil_p ℚ-ring → ⊥) where
  monic-part : (g q rest : List Ratio) → poly_r f ≡ poly_r g *P poly_r q +P poly_r rest → Dvd (Poly-ring ℚ-ring) (poly_r g) (der_p ℚ-ring (poly_r f)) → Canonical q
      → (n n' : ℕ) (p : List Ratio) → monic_if plain rest f q n ≡ fine n' p → SquareFreePart f p
  monic-part g [] [] e d cq n n' p h = absurd (some (nothing-remains f g [] e ∙ ap (λ z. z *P poly_r g) poly-empty ∙ nil-mul (Poly-ring ℚ-ring) (poly_r g)))
  monic-part g (y ∷ q) [] e d cq n n' p h = quotient-part f g (y ∷ q) p some (nothing-remains f g (y ∷ q) e) d (monic-means y q cq n n' p h)
  monic-part g q (r ∷ rs) e d cq n n' p h = subst (SquareFreePart f) (same_answer n n' f p h) (itself f c)

  freed-means : (g : List Ratio) → Canonical g → Dvd (Poly-ring ℚ-ring) (poly_r g) (der_p ℚ-ring (poly_r f)) → (n n' : ℕ) (p : List Ratio) → freed plain f g n ≡ fine n' p → SquareFreePart f p
  freed-means [] cg d n n' p e = subst (SquareFreePart f) (same_answer n n' f p e) (itself f c)
  freed-means (x ∷ []) cg d n n' p e = subst (SquareFreePart f) (same_answer n n' f p e) (itself f c)
  freed-means (x ∷ y ∷ l) cg d n n' p e =
      let g : List Ratio = x ∷ y ∷ l in
      let s = both-answered (divided plain f g n) _ n' p e in
      let z : Divided f g s.got = divided-means f g c cg (cons-some x (y ∷ l)) n s.log s.got s.first in
      monic-part g s.got.quotient s.got.rest (divided-poly f g s.got z) d z.quotient-canonical s.log n' p s.then

-- zeros at the top change nothing in what divides the derivative
divides-derivative : (f d g : List Ratio) → poly_r d ≡ der_p ℚ-ring (poly_r f) → Dvd (Poly-ring ℚ-ring) (poly_r g) (poly_r (trim d)) → Dvd (Poly-ring ℚ-ring) (poly_r (trim g)) (der_p ℚ-ring (poly_r f))
divides-derivative f d g p (k, e) = (k, sym (poly_r-trim d ∙ p) ∙ e ∙ ap (λ z. k *P z) (sym (poly_r-trim g)))

pub square-free-means : (f : List Ratio) → Canonical f → (f ≡ [] → ⊥) → (k k' : ℕ) (p : List Ratio) → square_free plain f k ≡ fine k' p → SquareFreePart f p
unfolding square_free
square-free-means [] c some k k' p e = absurd (some refl)
square-free-means (a ∷ f) c some k k' p e =
    let d = both-answered (derived plain (a ∷ f) k) _ k' p e in
    let g = both-answered (gcd_of plain (a ∷ f) (trim d.got) d.log) _ k' p d.then in
    let z : Euclid (a ∷ f) (trim d.got) g.got =
    gcd-euclid (a ∷ f) (trim d.got) c (trim-canonical d.got (derived-lowest (a ∷ f) k d.log d.got d.first)) (λ u v. cons-some a f u) d.log g.log g.got g.first in
    freed-means (a ∷ f) c (canonical-some a f c) (trim g.got) (trim-canonical g.got z.canonical.lowest)
    (divides-derivative (a ∷ f) d.got g.got (derived-poly (a ∷ f) k d.log d.got d.first) z.divides-v) g.log k' p g.then

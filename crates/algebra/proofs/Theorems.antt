-- What a textbook says of polynomials over the rationals, in the words of specs/: for lists of pairs of whole numbers, equal by cross products.
use mathlib.Core.Path.{◌≡◌, refl, sym, ◌∙◌, ap, ap₂, subst}
use mathlib.Core.Logic.{◌↔◌, ∥∥₁_elim}
use mathlib.Core.HLevel.{¬_prop}
use mathlib.Core.List.Pairwise
use mathlib.Core.List.{List, [], ◌∷◌, ◌++◌, map, Mem, Pairwise, exists_of_mem-map}
use Prim.Native.Nat.{ℕ, ◌≤◌}
use lib.IntN.{ℤ, pos}
use lib.ListN.{length, length-map}
use Rattle.algebra.specs.Rational.{Rat, Same, whole, add_q, mul_q}
use Rattle.algebra.specs.Polynomial.{Equal, sum, product, derivative, value}
use Rattle.algebra.specs.Textbook.{IsZero, HasDegree, Divides, IsDivision, IsGcd, IsRoot}
use Rattle.algebra.proofs.Whole.{ℤ-ring, ℤ-domain}
use Rattle.algebra.proofs.WholeDivides.{Dvdℤ, only-one-coprime}
use Rattle.algebra.proofs.Lowest.{LowestTerms}
use Rattle.algebra.proofs.Embedding.{into}
use Rattle.algebra.proofs.Rational.{ℚ-ring, ℚ-domain, ℚ-field, ◌+ℚ◌, ◌*ℚ◌, 0ℚ, val, val-fr, den-ne, same-val, val-add, val-mul, val-whole}
use Rattle.algebra.proofs.Poly.{Poly-ring}
use Rattle.algebra.proofs.Degree.{HasDeg, degree-of}
use Rattle.algebra.proofs.Division.{Division, divide, quot_unique, rem-unique}
use Rattle.algebra.proofs.Divides.{Dvd}
use Rattle.algebra.proofs.Bezout.{Bezout}
use Rattle.algebra.proofs.Monic.{IsGcdP, bez-is-gcd, gcd_p-unique}
use Rattle.algebra.proofs.Gcd.{MonicGcd, monic-gcd}
use Rattle.algebra.proofs.Evaluation.{ev, ev-add, ev-mul, horner, ev-poly_of}
use Rattle.algebra.proofs.Roots.{root-divides, divides-root, roots_few}
use Rattle.algebra.proofs.Derivative.{der_p, der-mul}
use Rattle.algebra.proofs.RationalRoot.{hom, root-constant, root-leading, fraction-hom}
use Rattle.algebra.proofs.Lists.{◌+P◌, ◌*P◌, poly, poly-of, poly-equal, poly-sum, poly-product, poly-derivative, val-value, list_of, poly-list_of, x_minus, poly-x_minus}
use Rattle.algebra.proofs.ListWords.{zero-from, degree-to, lower-to, lower-from, divides-to, divides-from, division-from, as-division, combines-from, gcd-to, gcd-from, root-to, root-from}

-- sums and products, by values and by derivatives
pub value-of-sum : (p q : List Rat) (x : Rat) → Same (value (sum p q) x) (add_q (value p x) (value q x))
value-of-sum p q x = same-val (value (sum p q) x) (add_q (value p x) (value q x))
    (val-value (sum p q) x ∙ ap (λ z. ev ℚ-ring z (val x)) (poly-sum p q) ∙ ev-add ℚ-ring (poly p) (poly q) (val x)
    ∙ sym (val-add (value p x) (value q x) ∙ ap₂ ◌+ℚ◌ (val-value p x) (val-value q x)))

pub value-of-product : (p q : List Rat) (x : Rat) → Same (value (product p q) x) (mul_q (value p x) (value q x))
value-of-product p q x = same-val (value (product p q) x) (mul_q (value p x) (value q x))
    (val-value (product p q) x ∙ ap (λ z. ev ℚ-ring z (val x)) (poly-product p q) ∙ ev-mul ℚ-ring (poly p) (poly q) (val x)
    ∙ sym (val-mul (value p x) (value q x) ∙ ap₂ ◌*ℚ◌ (val-value p x) (val-value q x)))

pub derivative-of-product : (p q : List Rat) → Equal (derivative (product p q)) (sum (product (derivative p) q) (product p (derivative q)))
derivative-of-product p q = poly-equal (derivative (product p q)) (sum (product (derivative p) q) (product p (derivative q)))
    (poly-derivative (product p q) ∙ ap (der_p ℚ-ring) (poly-product p q) ∙ der-mul ℚ-ring (poly p) (poly q)
    ∙ sym (poly-sum (product (derivative p) q) (product p (derivative q))
    ∙ ap₂ ◌+P◌ (poly-product (derivative p) q ∙ ap (λ z. z *P poly q) (poly-derivative p)) (poly-product p (derivative q) ∙ ap (λ z. poly p *P z) (poly-derivative q))))

-- division with remainder: it can be done unless the divisor is zero, and has one outcome
pub division-exists : (a b : List Rat) → (IsZero b → ⊥) → (q : List Rat) × (r : List Rat) × IsDivision a b q r
division-exists a b h =
    let (n, d) = degree-of ℚ-domain (poly b) (λ e. h (zero-from b e)) in
    let z : Division ℚ-ring (poly b) n (poly a) = divide ℚ-field (poly b) n d (poly a) in
    let r : List Rat = list_of z.rem in
    let q : List Rat = list_of z.quot in (
      q,
      r,
      division-from a b q r
          (z.is ∙ ap₂ ◌+P◌ ((Poly-ring ℚ-ring).mul_comm (poly b) z.quot ∙ ap (λ t. t *P poly b) (sym (poly-list_of z.quot))) (sym (poly-list_of z.rem)))
          (lower-from r b n d (λ k l. ap (λ t. t.0 k) (poly-list_of z.rem) ∙ z.small k l)),
    )

pub division-unique : (a b q r q' r' : List Rat) → IsDivision a b q r → IsDivision a b q' r' → Equal q q' × Equal r r'
unfolding as-division
division-unique a b q r q' r' x y =
    let n : ℕ = x.lower.degree in
    let d : HasDeg ℚ-ring (poly b) n = (lower-to r b x.lower).0 in
    let v : Division ℚ-ring (poly b) n (poly a) = as-division a b q r x n d in
    let w : Division ℚ-ring (poly b) n (poly a) = as-division a b q' r' y n d in
    (poly-equal q q' (quot_unique ℚ-domain (poly b) n d (poly a) v w), poly-equal r r' (rem-unique ℚ-domain (poly b) n d (poly a) v w))

-- the greatest common divisor: there is one unless both are zero, and one alone
pub gcd-exists : (a b : List Rat) → (IsZero a → IsZero b → ⊥) → (g : List Rat) × IsGcd a b g
gcd-exists a b h =
    let m : MonicGcd ℚ-field (poly a) (poly b) = monic-gcd ℚ-field (poly a) (poly b) (λ e f. h (zero-from a e) (zero-from b f)) in
    let z : Bezout (Poly-ring ℚ-ring) (poly a) (poly b) = m.bezout in
    let g : List Rat = list_of z.g in (
      g,
      gcd-from a b g (subst (IsGcdP ℚ-domain (poly a) (poly b)) (sym (poly-list_of z.g)) (bez-is-gcd ℚ-domain (poly a) (poly b) z m.monic))
          (combines-from a b g z.u z.v (poly-list_of z.g ∙ z.comb ∙ ap₂ ◌+P◌ ((Poly-ring ℚ-ring).mul_comm (poly a) z.u) ((Poly-ring ℚ-ring).mul_comm (poly b) z.v))),
    )

pub gcd-unique : (a b g h : List Rat) → IsGcd a b g → IsGcd a b h → Equal g h
gcd-unique a b g h x y = poly-equal g h (gcd_p-unique ℚ-domain (poly a) (poly b) (poly g) (poly h) (gcd-to a b g x) (gcd-to a b h y))

-- the factor theorem: r is a root exactly if x − r divides
pub factor-theorem : (p : List Rat) (r : Rat) → IsRoot p r ↔ Divides (x_minus r) p
factor-theorem p r = (
  λ h. divides-from (x_minus r) p (subst (λ d. Dvd (Poly-ring ℚ-ring) d (poly p)) (sym (poly-x_minus r)) (root-divides ℚ-domain (poly p) (val r) (root-to p r h))),
  λ h. root-from p r (divides-root ℚ-ring (poly p) (val r) (subst (λ d. Dvd (Poly-ring ℚ-ring) d (poly p)) (poly-x_minus r) (divides-to (x_minus r) p h))),
)

-- a polynomial of degree n has no more than n roots
pub few-roots : (p : List Rat) (n : ℕ) → HasDegree p n → (l : List Rat) → Pairwise (λ x y. Same x y → ⊥) l → ((x : Rat) → Mem x l → IsRoot p x) → length l ≤ n
few-roots p n d l different roots =
    subst (λ k. k ≤ n) (length-map l val)
    (roots_few ℚ-domain (poly p) n (degree-to p n d) (map val l) (Pairwise.map (λ a b. ¬_prop) val (λ a b h e. h (same-val a b e)) different)
    (λ x m. ∥∥₁_elim (exists_of_mem-map m) (ℚ-ring.is_set (ev ℚ-ring (poly p) x) 0ℚ) (λ (a, i, e). subst (λ z. ev ℚ-ring (poly p) z ≡ 0ℚ) e (root-to p a (roots a i)))))

-- the rational root theorem, for a list of whole numbers and a root in lowest terms
map_whole : (l : List ℤ) → map val (map whole l) ≡ map (into ℤ-domain) l
map_whole [] = refl
map_whole (a ∷ l) = ap₂ ◌∷◌ (val-whole a) (map_whole l)

whole-root : (l : List ℤ) (x : Rat) → IsRoot (map whole l) x → hom ℤ-ring l x.num (pos x.den) ≡ pos 0
whole-root l x h = fraction-hom ℤ-domain l x.num (pos x.den) (den-ne x)
    (sym (ap₂ (horner ℚ-ring) (map_whole l) (val-fr x)) ∙ sym (ev-poly_of ℚ-ring (map val (map whole l)) (val x)) ∙ ap (λ z. ev ℚ-ring z (val x)) (sym (poly-of (map whole l))) ∙ root-to (map whole l) x h)

pub root-numerator : (a : ℤ) (l : List ℤ) (x : Rat) → LowestTerms x → IsRoot (map whole (a ∷ l)) x → Dvdℤ x.num a
root-numerator a l x low h = root-constant ℤ-ring a l x.num (pos x.den) (only-one-coprime x.num (pos x.den) low) (whole-root (a ∷ l) x h)

pub root-denominator : (l : List ℤ) (b : ℤ) (x : Rat) → LowestTerms x → IsRoot (map whole (l ++ (b ∷ []))) x → Dvdℤ (pos x.den) b
root-denominator l b x low h = root-leading ℤ-ring l b x.num (pos x.den) (only-one-coprime x.num (pos x.den) low) (whole-root (l ++ (b ∷ [])) x h)

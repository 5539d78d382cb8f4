-- The words of specs/Textbook and the same words for polynomials: what a list is, its polynomial is (…-to), and the other way round (…-from).
use mathlib.Core.Path.{◌≡◌, sym, ◌∙◌, ap, ap₂, subst}
use mathlib.Core.List.{List}
use Prim.Native.Nat.{ℕ, suc}
use Rattle.algebra.specs.Rational.{Rat, Same, zero_q, one_q}
use Rattle.algebra.specs.Polynomial.{coeff, sum, product, value}
use Rattle.algebra.specs.Textbook.{EndsBelow, IsZero, HasDegree, Lower, Monic, Divides, IsDivision, Combines, IsGcd, IsRoot}
use Rattle.algebra.proofs.Rational.{ℚ, ℚ-ring, ℚ-domain, 0ℚ, 1ℚ, val, val_same, same-val, val-zero, val-one}
use Rattle.algebra.proofs.Series.{Below}
use Rattle.algebra.proofs.Poly.{Poly-ring, nil_p, nil-at, nil-below}
use Rattle.algebra.proofs.Divides.{Dvd}
use Rattle.algebra.proofs.Degree.{HasDeg, deg-unique}
use Rattle.algebra.proofs.Division.{Division}
use Rattle.algebra.proofs.Monic.{MonicP, IsGcdP}
use Rattle.algebra.proofs.Evaluation.{ev}
use Rattle.algebra.proofs.Lists.{ℚP, ◌+P◌, ◌*P◌, poly, poly-at, equal-poly, poly-equal, poly-sum, poly-product, val-value, list_of, poly-list_of}

-- a coefficient is c
at-to : (p : List Rat) (i : ℕ) (c : Rat) (x : ℚ) → val c ≡ x → Same (coeff p i) c → (poly p).0 i ≡ x
at-to p i c x e h = poly-at p i ∙ val_same (coeff p i) c h ∙ e

at_from : (p : List Rat) (i : ℕ) (c : Rat) (x : ℚ) → val c ≡ x → (poly p).0 i ≡ x → Same (coeff p i) c
at_from p i c x e h = same-val (coeff p i) c (sym (poly-at p i) ∙ h ∙ sym e)

pub ends-to : (n : ℕ) (p : List Rat) → EndsBelow n p → Below ℚ-ring n (poly p).0
ends-to n p h i l = at-to p i zero_q 0ℚ val-zero (h i l)

pub ends-from : (n : ℕ) (p : List Rat) → Below ℚ-ring n (poly p).0 → EndsBelow n p
ends-from n p h i l = at_from p i zero_q 0ℚ val-zero (h i l)

pub zero-to : (p : List Rat) → IsZero p → poly p ≡ nil_p ℚ-ring
zero-to p h = nil-below ℚ-ring (poly p) (ends-to 0 p h)

pub zero-from : (p : List Rat) → poly p ≡ nil_p ℚ-ring → IsZero p
zero-from p e = ends-from 0 p (λ i l. ap (λ z. z.0 i) e ∙ nil-at ℚ-ring i)

pub degree-to : (p : List Rat) (n : ℕ) → HasDegree p n → HasDeg ℚ-ring (poly p) n
degree-to p n d = record { leads = λ e. d.leads (at_from p n zero_q 0ℚ val-zero e); ends = ends-to (suc n) p d.ends }

pub degree-from : (p : List Rat) (n : ℕ) → HasDeg ℚ-ring (poly p) n → HasDegree p n
degree-from p n d = record { leads = λ e. d.leads (at-to p n zero_q 0ℚ val-zero e); ends = ends-from (suc n) p d.ends }

pub lower-to : (r b : List Rat) (l : Lower r b) → HasDeg ℚ-ring (poly b) l.degree × Below ℚ-ring l.degree (poly r).0
lower-to r b l = (degree-to b l.degree l.of-divisor, ends-to l.degree r l.ends)

pub lower-from : (r b : List Rat) (n : ℕ) → HasDeg ℚ-ring (poly b) n → Below ℚ-ring n (poly r).0 → Lower r b
lower-from r b n d h = record { degree = n; of-divisor = degree-from b n d; ends = ends-from n r h }

pub monic-to : (p : List Rat) → Monic p → MonicP ℚ-ring (poly p)
monic-to p m = record { degree = m.degree; leads = at-to p m.degree one_q 1ℚ val-one m.leads; ends = ends-to (suc m.degree) p m.ends }

pub monic-from : (p : List Rat) → MonicP ℚ-ring (poly p) → Monic p
monic-from p m = record { degree = m.degree; leads = at_from p m.degree one_q 1ℚ val-one m.leads; ends = ends-from (suc m.degree) p m.ends }

pub divides-to : (d p : List Rat) → Divides d p → Dvd (Poly-ring ℚ-ring) (poly d) (poly p)
divides-to d p h = (poly h.quotient, equal-poly p (product h.quotient d) h.is ∙ poly-product h.quotient d)

pub divides-from : (d p : List Rat) → Dvd (Poly-ring ℚ-ring) (poly d) (poly p) → Divides d p
divides-from d p (q, e) = record {
  quotient = list_of q;
  is = poly-equal p (product (list_of q) d) (e ∙ sym (poly-product (list_of q) d ∙ ap (λ z. z *P poly d) (poly-list_of q)));
}

-- q b + r
division-poly : (b q r : List Rat) → poly (sum (product q b) r) ≡ poly q *P poly b +P poly r
division-poly b q r = poly-sum (product q b) r ∙ ap (λ z. z +P poly r) (poly-product q b)

pub division-to : (a b q r : List Rat) → IsDivision a b q r → poly a ≡ poly q *P poly b +P poly r
division-to a b q r h = equal-poly a (sum (product q b) r) h.is ∙ division-poly b q r

pub division-from : (a b q r : List Rat) → poly a ≡ poly q *P poly b +P poly r → Lower r b → IsDivision a b q r
division-from a b q r e l = record { is = poly-equal a (sum (product q b) r) (e ∙ sym (division-poly b q r)); lower = l }

-- over the polynomials of a and b, whatever degree of b is given
unfoldable pub as-division : (a b q r : List Rat) → IsDivision a b q r → (n : ℕ) → HasDeg ℚ-ring (poly b) n → Division ℚ-ring (poly b) n (poly a)
as-division a b q r h n d =
    let (e, s) = lower-to r b h.lower in
    record {
      quot = poly q;
      rem = poly r;
      is = division-to a b q r h ∙ ap (λ z. z +P poly r) ((Poly-ring ℚ-ring).mul_comm (poly q) (poly b));
      small = subst (λ m. Below ℚ-ring m (poly r).0) (deg-unique ℚ-ring (poly b) h.lower.degree n e d) s;
    }

-- s a + t b
combination-poly : (a b s t : List Rat) → poly (sum (product s a) (product t b)) ≡ poly s *P poly a +P poly t *P poly b
combination-poly a b s t = poly-sum (product s a) (product t b) ∙ ap₂ ◌+P◌ (poly-product s a) (poly-product t b)

pub combines-to : (a b g : List Rat) (h : Combines a b g) → poly g ≡ poly h.left *P poly a +P poly h.right *P poly b
combines-to a b g h = equal-poly g (sum (product h.left a) (product h.right b)) h.is ∙ combination-poly a b h.left h.right

pub combines-from : (a b g : List Rat) (s t : ℚP) → poly g ≡ s *P poly a +P t *P poly b → Combines a b g
combines-from a b g s t e = record {
  left = list_of s;
  right = list_of t;
  is = poly-equal g (sum (product (list_of s) a) (product (list_of t) b))
      (e ∙ sym (combination-poly a b (list_of s) (list_of t) ∙ ap₂ (λ x y. x *P poly a +P y *P poly b) (poly-list_of s) (poly-list_of t)));
}

pub gcd-to : (a b g : List Rat) → IsGcd a b g → IsGcdP ℚ-domain (poly a) (poly b) (poly g)
gcd-to a b g h = record {
  monic = monic-to g h.monic;
  divides-a = divides-to g a h.divides-a;
  divides-b = divides-to g b h.divides-b;
  greatest = λ d x y. listed d (h.greatest (list_of d) (unlisted d a x) (unlisted d b y));
}
  where
    listed : (d : ℚP) → Divides (list_of d) g → Dvd (Poly-ring ℚ-ring) d (poly g)
    listed d x = subst (λ z. Dvd (Poly-ring ℚ-ring) z (poly g)) (poly-list_of d) (divides-to (list_of d) g x)

    unlisted : (d : ℚP) (p : List Rat) → Dvd (Poly-ring ℚ-ring) d (poly p) → Divides (list_of d) p
    unlisted d p x = divides-from (list_of d) p (subst (λ z. Dvd (Poly-ring ℚ-ring) z (poly p)) (sym (poly-list_of d)) x)

pub gcd-from : (a b g : List Rat) → IsGcdP ℚ-domain (poly a) (poly b) (poly g) → Combines a b g → IsGcd a b g
gcd-from a b g h c = record {
  monic = monic-from g h.monic;
  divides-a = divides-from g a h.divides-a;
  divides-b = divides-from g b h.divides-b;
  greatest = λ d x y. divides-from d g (h.greatest (poly d) (divides-to d a x) (divides-to d b y));
  combines = c;
}

pub root-to : (p : List Rat) (x : Rat) → IsRoot p x → ev ℚ-ring (poly p) (val x) ≡ 0ℚ
root-to p x h = sym (val-value p x) ∙ val_same (value p x) zero_q h ∙ val-zero

pub root-from : (p : List Rat) (x : Rat) → ev ℚ-ring (poly p) (val x) ≡ 0ℚ → IsRoot p x
root-from p x e = same-val (value p x) zero_q (val-value p x ∙ e ∙ sym val-zero)

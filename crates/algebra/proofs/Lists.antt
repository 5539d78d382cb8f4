-- Lists of pairs read as polynomials over the rationals: the operations of specs/Polynomial are those of the ring of polynomials.
use mathlib.Core.Path.{◌≡◌, refl, sym, ◌∙◌, ap, ap₂}
use mathlib.Core.List.{List, [], ◌∷◌, map}
use Prim.Native.Nat.{ℕ, zero, suc, ◌+◌}
use native.Mathlib.Omega.{arith}
use lib.IntN.{pos}
use lib.ListN.{get_or}
use Rattle.algebra.specs.Rational.{Rat, whole, zero_q, one_q, add_q, mul_q, neg_q}
use Rattle.algebra.specs.Polynomial.{coeff, Equal, sum, scaled, negated, product, power, weighted, derivative, value}
use Rattle.algebra.proofs.Ring.{nat, pow, nil-add, mul-nil, nil-mul, neg-nil}
use Rattle.algebra.proofs.Reflect.{ring!, reify}
use Rattle.algebra.proofs.Rational.{ℚ, ℚ-ring, ℚ-domain, ◌+ℚ◌, ◌*ℚ◌, 0ℚ, 1ℚ, val, val_same, same-val, val-zero, val-one, val-add, val-mul, val-neg, nat-ℚ}
use Rattle.algebra.proofs.Canon.{rep, val-rep}
use Rattle.algebra.proofs.Poly.{Poly, add_p, mul_p, neg_p, nil_p, con_p, Poly-ring, poly-ext}
use Rattle.algebra.proofs.Constants.{con-nil, con-add, con-mul, con-neg}
use Rattle.algebra.proofs.Monomials.{X}
use Rattle.algebra.proofs.Listed.{poly_of, poly_of-cons, poly_of-at, to_list, poly_of-to_list}
use Rattle.algebra.proofs.Evaluation.{ev, horner, ev-poly_of}
use Rattle.algebra.proofs.Roots.{linear}
use Rattle.algebra.proofs.Derivative.{der_p, der-at}

abbrev pub ℚP : Type 0
ℚP = Poly ℚ-ring

infixl 60 ◌+P◌
abbrev pub ◌+P◌ : ℚP → ℚP → ℚP
◌+P◌ = add_p ℚ-ring

infixl 70 ◌*P◌
abbrev pub ◌*P◌ : ℚP → ℚP → ℚP
◌*P◌ = mul_p ℚ-ring

pub poly : List Rat → ℚP
poly p = poly_of ℚ-ring (map val p)

pub poly-of : (p : List Rat) → poly p ≡ poly_of ℚ-ring (map val p)
unfolding poly
poly-of p = refl

pub poly-empty : poly [] ≡ nil_p ℚ-ring
unfolding poly poly_of
poly-empty = refl

-- a + x p
pub poly-cons : (a : Rat) (p : List Rat) → poly (a ∷ p) ≡ con_p ℚ-ring (val a) +P X ℚ-ring *P poly p
unfolding poly
poly-cons a p = poly_of-cons ℚ-ring (val a) (map val p)

-- the coefficients
pub poly-at : (p : List Rat) (i : ℕ) → (poly p).0 i ≡ val (coeff p i)
unfolding poly coeff
poly-at p i = poly_of-at ℚ-ring (map val p) i ∙ go p i
  where
    go : (p : List Rat) (i : ℕ) → get_or (map val p) i 0ℚ ≡ val (coeff p i)
    go [] i = sym val-zero
    go (a ∷ p) zero = refl
    go (a ∷ p) (suc i) = go p i

-- equal lists are one polynomial
pub equal-poly : (p q : List Rat) → Equal p q → poly p ≡ poly q
equal-poly p q h = poly-ext ℚ-ring (poly p) (poly q) (λ i. poly-at p i ∙ val_same (coeff p i) (coeff q i) (h i) ∙ sym (poly-at q i))

pub poly-equal : (p q : List Rat) → poly p ≡ poly q → Equal p q
poly-equal p q e i = same-val (coeff p i) (coeff q i) (sym (poly-at p i) ∙ ap (λ z. z.0 i) e ∙ poly-at q i)

pub equal-refl : (p : List Rat) → Equal p p
equal-refl p = poly-equal p p refl

pub equal-sym : (p q : List Rat) → Equal p q → Equal q p
equal-sym p q h = poly-equal q p (sym (equal-poly p q h))

pub equal-trans : (p q r : List Rat) → Equal p q → Equal q r → Equal p r
equal-trans p q r h k = poly-equal p r (equal-poly p q h ∙ equal-poly q r k)

-- a list by what its first coefficient and the rest are
cons-is : (a : Rat) (p : List Rat) {c z : ℚP} → con_p ℚ-ring (val a) ≡ c → poly p ≡ z → poly (a ∷ p) ≡ c +P X ℚ-ring *P z
cons-is a p e f = poly-cons a p ∙ ap₂ (λ c z. c +P X ℚ-ring *P z) e f

pub poly-constant : (c : Rat) → poly (c ∷ []) ≡ con_p ℚ-ring (val c)
poly-constant c = cons-is c [] refl poly-empty ∙ ring! (Poly-ring ℚ-ring) (con_p ℚ-ring (val c) ∷ X ℚ-ring ∷ []) (search reify depth 30 fits 20000) tt

-- x p
pub poly-shifted : (p : List Rat) → poly (zero_q ∷ p) ≡ X ℚ-ring *P poly p
poly-shifted p = cons-is zero_q p (ap (con_p ℚ-ring) val-zero ∙ con-nil ℚ-ring) refl ∙ nil-add (Poly-ring ℚ-ring) (X ℚ-ring *P poly p)

-- the operations
pub poly-sum : (p q : List Rat) → poly (sum p q) ≡ poly p +P poly q
unfolding sum
poly-sum [] q = sym (ap (λ z. z +P poly q) poly-empty ∙ nil-add (Poly-ring ℚ-ring) (poly q))
poly-sum (a ∷ p) [] = sym (ap (λ z. poly (a ∷ p) +P z) poly-empty ∙ (Poly-ring ℚ-ring).add-nil (poly (a ∷ p)))
poly-sum (a ∷ p) (b ∷ q) =
    cons-is (add_q a b) (sum p q) (ap (con_p ℚ-ring) (val-add a b) ∙ con-add ℚ-ring (val a) (val b)) (poly-sum p q)
    ∙ ring! (Poly-ring ℚ-ring) (con_p ℚ-ring (val a) ∷ con_p ℚ-ring (val b) ∷ X ℚ-ring ∷ poly p ∷ poly q ∷ []) (search reify depth 30 fits 20000) tt
    ∙ sym (ap₂ ◌+P◌ (poly-cons a p) (poly-cons b q))

pub poly-scaled : (c : Rat) (p : List Rat) → poly (scaled c p) ≡ con_p ℚ-ring (val c) *P poly p
unfolding scaled
poly-scaled c [] = poly-empty ∙ sym (ap (λ z. con_p ℚ-ring (val c) *P z) poly-empty ∙ mul-nil (Poly-ring ℚ-ring) (con_p ℚ-ring (val c)))
poly-scaled c (a ∷ p) =
    cons-is (mul_q c a) (scaled c p) (ap (con_p ℚ-ring) (val-mul c a) ∙ con-mul ℚ-ring (val c) (val a)) (poly-scaled c p)
    ∙ ring! (Poly-ring ℚ-ring) (con_p ℚ-ring (val a) ∷ con_p ℚ-ring (val c) ∷ X ℚ-ring ∷ poly p ∷ []) (search reify depth 30 fits 20000) tt
    ∙ sym (ap (λ z. con_p ℚ-ring (val c) *P z) (poly-cons a p))

pub poly-negated : (p : List Rat) → poly (negated p) ≡ neg_p ℚ-ring (poly p)
unfolding negated
poly-negated [] = poly-empty ∙ sym (ap (neg_p ℚ-ring) poly-empty ∙ neg-nil (Poly-ring ℚ-ring))
poly-negated (a ∷ p) =
    cons-is (neg_q a) (negated p) (ap (con_p ℚ-ring) (val-neg a) ∙ con-neg ℚ-ring (val a)) (poly-negated p)
    ∙ ring! (Poly-ring ℚ-ring) (con_p ℚ-ring (val a) ∷ X ℚ-ring ∷ poly p ∷ []) (search reify depth 30 fits 20000) tt
    ∙ sym (ap (neg_p ℚ-ring) (poly-cons a p))

pub poly-product : (p q : List Rat) → poly (product p q) ≡ poly p *P poly q
unfolding product
poly-product [] q = poly-empty ∙ sym (ap (λ z. z *P poly q) poly-empty ∙ nil-mul (Poly-ring ℚ-ring) (poly q))
poly-product (a ∷ p) q =
    poly-sum (scaled a q) (zero_q ∷ product p q)
    ∙ ap₂ ◌+P◌ (poly-scaled a q) (poly-shifted (product p q) ∙ ap (λ z. X ℚ-ring *P z) (poly-product p q))
    ∙ ring! (Poly-ring ℚ-ring) (con_p ℚ-ring (val a) ∷ X ℚ-ring ∷ poly p ∷ poly q ∷ []) (search reify depth 30 fits 20000) tt
    ∙ sym (ap (λ z. z *P poly q) (poly-cons a p))

pub poly-one : poly (one_q ∷ []) ≡ con_p ℚ-ring 1ℚ
poly-one = poly-constant one_q ∙ ap (con_p ℚ-ring) val-one

pub poly-power : (p : List Rat) (n : ℕ) → poly (power p n) ≡ pow (Poly-ring ℚ-ring) (poly p) n
unfolding power pow
poly-power p zero = poly-one
poly-power p (suc n) = poly-product (power p n) p ∙ ap (λ z. z *P poly p) (poly-power p n)

weighted-at : (k : ℕ) (p : List Rat) (i : ℕ) → val (coeff (weighted k p) i) ≡ nat ℚ-ring (k + i) *ℚ val (coeff p i)
unfolding weighted coeff
weighted-at k [] i = val-zero ∙ sym (ap (λ z. nat ℚ-ring (k + i) *ℚ z) val-zero ∙ mul-nil ℚ-ring (nat ℚ-ring (k + i)))
weighted-at k (a ∷ p) zero = val-mul (whole (pos k)) a ∙ ap (λ z. z *ℚ val a) (sym (nat-ℚ k) ∙ ap (nat ℚ-ring) (omega arith))
weighted-at k (a ∷ p) (suc i) = weighted-at (suc k) p i ∙ ap (λ n. nat ℚ-ring n *ℚ val (coeff p i)) (omega arith)

derivative-at : (p : List Rat) (i : ℕ) → val (coeff (derivative p) i) ≡ nat ℚ-ring (suc i) *ℚ val (coeff p (suc i))
unfolding derivative coeff
derivative-at [] i = val-zero ∙ sym (ap (λ z. nat ℚ-ring (suc i) *ℚ z) val-zero ∙ mul-nil ℚ-ring (nat ℚ-ring (suc i)))
derivative-at (a ∷ p) i = weighted-at 1 p i ∙ ap (λ n. nat ℚ-ring n *ℚ val (coeff p i)) (omega arith)

pub poly-derivative : (p : List Rat) → poly (derivative p) ≡ der_p ℚ-ring (poly p)
poly-derivative p = poly-ext ℚ-ring _ _ (λ i.
    poly-at (derivative p) i ∙ derivative-at p i ∙ sym (der-at ℚ-ring (poly p) i ∙ ap (λ z. nat ℚ-ring (suc i) *ℚ z) (poly-at p (suc i))))

-- the value
val-horner : (p : List Rat) (x : Rat) → val (value p x) ≡ horner ℚ-ring (map val p) (val x)
unfolding value horner
val-horner [] x = val-zero
val-horner (a ∷ p) x = val-add a (mul_q x (value p x)) ∙ ap (λ z. val a +ℚ z) (val-mul x (value p x) ∙ ap (λ z. val x *ℚ z) (val-horner p x))

pub val-value : (p : List Rat) (x : Rat) → val (value p x) ≡ ev ℚ-ring (poly p) (val x)
unfolding poly
val-value p x = val-horner p x ∙ sym (ev-poly_of ℚ-ring (map val p) (val x))

-- x − r
abbrev pub x_minus : Rat → List Rat
x_minus r = neg_q r ∷ one_q ∷ []

pub poly-x_minus : (r : Rat) → poly (x_minus r) ≡ linear ℚ-ring (val r)
unfolding linear
poly-x_minus r =
    cons-is (neg_q r) (one_q ∷ []) (ap (con_p ℚ-ring) (val-neg r) ∙ con-neg ℚ-ring (val r)) poly-one
    ∙ ring! (Poly-ring ℚ-ring) (X ℚ-ring ∷ con_p ℚ-ring (val r) ∷ []) (search reify depth 30 fits 20000) tt

-- every polynomial is one of a list
map-val-rep : (l : List ℚ) → map val (map rep l) ≡ l
map-val-rep [] = refl
map-val-rep (x ∷ l) = ap₂ ◌∷◌ (val-rep x) (map-val-rep l)

pub list_of : ℚP → List Rat
list_of p = map rep (to_list ℚ-domain p)

pub poly-list_of : (p : ℚP) → poly (list_of p) ≡ p
unfolding poly list_of
poly-list_of p = ap (poly_of ℚ-ring) (map-val-rep (to_list ℚ-domain p)) ∙ poly_of-to_list ℚ-domain p

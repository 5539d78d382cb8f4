-- The rationals: the field of fractions of the whole numbers. The pairs of specs/Rational are read in it by `val`: equal by cross products is equal here.
use mathlib.Core.Path.{◌≡◌, refl, sym, ◌∙◌, ap}
use mathlib.Core.Logic.{◌≢◌}
use Prim.Native.Nat.{ℕ, zero, suc}
use native.Mathlib.Omega.{arith}
use lib.IntN.{ℤ, ℤ_discrete, pos, negsuc, neg_ℤ, ◌*ℤ◌}
use Rattle.algebra.specs.Rational.{Rat, Same, whole, zero_q, one_q, add_q, mul_q, neg_q, sub_q, over}
use Rattle.algebra.proofs.Ring.{CRing, Domain, Field, Field-domain, nat, neg-mul, mul-neg}
use Rattle.algebra.proofs.RingMap.{map-nat}
use Rattle.algebra.proofs.Whole.{ℤ-ring, ℤ-domain, pos_inj}
use Rattle.algebra.proofs.WholeNumerals.{nat-ℤ}
use Rattle.algebra.proofs.Fraction.{Frac, add_f, mul_f, neg_f, nil_f, one_f, inv_f, fr, fr-eq, fr-inj, fr-add, fr-mul, fr-neg, fr-inv, fr-nil, fr-one, nil-fr, Frac-ring, Frac-field}
use Rattle.algebra.proofs.Embedding.{into, into-map}

abbrev pub ℚ : Type 0
ℚ = Frac ℤ-domain

infixl 60 ◌+ℚ◌
abbrev pub ◌+ℚ◌ : ℚ → ℚ → ℚ
◌+ℚ◌ = add_f ℤ-domain

infixl 70 ◌*ℚ◌
abbrev pub ◌*ℚ◌ : ℚ → ℚ → ℚ
◌*ℚ◌ = mul_f ℤ-domain

infix 75 -ℚ◌
abbrev pub -ℚ◌ : ℚ → ℚ
-ℚ◌ = neg_f ℤ-domain

abbrev pub 0ℚ : ℚ
0ℚ = nil_f ℤ-domain

abbrev pub 1ℚ : ℚ
1ℚ = one_f ℤ-domain

abbrev pub invℚ : ℚ → ℚ
invℚ = inv_f ℤ-domain

abbrev pub ℚ-ring : CRing ℚ
ℚ-ring = Frac-ring ℤ-domain

abbrev pub ℚ-field : Field ℚ
ℚ-field = Frac-field ℤ-domain

abbrev pub ℚ-domain : Domain ℚ
ℚ-domain = Field-domain ℚ-field

-- the value of a pair
pub den-ne : (x : Rat) → pos x.den ≢ pos 0
den-ne x e = let h : x.den ≡ 0 = pos_inj x.den 0 e in omega (arith, x.above_zero)

pub val : Rat → ℚ
val x = fr ℤ-domain x.num (pos x.den) (den-ne x)

pub val-fr : (x : Rat) → val x ≡ fr ℤ-domain x.num (pos x.den) (den-ne x)
unfolding val
val-fr x = refl

pub val_same : (x y : Rat) → Same x y → val x ≡ val y
unfolding val
val_same x y e = fr-eq ℤ-domain x.num (pos x.den) y.num (pos y.den) (den-ne x) (den-ne y) e

pub same-val : (x y : Rat) → val x ≡ val y → Same x y
unfolding val
same-val x y e = fr-inj ℤ-domain x.num (pos x.den) y.num (pos y.den) (den-ne x) (den-ne y) e

-- equality by cross products is an equivalence relation, and can be decided
pub same_refl : (x : Rat) → Same x x
same_refl x = refl

pub same-sym : (x y : Rat) → Same x y → Same y x
same-sym x y e = sym e

pub same-trans : (x y z : Rat) → Same x y → Same y z → Same x z
same-trans x y z e f = same-val x z (val_same x y e ∙ val_same y z f)

pub same-dec : (x y : Rat) → Dec (Same x y)
same-dec x y = ℤ_discrete (x.num *ℤ pos y.den) (y.num *ℤ pos x.den)

-- the operations on pairs are those of the field
pub val-zero : val zero_q ≡ 0ℚ
unfolding val
val-zero = fr-nil ℤ-domain (pos 0) (pos 1) (den-ne zero_q) refl

pub val-one : val one_q ≡ 1ℚ
unfolding val
val-one = fr-one ℤ-domain (pos 1) (pos 1) (den-ne one_q) refl

pub val-add : (x y : Rat) → val (add_q x y) ≡ val x +ℚ val y
unfolding val
val-add x y = fr-eq ℤ-domain _ _ _ _ (den-ne (add_q x y)) _ refl ∙ sym (fr-add ℤ-domain x.num (pos x.den) y.num (pos y.den) (den-ne x) (den-ne y))

pub val-mul : (x y : Rat) → val (mul_q x y) ≡ val x *ℚ val y
unfolding val
val-mul x y = fr-eq ℤ-domain _ _ _ _ (den-ne (mul_q x y)) _ refl ∙ sym (fr-mul ℤ-domain x.num (pos x.den) y.num (pos y.den) (den-ne x) (den-ne y))

pub val-neg : (x : Rat) → val (neg_q x) ≡ -ℚ val x
unfolding val
val-neg x = fr-eq ℤ-domain _ _ _ _ (den-ne (neg_q x)) _ refl ∙ sym (fr-neg ℤ-domain x.num (pos x.den) (den-ne x))

pub val-sub : (x y : Rat) → val (sub_q x y) ≡ val x +ℚ -ℚ val y
val-sub x y = val-add x (neg_q y) ∙ ap (λ t. val x +ℚ t) (val-neg y)

-- whole numbers among the rationals
pub val-whole : (n : ℤ) → val (whole n) ≡ into ℤ-domain n
unfolding val into
val-whole n = fr-eq ℤ-domain n (pos 1) n (pos 1) (den-ne (whole n)) ℤ-domain.proper refl

pub nat-ℚ : (n : ℕ) → nat ℚ-ring n ≡ val (whole (pos n))
nat-ℚ n = sym (map-nat ℤ-ring ℚ-ring (into-map ℤ-domain) n) ∙ ap (into ℤ-domain) (nat-ℤ n) ∙ sym (val-whole (pos n))

-- n / d, and its inverse
pub val-over : (n d : ℤ) (h : d ≢ pos 0) → val (over n d) ≡ fr ℤ-domain n d h
unfolding val
val-over n (pos zero) h = absurd (h refl)
val-over n (pos (suc d)) h = fr-eq ℤ-domain n (pos (suc d)) n (pos (suc d)) (den-ne (over n (pos (suc d)))) h refl
val-over n (negsuc d) h = fr-eq ℤ-domain (neg_ℤ n) (pos (suc d)) n (negsuc d) (den-ne (over n (negsuc d))) h
    (neg-mul ℤ-ring n (negsuc d) ∙ sym (mul-neg ℤ-ring n (negsuc d)))

pub val-inv : (n d : ℤ) → n ≢ pos 0 → d ≢ pos 0 → val (over d n) ≡ invℚ (val (over n d))
val-inv n d h k = val-over d n h ∙ sym (fr-inv ℤ-domain n d k h) ∙ ap invℚ (sym (val-over n d k))

pub over-nil : (n d : ℤ) → d ≢ pos 0 → val (over n d) ≡ 0ℚ → n ≡ pos 0
over-nil n d h e = nil-fr ℤ-domain n d h (sym (val-over n d h) ∙ e)

pub val-nil : (x : Rat) → val x ≡ 0ℚ → x.num ≡ pos 0
unfolding val
val-nil x e = nil-fr ℤ-domain x.num (pos x.den) (den-ne x) e

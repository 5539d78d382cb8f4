-- The ring laws of lib.IntN's ℤ, by reading each integer as a difference up − down of naturals.
use mathlib.Core.Path.{◌≡◌, refl, ap}
use mathlib.Core.Bool.{Bool, true, false, not, cond}
use Prim.Native.Nat.{ℕ, zero, suc, ◌+◌, ◌*◌, ◌-◌, ◌<◌, ◌≤◌}
use native.Mathlib.Omega.{arith}
use lib.Dec.{T, ltb, ltb→lt, nltb→le}
use native.Mathlib.Nat.{eq_of_mul-eq-mul_right}
use mathlib.Core.Logic.{◌≢◌, ◌⊎◌, inl, inr}
use Rattle.algebra.proofs.Ring.{CRing, Domain}
use lib.IntN.{ℤ, ℤ_set, ℤ_discrete, pos, negsuc, neg_ℤ, sub_ℕ, ◌+ℤ◌, ◌*ℤ◌, nat_abs, +ℤ_assoc, +ℤ_comm, +ℤ_idr, +ℤ_invr, *ℤ_comm, *ℤ-one}

unfoldable pub up : ℤ → ℕ
up (pos n) = n
up (negsuc n) = 0

unfoldable pub dn : ℤ → ℕ
dn (pos n) = 0
dn (negsuc n) = suc n

pub ext : (z w : ℤ) → up z + dn w ≡ up w + dn z → z ≡ w
unfolding up dn
ext (pos a) (pos b) e = ap pos (omega arith)
ext (pos a) (negsuc b) e = absurd (omega arith)
ext (negsuc a) (pos b) e = absurd (omega arith)
ext (negsuc a) (negsuc b) e = ap negsuc (omega arith)

cond_ind : (c : Bool) (x y : ℤ) (P : ℤ → Type 0) → (T c → P x) → (T (not c) → P y) → P (cond c x y)
cond_ind true x y P f g = f tt
cond_ind false x y P f g = g tt

sub_is : (a b : ℕ) → up (sub_ℕ a b) + b ≡ a + dn (sub_ℕ a b)
unfolding up dn
sub_is a b = cond_ind (ltb a b) (negsuc (b - suc a)) (pos (a - b)) (λ z. up z + b ≡ a + dn z)
    (λ t. let h : a < b = ltb→lt a b t in omega arith)
    (λ t. let h : b ≤ a = nltb→le a b t in omega arith)

pub neg_is : (x : ℤ) → up (neg_ℤ x) + up x ≡ dn x + dn (neg_ℤ x)
unfolding up dn
neg_is (pos zero) = refl
neg_is (pos (suc n)) = omega arith
neg_is (negsuc n) = omega arith

pub add_is : (x y : ℤ) → up (x +ℤ y) + (dn x + dn y) ≡ (up x + up y) + dn (x +ℤ y)
unfolding up dn
add_is (pos a) (pos b) = omega arith
add_is (pos a) (negsuc b) = omega (arith, sub_is a (suc b))
add_is (negsuc a) (pos b) = omega (arith, sub_is b (suc a))
add_is (negsuc a) (negsuc b) = omega arith

pub mul_is : (x y : ℤ) → up (x *ℤ y) + (up x * dn y + dn x * up y) ≡ (up x * up y + dn x * dn y) + dn (x *ℤ y)
unfolding up dn
mul_is (pos a) (pos b) = omega arith
mul_is (pos a) (negsuc b) = omega (arith, neg_is (pos (a * suc b)))
mul_is (negsuc a) (pos b) = omega (arith, neg_is (pos (suc a * b)))
mul_is (negsuc a) (negsuc b) = omega arith

pub distl : (x y z : ℤ) → x *ℤ (y +ℤ z) ≡ x *ℤ y +ℤ x *ℤ z
distl x y z = ext _ _ (omega (arith, mul_is x (y +ℤ z), add_is (x *ℤ y) (x *ℤ z), mul_is x y, mul_is x z, ap (λ t. up x * t) (add_is y z), ap (λ t. dn x * t) (add_is y z)))

pub *ℤ-assoc : (x y z : ℤ) → (x *ℤ y) *ℤ z ≡ x *ℤ (y *ℤ z)
*ℤ-assoc x y z = ext _ _ (omega (arith, mul_is (x *ℤ y) z, mul_is x (y *ℤ z), ap (λ t. t * up z) (mul_is x y), ap (λ t. t * dn z) (mul_is x y), ap (λ t. up x * t) (mul_is y z), ap (λ t. dn x * t) (mul_is y z)))

pub one-*ℤ : (x : ℤ) → x *ℤ pos 1 ≡ x
unfolding lib.IntN.one
one-*ℤ x = *ℤ-one x

abbrev pub ℤ-ring : CRing ℤ
ℤ-ring = record {
  is_set = ℤ_set;
  add = ◌+ℤ◌;
  mul = ◌*ℤ◌;
  neg = neg_ℤ;
  nil = pos 0;
  one = pos 1;
  add_assoc = +ℤ_assoc;
  add_comm = +ℤ_comm;
  add-nil = +ℤ_idr;
  add-neg = +ℤ_invr;
  mul_assoc = *ℤ-assoc;
  mul_comm = *ℤ_comm;
  mul-one = one-*ℤ;
  distl = distl;
}

-- a product is cancelled
pub mul-cancel : (a b c : ℤ) → c ≢ pos 0 → a *ℤ c ≡ b *ℤ c → a ≡ b
unfolding up dn
mul-cancel a b (pos zero) h e = absurd (h refl)
mul-cancel a b (pos (suc n)) h e = ext a b (eq_of_mul-eq-mul_right (suc n) (omega arith) (up a + dn b) (up b + dn a) (omega (arith, mul_is a (pos (suc n)), mul_is b (pos (suc n)), ap up e, ap dn e)))
mul-cancel a b (negsuc n) h e = ext a b (eq_of_mul-eq-mul_right (suc n) (omega arith) (up a + dn b) (up b + dn a) (omega (arith, mul_is a (negsuc n), mul_is b (negsuc n), ap up e, ap dn e)))

pub pos_inj : (m n : ℕ) → pos m ≡ pos n → m ≡ n
pos_inj m n e = ap nat_abs e

pub pos-ne : (n : ℕ) → pos (suc n) ≢ pos 0
pos-ne n e = let h : suc n ≡ 0 = pos_inj (suc n) 0 e in omega arith

pub one-ne : pos 1 ≢ pos 0
one-ne = pos-ne 0

abbrev pub ℤ-domain : Domain ℤ
ℤ-domain = record { ring = ℤ-ring; proper = one-ne; cancel = mul-cancel; discrete = ℤ_discrete }

-- the size of a product, of a negative, of zero
pub abs_neg : (z : ℤ) → nat_abs (neg_ℤ z) ≡ nat_abs z
abs_neg (pos zero) = refl
abs_neg (pos (suc n)) = refl
abs_neg (negsuc n) = refl

pub abs-mul : (a b : ℤ) → nat_abs (a *ℤ b) ≡ nat_abs a * nat_abs b
abs-mul (pos a) (pos b) = refl
abs-mul (pos a) (negsuc b) = abs_neg (pos (a * suc b))
abs-mul (negsuc a) (pos b) = abs_neg (pos (suc a * b))
abs-mul (negsuc a) (negsuc b) = refl

pub abs-nil : (z : ℤ) → nat_abs z ≡ 0 → z ≡ pos 0
abs-nil (pos n) e = ap pos e
abs-nil (negsuc n) e = absurd (omega arith)

pub abs-above : (z : ℤ) → z ≢ pos 0 → 0 < nat_abs z
abs-above (pos zero) h = absurd (h refl)
abs-above (pos (suc n)) h = omega arith
abs-above (negsuc n) h = omega arith

-- a number is its size with a sign
pub abs-sign : (z : ℤ) → (z ≡ pos (nat_abs z)) ⊎ (z ≡ neg_ℤ (pos (nat_abs z)))
abs-sign (pos n) = inl refl
abs-sign (negsuc n) = inr refl

pub abs-square : (z : ℤ) → z *ℤ z ≡ pos (nat_abs z * nat_abs z)
abs-square (pos n) = refl
abs-square (negsuc n) = refl

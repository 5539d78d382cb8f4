-- The order of the whole numbers: products by a positive number, sums, and the three cases.
use mathlib.Core.Path.{◌≡◌, sym, subst}
use mathlib.Core.Bool.{true, false}
use Prim.Native.Nat.{ℕ, ◌+◌, ◌<◌}
use native.Mathlib.Omega.{arith}
use native.Mathlib.Nat.{mul-lt-mul_of_pos_right, lt_of_mul-lt-mul_right}
use native.Mathlib.Decide.{dec_lt}
use lib.Dec.{T, ltb→lt, lt→ltb}
use lib.IntN.{ℤ, pos, negsuc, neg_ℤ, ◌+ℤ◌, ◌*ℤ◌}
use lib.Signed.{lt_z, ◌<ℤ◌}
use Rattle.algebra.proofs.Whole.{up, dn, ext, add_is, mul_is, neg_is}

-- one of three cases
pub data Three (L E G : Type 0) : Type 0 where
  less : L → Three L E G
  same : E → Three L E G
  more : G → Three L E G

-- the order, read on the naturals up and dn
pub lt_up : (a b : ℤ) → a <ℤ b → up a + dn b < up b + dn a
unfolding up dn
lt_up (pos a) (pos b) h = omega (arith, ltb→lt a b h.lt)
lt_up (pos a) (negsuc b) h = absurd h.lt
lt_up (negsuc a) (pos b) h = omega arith
lt_up (negsuc a) (negsuc b) h = omega (arith, ltb→lt b a h.lt)

pub up_lt : (a b : ℤ) → up a + dn b < up b + dn a → a <ℤ b
unfolding up dn
up_lt (pos a) (pos b) h = record { lt = lt→ltb a b (omega arith) }
up_lt (pos a) (negsuc b) h = absurd (omega arith)
up_lt (negsuc a) (pos b) h = record { lt = tt }
up_lt (negsuc a) (negsuc b) h = record { lt = lt→ltb b a (omega arith) }

pub <ℤ-trans : (a b c : ℤ) → a <ℤ b → b <ℤ c → a <ℤ c
<ℤ-trans a b c h k = up_lt a c (omega (arith, lt_up a b h, lt_up b c k))

pub <ℤ-add : (a b c : ℤ) → a <ℤ b → (a +ℤ c) <ℤ (b +ℤ c)
<ℤ-add a b c h = up_lt (a +ℤ c) (b +ℤ c) (omega (arith, lt_up a b h, add_is a c, add_is b c))

pub <ℤ-neg : (a b : ℤ) → a <ℤ b → neg_ℤ b <ℤ neg_ℤ a
<ℤ-neg a b h = up_lt (neg_ℤ b) (neg_ℤ a) (omega (arith, lt_up a b h, neg_is a, neg_is b))

-- a product by a positive number keeps the order, and shows it
pub <ℤ-mul : (a b : ℤ) (n : ℕ) → 0 < n → a <ℤ b → (a *ℤ pos n) <ℤ (b *ℤ pos n)
unfolding up dn
<ℤ-mul a b n k h = up_lt (a *ℤ pos n) (b *ℤ pos n) (omega (arith, mul-lt-mul_of_pos_right (lt_up a b h) k, mul_is a (pos n), mul_is b (pos n)))

pub <ℤ-cancel : (a b : ℤ) (n : ℕ) → (a *ℤ pos n) <ℤ (b *ℤ pos n) → a <ℤ b
unfolding up dn
<ℤ-cancel a b n h = up_lt a b (lt_of_mul-lt-mul_right n (omega (arith, lt_up (a *ℤ pos n) (b *ℤ pos n) h, mul_is a (pos n), mul_is b (pos n))))

-- (no number is below itself: `<ℤ_irrefl` of lib.Signed)
pub compareℤ : (a b : ℤ) → Three (a <ℤ b) (a ≡ b) (b <ℤ a)
compareℤ a b = go (dec_lt (up a + dn b) (up b + dn a)) (dec_lt (up b + dn a) (up a + dn b))
  where
    go : Dec (up a + dn b < up b + dn a) → Dec (up b + dn a < up a + dn b) → Three (a <ℤ b) (a ≡ b) (b <ℤ a)
    go (yes h) d = less (up_lt a b h)
    go (no h) (yes k) = more (up_lt b a k)
    go (no h) (no k) = same (ext a b (omega arith))

-- the computed test
pub lt-true : (a b : ℤ) → lt_z a b ≡ true → a <ℤ b
lt-true a b e = record { lt = subst T (sym e) tt }

pub lt-false : (a b : ℤ) → lt_z a b ≡ false → a <ℤ b → ⊥
lt-false a b e h = subst T e h.lt

-- The test of a fraction, and the steps of the models: what each answers along the tests.
use Rattle.ratio.specs.declared.Reason.TheVariants.{CoeffOverflow}
use Rattle.ratio.specs.declared.Reason.{Reason}
use Rattle.std.specs.Prelude.{Ok, Err}
use mathlib.Core.Path.{◌≡◌, refl, ap, ◌∙◌}
use mathlib.Core.Bool.{Bool, true, false, ◌&&◌}
use Prim.Native.Nat.{ℕ, ◌<◌}
use native.Mathlib.Omega.{arith}
use borrow.Author.Tests.{leb-true, eqb-false, le-leb, ne_eqb, not-true}
use lib.IntN.{ℤ, pos, negsuc, neg_ℤ, nat_abs, ◌+ℤ◌, ◌*ℤ◌}
use Rattle.ratio.specs.Range.{need, fitting, limit, Within, within}
use Rattle.ratio.specs.Step.{is_nil, is_fraction}
use Rattle.ratio.specs.Promise.{Fraction}
use Rattle.ratio.specs.declared.Ratio.{Ratio}
use native.Mathlib.Nat.{mul-pos}
use Rattle.ratio.proofs.Words.{size_above, neg-within, back}
use Rattle.algebra.proofs.Whole.{abs-mul}
use mir.Syntax.{w64}
use mir.Val.{of_z, to_z}

-- ---- the test of a fraction

pub and-true : (s t : Bool) → s && t ≡ true → (s ≡ true) × (t ≡ true)
and-true true t e = (refl, e)
and-true false t e = absurd (let z : ◌≡◌ {A = ℕ} 0 1 = cc in omega arith)

pub no_size : (z : ℤ) → nat_abs z ≡ 0 → z ≡ pos 0
no_size (pos n) e = ap pos e
no_size (negsuc n) e = absurd (omega arith)

pub some-nil : (z : ℤ) → (z ≡ pos 0 → ⊥) → is_nil z ≡ false
some-nil z h = ne_eqb (nat_abs z) 0 (λ e. h (no_size z e))

pub nil-some : (z : ℤ) → is_nil z ≡ false → z ≡ pos 0 → ⊥
nil-some z e p = eqb-false (nat_abs z) 0 e (ap nat_abs p)

pub fraction-of : (r : Ratio) → is_fraction r ≡ true → Fraction r
fraction-of r e =
    let p = and-true (within r.num) _ e in
    let q = and-true (within r.den) _ p.1 in
    record {
      num-within = leb-true (nat_abs r.num) limit p.0;
      den-within = leb-true (nat_abs r.den) limit q.0;
      den-some = nil-some r.den (not-true _ q.1);
    }

pub fraction-is : (r : Ratio) → Fraction r → is_fraction r ≡ true
fraction-is r f = rw (le-leb (nat_abs r.num) limit f.num-within, le-leb (nat_abs r.den) limit f.den-within, some-nil r.den f.den-some)

-- ---- a product of denominators

pub mul-some : (x y : ℤ) → (x ≡ pos 0 → ⊥) → (y ≡ pos 0 → ⊥) → x *ℤ y ≡ pos 0 → ⊥
mul-some x y hx hy e =
    let p : 0 < nat_abs (x *ℤ y) = rw (abs-mul x y) (mul-pos (size_above x hx) (size_above y hy)) in
    omega (arith, ap nat_abs e)

pub product-fraction : (a b : Ratio) (n : ℤ) → Fraction a → Fraction b → Within n → Within (a.den *ℤ b.den) → Fraction (record { num = n; den = a.den *ℤ b.den })
product-fraction a b n fa fb hn hd = record { num-within = hn; den-within = hd; den-some = mul-some a.den b.den fa.den-some fb.den-some }

-- ---- the negative and the inverse of a fraction

pub neg-fraction : (r : Ratio) → Fraction r → Fraction (record { num = neg_ℤ r.num; den = r.den })
neg-fraction r f = record { num-within = neg-within r.num f.num-within; den-within = f.den-within; den-some = f.den-some }

pub inv-fraction : (r : Ratio) → Fraction r → is_nil r.num ≡ false → Fraction (record { num = r.den; den = r.num })
inv-fraction r f h = record { num-within = f.den-within; den-within = f.num-within; den-some = nil-some r.num h }

-- ---- a number worked out on the way

fit-by : (z r : ℤ) (t : Bool) → Ok r ≡ need t CoeffOverflow (Ok z) → (t ≡ true) × (r ≡ z)
fit-by z r true e = (refl, cc)
fit-by z r false e = absurd (cc)

pub fit-ok : (z r : ℤ) → Ok r ≡ fitting z → (within z ≡ true) × (r ≡ z)
fit-ok z r e = fit-by z r (within z) e

no-fit-by : (z : ℤ) (why : Reason) (t : Bool) → Err why ≡ need t CoeffOverflow (Ok z) → (t ≡ false) × (why ≡ CoeffOverflow)
no-fit-by z why true e = absurd (cc)
no-fit-by z why false e = (refl, cc)

pub fit-err : (z : ℤ) (why : Reason) → Err why ≡ fitting z → (within z ≡ false) × (why ≡ CoeffOverflow)
fit-err z why e = no-fit-by z why (within z) e

-- z is what was to be worked out, p what came of it
pub record Got (z p : ℤ) : Type 0 where
  pub test : within z ≡ true
  pub fit : Within z
  pub read : to_z w64 (of_z w64 p) ≡ z

got : (z p : ℤ) → Ok p ≡ fitting z → Got z p
got z p e =
    let f = fit-ok z p e in
    let h : Within z = leb-true (nat_abs z) limit f.0 in
    record { test = f.0; fit = h; read = ap (λ (x : ℤ). to_z w64 (of_z w64 x)) f.1 ∙ back z h }

-- a product of copied numbers, a sum of such products
pub got-mul : (x y p : ℤ) → Within x → Within y → Ok p ≡ fitting (to_z w64 (of_z w64 x) *ℤ to_z w64 (of_z w64 y)) → Got (x *ℤ y) p
got-mul x y p hx hy e = got (x *ℤ y) p (rw (back x hx, back y hy) at e)

pub got-add : (x y p q r : ℤ) → Got x p → Got y q → Ok r ≡ fitting (to_z w64 (of_z w64 p) +ℤ to_z w64 (of_z w64 q)) → Got (x +ℤ y) r
got-add x y p q r gx gy e = got (x +ℤ y) r (rw (gx.read, gy.read) at e)

-- the same where it leaves the range
pub missed-mul : (x y : ℤ) (why : Reason) → Within x → Within y → Err why ≡ fitting (to_z w64 (of_z w64 x) *ℤ to_z w64 (of_z w64 y)) → (within (x *ℤ y) ≡ false) × (why ≡ CoeffOverflow)
missed-mul x y why hx hy e = fit-err (x *ℤ y) why (rw (back x hx, back y hy) at e)

pub missed-add : (x y p q : ℤ) (why : Reason) → Got x p → Got y q → Err why ≡ fitting (to_z w64 (of_z w64 p) +ℤ to_z w64 (of_z w64 q)) → (within (x +ℤ y) ≡ false) × (why ≡ CoeffOverflow)
missed-add x y p q why gx gy e = fit-err (x +ℤ y) why (rw (gx.read, gy.read) at e)

-- Fractions whose entries are below 2^31 in size: every intermediate of a step fits, so only the denominators are left to test.
use Rattle.std.specs.Prelude.{Ok}
use mathlib.Core.Path.{◌≡◌, refl, sym, ap, ap₂, subst, ◌∙◌}
use mathlib.Core.Bool.{Bool, true, false, cond}
use Prim.Native.Nat.{ℕ, suc, ◌+◌, ◌-◌, ◌/◌, ◌<◌, ◌≤◌}
use native.Mathlib.Nat.{mul-le-mul}
use native.Mathlib.Omega.{arith}
use borrow.Author.Tests.{eqb-true, le-leb, ltb-true, ltb-false}
use lib.Dec.{eqb, ltb}
use lib.IntN.{ℤ, pos, negsuc, nat_abs, ◌+ℤ◌, ◌*ℤ◌, sub_ℕ}
use mir.Syntax.{w64}
use mir.Val.{SFits, to_z, of_z}
use Rattle.algebra.proofs.Ring.{mul-nil, nil-mul}
use Rattle.algebra.proofs.Whole.{ℤ-ring, abs-mul}
use Rattle.ratio.specs.Range.{limit, Within, within}
use Rattle.ratio.specs.Step.{is_fraction, lowest, add_of, mul_of}
use Rattle.ratio.specs.Promise.{Fraction}
use Rattle.ratio.specs.declared.Ratio.{Ratio}
use Rattle.ratio.proofs.Words.{back, fits}
use Rattle.ratio.proofs.Fractions.{fraction-is}
use Rattle.ratio.proofs.Models.{add-yes, mul-yes}

pub record Short (a b : Ratio) : Type 0 where
  pub an : nat_abs a.num < 2147483648
  pub ad : nat_abs a.den < 2147483648
  pub bn : nat_abs b.num < 2147483648
  pub bd : nat_abs b.den < 2147483648

pub short : (a b : Ratio) → true ≡ eqb (nat_abs a.num / 2147483648 + nat_abs a.den / 2147483648 + nat_abs b.num / 2147483648 + nat_abs b.den / 2147483648) 0 → Short a b
short a b e =
    let z = eqb-true (nat_abs a.num / 2147483648 + nat_abs a.den / 2147483648 + nat_abs b.num / 2147483648 + nat_abs b.den / 2147483648) 0 (sym e) in
    record { an = omega arith; ad = omega arith; bn = omega arith; bd = omega arith }

-- ---- sizes of products and sums

mul-size : (x y : ℤ) → nat_abs x < 2147483648 → nat_abs y < 2147483648 → nat_abs (x *ℤ y) < 4611686018427387904
mul-size x y hx hy =
    let hx' : nat_abs x ≤ 2147483647 = omega arith in
    let hy' : nat_abs y ≤ 2147483647 = omega arith in
    rw (abs-mul x y) (omega (arith, mul-le-mul hx' hy'))

sub-size-by : (a b : ℕ) (t : Bool) → ltb a b ≡ t → nat_abs (cond t (negsuc (b - suc a)) (pos (a - b))) ≤ a + b
sub-size-by a b true e = let h : a < b = ltb-true a b e in omega arith
sub-size-by a b false e = let h : b ≤ a = ltb-false a b e in omega arith

sub-size : (a b : ℕ) → nat_abs (sub_ℕ a b) ≤ a + b
sub-size a b = sub-size-by a b (ltb a b) refl

add-size : (x y : ℤ) → nat_abs (x +ℤ y) ≤ nat_abs x + nat_abs y
add-size (pos a) (pos b) = omega arith
add-size (pos a) (negsuc b) = sub-size a (suc b)
add-size (negsuc a) (pos b) = omega (arith, sub-size b (suc a))
add-size (negsuc a) (negsuc b) = omega arith

-- ---- products and sums as the code reads them

abbrev copy : ℤ → ℤ
copy z = to_z w64 (of_z w64 z)

abbrev times : ℤ → ℤ → ℤ
times x y = copy x *ℤ copy y

times-is : (x y : ℤ) → nat_abs x < 2147483648 → nat_abs y < 2147483648 → times x y ≡ x *ℤ y
times-is x y hx hy = ap₂ ◌*ℤ◌ (back x (omega arith)) (back y (omega arith))

pub mul-fits : (x y : ℤ) → nat_abs x < 2147483648 → nat_abs y < 2147483648 → SFits w64 (times x y)
mul-fits x y hx hy = subst (SFits w64) (sym (times-is x y hx hy)) (fits (x *ℤ y) (omega (arith, mul-size x y hx hy)))

pub mul-read : (x y : ℤ) → nat_abs x < 2147483648 → nat_abs y < 2147483648 → copy (times x y) ≡ x *ℤ y
mul-read x y hx hy = ap copy (times-is x y hx hy) ∙ back (x *ℤ y) (omega (arith, mul-size x y hx hy))

module _ (a b : Ratio) (h : Short a b) where
  sum-within : Within (a.num *ℤ b.den +ℤ b.num *ℤ a.den)
  sum-within =
      omega (
        arith,
        add-size (a.num *ℤ b.den) (b.num *ℤ a.den),
        mul-size a.num b.den h.an h.bd,
        mul-size b.num a.den h.bn h.ad,
      )

  sum_is : copy (times a.num b.den) +ℤ copy (times b.num a.den) ≡ a.num *ℤ b.den +ℤ b.num *ℤ a.den
  sum_is = ap₂ ◌+ℤ◌ (mul-read a.num b.den h.an h.bd) (mul-read b.num a.den h.bn h.ad)

  pub sum_fits : SFits w64 (copy (times a.num b.den) +ℤ copy (times b.num a.den))
  sum_fits = subst (SFits w64) (sym sum_is) (fits (a.num *ℤ b.den +ℤ b.num *ℤ a.den) sum-within)

  pub sum-read : copy (copy (times a.num b.den) +ℤ copy (times b.num a.den)) ≡ a.num *ℤ b.den +ℤ b.num *ℤ a.den
  sum-read = ap copy sum_is ∙ back (a.num *ℤ b.den +ℤ b.num *ℤ a.den) sum-within

-- ---- where the product of the denominators isn't zero, both are fractions and the step is answered

module _ (a b : Ratio) (h : Short a b) (some : of_z w64 (times a.den b.den) ≡ 0 → ⊥) where
  den-some : a.den *ℤ b.den ≡ pos 0 → ⊥
  den-some e = some (ap (of_z w64) (times-is a.den b.den h.ad h.bd ∙ e))

  is-a : is_fraction a ≡ true
  is-a = fraction-is a (record { num-within = omega (arith, h); den-within = omega (arith, h); den-some = λ e. den-some (ap (λ z. z *ℤ b.den) e ∙ nil-mul ℤ-ring b.den) })

  is_b : is_fraction b ≡ true
  is_b = fraction-is b (record { num-within = omega (arith, h); den-within = omega (arith, h); den-some = λ e. den-some (ap (λ z. a.den *ℤ z) e ∙ mul-nil ℤ-ring a.den) })

  fits-test : (x y : ℤ) → nat_abs x < 2147483648 → nat_abs y < 2147483648 → within (x *ℤ y) ≡ true
  fits-test x y hx hy = le-leb (nat_abs (x *ℤ y)) limit (omega (arith, mul-size x y hx hy))

  pub mul-fraction : Fraction (record { num = copy (times a.num b.num); den = copy (times a.den b.den) })
  mul-fraction =
      rw (mul-read a.num b.num h.an h.bn, mul-read a.den b.den h.ad h.bd)
      (record { num-within = omega (arith, mul-size a.num b.num h.an h.bn); den-within = omega (arith, mul-size a.den b.den h.ad h.bd); den-some = den-some })

  pub sum-fraction : Fraction (record { num = copy (copy (times a.num b.den) +ℤ copy (times b.num a.den)); den = copy (times a.den b.den) })
  sum-fraction =
      rw (sum-read a b h, mul-read a.den b.den h.ad h.bd)
      (record { num-within = sum-within a b h; den-within = omega (arith, mul-size a.den b.den h.ad h.bd); den-some = den-some })

  pub mul-done : Ok (lowest (copy (times a.num b.num)) (copy (times a.den b.den))) ≡ mul_of a b
  mul-done =
      ap Ok (ap₂ lowest (mul-read a.num b.num h.an h.bn) (mul-read a.den b.den h.ad h.bd))
      ∙ mul-yes a b is-a is_b (fits-test a.num b.num h.an h.bn) (fits-test a.den b.den h.ad h.bd)

  pub add_done : Ok (lowest (copy (copy (times a.num b.den) +ℤ copy (times b.num a.den))) (copy (times a.den b.den))) ≡ add_of a b
  add_done =
      ap Ok (ap₂ lowest (sum-read a b h) (mul-read a.den b.den h.ad h.bd))
      ∙ add-yes a b is-a is_b (fits-test a.num b.den h.an h.bd) (fits-test b.num a.den h.bn h.ad) (le-leb (nat_abs (a.num *ℤ b.den +ℤ b.num *ℤ a.den)) limit (sum-within a b h)) (fits-test a.den b.den h.ad h.bd)

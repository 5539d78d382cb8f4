-- Steps with 0 and 1: a fraction in lowest terms stays as it is.
use Rattle.std.specs.Prelude.{Ok}
use mathlib.Core.Path.{◌≡◌, sym, ap, ap₂, subst, ◌∙◌}
use mathlib.Core.Bool.{true}
use native.Mathlib.Omega.{arith}
use borrow.Author.Tests.{le-leb}
use lib.IntN.{ℤ, pos, nat_abs, ◌+ℤ◌, ◌*ℤ◌}
use Rattle.algebra.proofs.Ring.{one-mul, nil-mul, nil-add}
use Rattle.algebra.proofs.Whole.{ℤ-ring, one-*ℤ}
use Rattle.algebra.proofs.Rational.{◌+ℚ◌, ◌*ℚ◌, ℚ-ring}
use Rattle.ratio.specs.Promise.{Lowest}
use Rattle.ratio.specs.Range.{Within, limit, within}
use Rattle.ratio.specs.Refusal.{zero_r}
use Rattle.ratio.specs.Step.{add_of, mul_of}
use Rattle.ratio.specs.declared.Ratio.{Ratio}
use Rattle.ratio.proofs.Fractions.{fraction-is}
use Rattle.ratio.proofs.Models.{add-yes, mul-yes}
use Rattle.ratio.proofs.Steps.{one_r, value, value-equal, zero-lowest, one-lowest, zero-value, one_value, add_done, mul-done, add-value, mul-value}

test : (z : ℤ) → Within z → within z ≡ true
test z h = le-leb (nat_abs z) limit h

module _ (a b c : Ratio) (la : Lowest a) (lb : Lowest b) (lc : Lowest c) where
  mul-as : Within (a.num *ℤ b.num) → Within (a.den *ℤ b.den) → value c ≡ value a *ℚ value b → mul_of a b ≡ Ok c
  mul-as n d v =
      let e = sym (mul-yes a b (fraction-is a la.fraction) (fraction-is b lb.fraction) (test (a.num *ℤ b.num) n) (test (a.den *ℤ b.den) d)) in
      e ∙ ap Ok (value-equal _ c (mul-done a b _ e).1 lc (mul-value a b _ e ∙ sym v))

  add-as : Within (a.num *ℤ b.den) → Within (b.num *ℤ a.den) → Within (a.num *ℤ b.den +ℤ b.num *ℤ a.den) → Within (a.den *ℤ b.den) → value c ≡ value a +ℚ value b → add_of a b ≡ Ok c
  add-as l r n d v =
      let e = sym (add-yes a b (fraction-is a la.fraction) (fraction-is b lb.fraction) (test (a.num *ℤ b.den) l) (test (b.num *ℤ a.den) r) (test (a.num *ℤ b.den +ℤ b.num *ℤ a.den) n) (test (a.den *ℤ b.den) d)) in
      e ∙ ap Ok (value-equal _ c (add_done a b _ e).1 lc (add-value a b _ e ∙ sym v))

within-as : (x y : ℤ) → x ≡ y → Within y → Within x
within-as x y e h = subst Within (sym e) h

one : (z : ℤ) → pos 1 *ℤ z ≡ z
one = one-mul ℤ-ring

none : (z : ℤ) → pos 0 *ℤ z ≡ pos 0
none = nil-mul ℤ-ring

nothing : Within (pos 0)
nothing = omega arith

module _ (c : Ratio) (l : Lowest c) where
  num : Within c.num
  num = l.fraction.num-within

  den : Within c.den
  den = l.fraction.den-within

  pub zero-times : mul_of zero_r c ≡ Ok zero_r
  zero-times =
      mul-as zero_r c zero_r zero-lowest l zero-lowest (within-as _ _ (none c.num) nothing) (within-as _ _ (one c.den) den)
      (zero-value ∙ sym (nil-mul ℚ-ring (value c)) ∙ ap (λ t. t *ℚ value c) (sym zero-value))

  pub one-times : mul_of one_r c ≡ Ok c
  one-times =
      mul-as one_r c c one-lowest l l (within-as _ _ (one c.num) num) (within-as _ _ (one c.den) den)
      (sym (one-mul ℚ-ring (value c)) ∙ ap (λ t. t *ℚ value c) (sym one_value))

  pub zero-plus : add_of zero_r c ≡ Ok c
  zero-plus =
      add-as zero_r c c zero-lowest l l (within-as _ _ (none c.den) nothing) (within-as _ _ (one-*ℤ c.num) num) (within-as _ _ (ap₂ ◌+ℤ◌ (none c.den) (one-*ℤ c.num) ∙ nil-add ℤ-ring c.num) num) (within-as _ _ (one c.den) den)
      (sym (nil-add ℚ-ring (value c)) ∙ ap (λ t. t +ℚ value c) (sym zero-value))

  pub plus-zero : add_of c zero_r ≡ Ok c
  plus-zero =
      add-as c zero_r c l zero-lowest l (within-as _ _ (one-*ℤ c.num) num) (within-as _ _ (none c.den) nothing) (within-as _ _ (ap₂ ◌+ℤ◌ (one-*ℤ c.num) (none c.den) ∙ ℤ-ring.add-nil c.num) num) (within-as _ _ (one-*ℤ c.den) den)
      (sym (ℚ-ring.add-nil (value c)) ∙ ap (λ t. value c +ℚ t) (sym zero-value))

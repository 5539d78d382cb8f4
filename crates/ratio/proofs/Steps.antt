-- What the crates above cite of the steps: the value of an answer, its form, and which refusals there are.
use Rattle.std.specs.declared.cmp.Ordering.TheVariants.{Less, Equal, Greater}
use Rattle.ratio.specs.declared.Reason.{Reason}
use Rattle.std.specs.Prelude.{Result, Ok, Err}
use mathlib.Core.Path.{◌≡◌, refl, sym, ap, ap₂, subst, ◌∙◌}
use mathlib.Core.Bool.{Bool, true, false}
use mathlib.Core.Logic.{◌⊎◌, inl, inr, ◌≢◌}
use Prim.Native.Nat.{ℕ, zero, suc}
use native.Mathlib.Omega.{arith}
use native.Mathlib.Nat.{eq-one_of_dvd-one}
use borrow.Author.Tests.{eqb-true}
use lib.IntN.{ℤ, pos, negsuc, neg_ℤ, nat_abs, ◌+ℤ◌, ◌-ℤ◌, ◌*ℤ◌}
use lib.Signed.{◌<ℤ◌}
use Rattle.algebra.specs.Rational.{Rat, Same, add_q, sub_q, mul_q, neg_q, over}
use Rattle.algebra.specs.Rational as Q
use Rattle.algebra.proofs.Rational.{ℚ, ◌+ℚ◌, ◌*ℚ◌, -ℚ◌, 0ℚ, 1ℚ, invℚ, val, val_same, same-val, val-add, val-sub, val-mul, val-neg, val-inv, val-zero, val-one, val-over, over-nil}
use Rattle.algebra.proofs.Whole.{ℤ-domain}
use Rattle.algebra.proofs.Fraction.{fr-nil}
use Rattle.algebra.proofs.Lowest.{LowestTerms, lowest-unique}
use Rattle.ratio.specs.Range.{within, need}
use Rattle.ratio.specs.Refusal.{status_of, ratio_of, zero_r}
use Rattle.ratio.specs.Step.{is_nil, reduced, lowest, new_of, add_of, sub_of, mul_of, neg_of, inv_of, cmp_of}
use Rattle.ratio.specs.Promise.{rat, Fraction, Lowest, AddFits, SubFits, MulFits, InvFits, Answers}
use Rattle.ratio.specs.declared.Ratio.{Ratio}
use Rattle.ratio.specs.declared.Reason.TheVariants.{CoeffOverflow, DivByZero}
use Rattle.ratio.proofs.Fractions.{fraction-is, some-nil, nil-some, no_size, neg-fraction}
use Rattle.ratio.proofs.Words.{abs_neg}
use Rattle.ratio.proofs.Lowest.{over-neg}
use Rattle.std.specs.Cmp.{int_cmp_is}
use Rattle.ratio.proofs.Models.{new-yes, neg-yes, inv-yes}
use Rattle.ratio.proofs.Answers.{add-answers, sub-answers, mul-answers, neg-answers, inv-answers, new-answers, cmp-is}

-- ---- an answer is the textbook's rational, in lowest terms

answer : {ok : Type 0} {x : Rat} (s : Result Ratio Reason) (r : Ratio) → Answers ok x s → s ≡ Ok r → Same (rat r) x × Lowest r
answer {ok} {x} s r h e = (subst (λ (t : Result Ratio Reason). Same (rat (ratio_of t)) x) e (h.is (ap status_of e)), subst (λ (t : Result Ratio Reason). Lowest (ratio_of t)) e (h.lowest (ap status_of e)))

module _ (a b r : Ratio) where
  pub add_done : add_of a b ≡ Ok r → Same (rat r) (add_q (rat a) (rat b)) × Lowest r
  add_done e = answer (add_of a b) r (add-answers a b) e

  pub sub-done : sub_of a b ≡ Ok r → Same (rat r) (sub_q (rat a) (rat b)) × Lowest r
  sub-done e = answer (sub_of a b) r (sub-answers a b) e

  pub mul-done : mul_of a b ≡ Ok r → Same (rat r) (mul_q (rat a) (rat b)) × Lowest r
  mul-done e = answer (mul_of a b) r (mul-answers a b) e

  -- and what fitted
  pub add-fits : add_of a b ≡ Ok r → AddFits a b
  add-fits e = (add-answers a b).only (ap status_of e)

  pub sub-fits : sub_of a b ≡ Ok r → SubFits a b
  sub-fits e = (sub-answers a b).only (ap status_of e)

  pub mul-fits : mul_of a b ≡ Ok r → MulFits a b
  mul-fits e = (mul-answers a b).only (ap status_of e)

module _ (a r : Ratio) where
  pub neg-done : neg_of a ≡ Ok r → Same (rat r) (neg_q (rat a)) × Lowest r
  neg-done e = answer (neg_of a) r (neg-answers a) e

  pub inv-done : inv_of a ≡ Ok r → Same (rat r) (over a.den a.num) × Lowest r
  inv-done e = answer (inv_of a) r (inv-answers a) e

  pub neg-fits : neg_of a ≡ Ok r → Fraction a
  neg-fits e = (neg-answers a).only (ap status_of e)

  pub inv-fits : inv_of a ≡ Ok r → InvFits a
  inv-fits e = (inv-answers a).only (ap status_of e)

pub new-done : (n d : ℤ) (r : Ratio) → new_of n d ≡ Ok r → Same (rat r) (over n d) × Lowest r
new-done n d r e = answer (new_of n d) r (new-answers n d) e

pub new-fits : (n d : ℤ) (r : Ratio) → new_of n d ≡ Ok r → Fraction (record { num = n; den = d })
new-fits n d r e = (new-answers n d).only (ap status_of e)

-- ---- the same in the field of the rationals

abbrev pub value : Ratio → ℚ
value r = val (rat r)

module _ (a b r : Ratio) where
  pub add-value : add_of a b ≡ Ok r → value r ≡ value a +ℚ value b
  add-value e = val_same (rat r) (add_q (rat a) (rat b)) (add_done a b r e).0 ∙ val-add (rat a) (rat b)

  pub sub-value : sub_of a b ≡ Ok r → value r ≡ value a +ℚ -ℚ value b
  sub-value e = val_same (rat r) (sub_q (rat a) (rat b)) (sub-done a b r e).0 ∙ val-sub (rat a) (rat b)

  pub mul-value : mul_of a b ≡ Ok r → value r ≡ value a *ℚ value b
  mul-value e = val_same (rat r) (mul_q (rat a) (rat b)) (mul-done a b r e).0 ∙ val-mul (rat a) (rat b)

module _ (a r : Ratio) where
  pub neg_value : neg_of a ≡ Ok r → value r ≡ -ℚ value a
  neg_value e = val_same (rat r) (neg_q (rat a)) (neg-done a r e).0 ∙ val-neg (rat a)

  pub inv-value : inv_of a ≡ Ok r → value r ≡ invℚ (value a)
  inv-value e =
      let f = inv-fits a r e in
      val_same (rat r) (over a.den a.num) (inv-done a r e).0 ∙ val-inv a.num a.den f.some f.a-fraction.den-some

-- ---- of two fractions, a step is done or overflows

either : (t : Bool) (s : Result Ratio Reason) → ((r : Ratio) × (s ≡ Ok r)) ⊎ (s ≡ Err CoeffOverflow) → ((r : Ratio) × (need t CoeffOverflow s ≡ Ok r)) ⊎ (need t CoeffOverflow s ≡ Err CoeffOverflow)
either true s h = h
either false s h = inr refl

reduced-either : (left right n d : ℤ) → ((r : Ratio) × (reduced left right n d ≡ Ok r)) ⊎ (reduced left right n d ≡ Err CoeffOverflow)
reduced-either left right n d = either (within left) _ (either (within right) _ (either (within n) _ (either (within d) _ (inl (lowest n d, refl)))))

module _ (a b : Ratio) (fa : Fraction a) (fb : Fraction b) where
  pub add-either : ((r : Ratio) × (add_of a b ≡ Ok r)) ⊎ (add_of a b ≡ Err CoeffOverflow)
  unfolding add_of
  add-either = rw (fraction-is a fa, fraction-is b fb) (reduced-either (a.num *ℤ b.den) (b.num *ℤ a.den) (a.num *ℤ b.den +ℤ b.num *ℤ a.den) (a.den *ℤ b.den))

  pub sub-either : ((r : Ratio) × (sub_of a b ≡ Ok r)) ⊎ (sub_of a b ≡ Err CoeffOverflow)
  unfolding sub_of
  sub-either = rw (fraction-is a fa, fraction-is b fb) (reduced-either (a.num *ℤ b.den) (b.num *ℤ a.den) (a.num *ℤ b.den -ℤ b.num *ℤ a.den) (a.den *ℤ b.den))

  pub mul-either : ((r : Ratio) × (mul_of a b ≡ Ok r)) ⊎ (mul_of a b ≡ Err CoeffOverflow)
  unfolding mul_of
  mul-either = rw (fraction-is a fa, fraction-is b fb) (either (within (a.num *ℤ b.num)) _ (either (within (a.den *ℤ b.den)) _ (inl (lowest (a.num *ℤ b.num) (a.den *ℤ b.den), refl))))

-- a fraction's negative is done, and its inverse unless it is zero
module _ (a : Ratio) (f : Fraction a) where
  pub neg_is : neg_of a ≡ Ok (lowest (neg_ℤ a.num) a.den)
  neg_is = sym (neg-yes a (fraction-is a f))

  pub inv-is : a.num ≢ pos 0 → inv_of a ≡ Ok (lowest a.den a.num)
  inv-is h = sym (inv-yes a (fraction-is a f) (some-nil a.num h))

  pub inv-zero : is_nil a.num ≡ true → inv_of a ≡ Err DivByZero
  unfolding inv_of
  inv-zero h = rw (fraction-is a f, h)

pub new_is : (n d : ℤ) → Fraction (record { num = n; den = d }) → new_of n d ≡ Ok (lowest n d)
new_is n d f = sym (new-yes n d (fraction-is _ f))

-- ---- lowest terms are unique

den-is : (n d : ℤ) → pos 0 <ℤ d → ((over n d).num ≡ n) × (pos (over n d).den ≡ d)
den-is n (pos zero) h = absurd h.lt
den-is n (pos (suc d)) h = (refl, refl)
den-is n (negsuc d) h = absurd h.lt

den-size : (n d : ℤ) → pos 0 <ℤ d → (over n d).den ≡ nat_abs d
den-size n (pos zero) h = absurd h.lt
den-size n (pos (suc d)) h = refl
den-size n (negsuc d) h = absurd h.lt

terms : (r : Ratio) → Lowest r → LowestTerms (rat r)
terms r l = rw ((den-is r.num r.den l.above).0, den-size r.num r.den l.above) l.coprime

pub lowest-equal : (a b : Ratio) → Lowest a → Lowest b → Same (rat a) (rat b) → a ≡ b
lowest-equal a b la lb e =
    let p : rat a ≡ rat b = lowest-unique (rat a) (rat b) (terms a la) (terms b lb) e in
    ap₂ (λ (n d : ℤ). record { num = n; den = d })
    (sym (den-is a.num a.den la.above).0 ∙ ap (λ (x : Rat). x.num) p ∙ (den-is b.num b.den lb.above).0)
    (sym (den-is a.num a.den la.above).1 ∙ ap (λ (x : Rat). pos x.den) p ∙ (den-is b.num b.den lb.above).1)

-- a fraction in lowest terms is kept as it is
pub new-lowest : (r : Ratio) → Lowest r → new_of r.num r.den ≡ Ok r
new-lowest r l =
    let e = new_is r.num r.den l.fraction in
    let d = new-done r.num r.den _ e in
    e ∙ ap Ok (lowest-equal _ r d.1 l d.0)

-- ---- zero and one

abbrev pub one_r : Ratio
one_r = record { num = pos 1; den = pos 1 }

pub zero-lowest : Lowest zero_r
zero-lowest = record {
  fraction = record { num-within = omega arith; den-within = omega arith; den-some = λ e. let h : ◌≡◌ {A = ℕ} 1 0 = ap nat_abs e in omega arith };
  above = record { lt = tt };
  coprime = λ k x y. eq-one_of_dvd-one y;
}

pub one-lowest : Lowest one_r
one-lowest = record {
  fraction = record { num-within = omega arith; den-within = omega arith; den-some = λ e. let h : ◌≡◌ {A = ℕ} 1 0 = ap nat_abs e in omega arith };
  above = record { lt = tt };
  coprime = λ k x y. eq-one_of_dvd-one y;
}

pub zero-value : value zero_r ≡ 0ℚ
zero-value = val-zero

pub one_value : value one_r ≡ 1ℚ
one_value = val-one

-- the test of zero tells whether the value is zero
pub nil-value : (r : Ratio) → Fraction r → is_nil r.num ≡ true → value r ≡ 0ℚ
nil-value r f e = val-over r.num r.den f.den-some ∙ fr-nil ℤ-domain r.num r.den f.den-some (no_size r.num (eqb-true (nat_abs r.num) 0 e))

pub some-value : (r : Ratio) → Fraction r → is_nil r.num ≡ false → value r ≢ 0ℚ
some-value r f e p = nil-some r.num e (over-nil r.num r.den f.den-some p)

-- ---- values of fractions in lowest terms

pub value-equal : (a b : Ratio) → Lowest a → Lowest b → value a ≡ value b → a ≡ b
value-equal a b la lb e = lowest-equal a b la lb (same-val (rat a) (rat b) e)

pub neg-lowest : (a : Ratio) → Lowest a → Lowest (record { num = neg_ℤ a.num; den = a.den })
neg-lowest a l = record { fraction = neg-fraction a l.fraction; above = l.above; coprime = rw (abs_neg a.num) l.coprime }

-- the negative of a fraction in lowest terms only changes its sign
pub neg-kept : (a : Ratio) → Lowest a → neg_of a ≡ Ok (record { num = neg_ℤ a.num; den = a.den })
neg-kept a l =
    let e = neg_is a l.fraction in
    let r : Ratio = record { num = neg_ℤ a.num; den = a.den } in
    e ∙ ap Ok (value-equal _ r (neg-done a _ e).1 (neg-lowest a l) (neg_value a _ e ∙ sym (val_same (rat r) (neg_q (rat a)) (over-neg a.num a.den l.fraction.den-some) ∙ val-neg (rat a))))

-- ---- the order of two fractions is found

module _ (a b : Ratio) (fa : Fraction a) (fb : Fraction b) where
  pub cmp-less : Q.Less (rat a) (rat b) → cmp_of a b ≡ Ok Less
  cmp-less h = cmp-is a b fa fb ∙ ap Ok (sym (int_cmp_is _ _ Less h))

  pub cmp-equal : Same (rat a) (rat b) → cmp_of a b ≡ Ok Equal
  cmp-equal h = cmp-is a b fa fb ∙ ap Ok (sym (int_cmp_is _ _ Equal h))

  pub cmp-greater : Q.Less (rat b) (rat a) → cmp_of a b ≡ Ok Greater
  cmp-greater h = cmp-is a b fa fb ∙ ap Ok (sym (int_cmp_is _ _ Greater h))

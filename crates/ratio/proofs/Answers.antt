-- The promises of the models: when each is answered, and which rational the answer is.
use Rattle.std.specs.declared.cmp.Ordering.TheVariants.{Less, Equal, Greater}
use Rattle.std.specs.declared.cmp.Ordering.{Ordering}
use Rattle.std.specs.Prelude.{Result, Ok}
use mathlib.Core.Path.{◌≡◌, refl, sym, ap, ap₂, subst, ◌∙◌}
use mathlib.Core.Bool.{Bool, true, false, not}
use Prim.Native.Nat.{ℕ, ◌∣◌}
use native.Mathlib.Nat.{eq-one_of_dvd-one}
use native.Mathlib.Omega.{arith}
use borrow.Author.Tests.{leb-true, le-leb, not-true, eqb-true, eq-eqb}
use lib.IntN.{ℤ, pos, negsuc, neg_ℤ, nat_abs, ◌+ℤ◌, ◌-ℤ◌, ◌*ℤ◌}
use lib.Signed.{lt_z, ◌<ℤ◌}
use Rattle.algebra.specs.Rational.{Rat, Same, add_q, sub_q, mul_q, neg_q, over}
use Rattle.algebra.proofs.Rational.{same-trans}
use Rattle.algebra.proofs.WholeOrder.{Three, less, same, more, compareℤ, lt-false}
use Rattle.ratio.specs.Range.{limit, Within, within, need}
use Rattle.ratio.specs.Refusal.{number_of, status_of, ratio_of}
use Rattle.ratio.specs.Gcd.{gcd_of}
use Rattle.ratio.specs.Step.{is_nil, is_fraction, lowest, facing, reduced, new_of, add_of, sub_of, mul_of, neg_of, inv_of, cmp_of, is_lowest}
use Rattle.ratio.specs.Promise.{rat, Fraction, Lowest, SumFits, AddFits, SubFits, MulFits, InvFits, Answers, Orders, Tells}
use Rattle.ratio.specs.declared.Ratio.{Ratio}
use Rattle.ratio.specs.declared.Reason.{Reason}
use Rattle.ratio.specs.declared.Reason.TheVariants.{NotPolynomial, CoeffOverflow, DivByZero, TooLong, BadInput, Malformed, Budget, TooDeep, NoRoom}
use Rattle.std.specs.Ordering.{MatchOrdering, int_cmp}
use Rattle.std.specs.Cmp.{int_cmp_is}
use Rattle.ratio.proofs.Words.{pos-neg}
use Rattle.ratio.proofs.Euclid.{is-gcd}
use Rattle.ratio.proofs.Fractions.{and-true, fraction-of, fraction-is, nil-some, some-nil, neg-fraction, inv-fraction, product-fraction}
use Rattle.ratio.proofs.Models.{new-yes, mul-yes, neg-yes, inv-yes}
use Rattle.ratio.proofs.Lowest.{lowest-same, lowest-lowest, over_add, over-sub, over-mul, over-neg, num-over, den-over}

-- ---- a step that is answered has passed its tests

some_number : (why : Reason) → number_of why ≡ 0 → ⊥
some_number NotPolynomial e = omega arith
some_number CoeffOverflow e = omega arith
some_number DivByZero e = omega arith
some_number TooLong e = omega arith
some_number BadInput e = omega arith
some_number (Malformed at) e = omega arith
some_number Budget e = omega arith
some_number TooDeep e = omega arith
some_number NoRoom e = omega arith

pub passed : {X : Type 0} (t : Bool) (why : Reason) (s : Result X Reason) → status_of (need t why s) ≡ 0 → (t ≡ true) × (status_of s ≡ 0)
passed true why s e = (refl, e)
passed false why s e = absurd (some_number why e)

fits : (z : ℤ) → within z ≡ true → Within z
fits z e = leb-true (nat_abs z) limit e

test : (z : ℤ) → Within z → within z ≡ true
test z h = le-leb (nat_abs z) limit h

-- the promise of a step that answers r where `ok` holds
made : {ok : Type 0} {x : Rat} (s : Result Ratio Reason) (r : Ratio) → (ok → s ≡ Ok r) → (status_of s ≡ 0 → ok) → (ok → Same (rat r) x) → (ok → Lowest r) → Answers ok x s
made {ok} {x} s r yes-it only is low = record {
  answered = λ o. ap status_of (yes-it o);
  only = only;
  is = λ e. subst (λ (t : Result Ratio Reason). Same (rat (ratio_of t)) x) (sym (yes-it (only e))) (is (only e));
  lowest = λ e. subst (λ (t : Result Ratio Reason). Lowest (ratio_of t)) (sym (yes-it (only e))) (low (only e));
}

-- ---- a sum, a difference

module _ (a b : Ratio) (n : ℤ) where
  sum-only : status_of (need (is_fraction a) BadInput (need (is_fraction b) BadInput (reduced (a.num *ℤ b.den) (b.num *ℤ a.den) n (a.den *ℤ b.den)))) ≡ 0 → SumFits a b n
  sum-only e =
      let p = passed (is_fraction a) BadInput _ e in
      let q = passed (is_fraction b) BadInput _ p.1 in
      let l = passed (within (a.num *ℤ b.den)) CoeffOverflow _ q.1 in
      let r = passed (within (b.num *ℤ a.den)) CoeffOverflow _ l.1 in
      let u = passed (within n) CoeffOverflow _ r.1 in
      let d = passed (within (a.den *ℤ b.den)) CoeffOverflow _ u.1 in
      record {
        a-fraction = fraction-of a p.0;
        b-fraction = fraction-of b q.0;
        left = fits (a.num *ℤ b.den) l.0;
        right = fits (b.num *ℤ a.den) r.0;
        upper = fits n u.0;
        lower = fits (a.den *ℤ b.den) d.0;
      }

  sum-yes : SumFits a b n → need (is_fraction a) BadInput (need (is_fraction b) BadInput (reduced (a.num *ℤ b.den) (b.num *ℤ a.den) n (a.den *ℤ b.den))) ≡ Ok (lowest n (a.den *ℤ b.den))
  sum-yes o = rw (fraction-is a o.a-fraction, fraction-is b o.b-fraction, test (a.num *ℤ b.den) o.left, test (b.num *ℤ a.den) o.right, test n o.upper, test (a.den *ℤ b.den) o.lower)

  sum-fraction : SumFits a b n → Fraction (record { num = n; den = a.den *ℤ b.den })
  sum-fraction o = product-fraction a b n o.a-fraction o.b-fraction o.upper o.lower

  sum-answers : (x : Rat) → (SumFits a b n → Same (over n (a.den *ℤ b.den)) x) → Answers (SumFits a b n) x (need (is_fraction a) BadInput (need (is_fraction b) BadInput (reduced (a.num *ℤ b.den) (b.num *ℤ a.den) n (a.den *ℤ b.den))))
  sum-answers x is =
      made _ (lowest n (a.den *ℤ b.den)) sum-yes sum-only
      (λ o. same-trans (rat (lowest n (a.den *ℤ b.den))) (over n (a.den *ℤ b.den)) x (lowest-same n (a.den *ℤ b.den) (sum-fraction o).den-some) (is o))
      (λ o. lowest-lowest n (a.den *ℤ b.den) (sum-fraction o))

pub add-answers : (a b : Ratio) → Answers (AddFits a b) (add_q (rat a) (rat b)) (add_of a b)
unfolding add_of
add-answers a b = sum-answers a b (a.num *ℤ b.den +ℤ b.num *ℤ a.den) (add_q (rat a) (rat b)) (λ o. over_add a.num a.den b.num b.den o.a-fraction.den-some o.b-fraction.den-some)

pub sub-answers : (a b : Ratio) → Answers (SubFits a b) (sub_q (rat a) (rat b)) (sub_of a b)
unfolding sub_of
sub-answers a b = sum-answers a b (a.num *ℤ b.den -ℤ b.num *ℤ a.den) (sub_q (rat a) (rat b)) (λ o. over-sub a.num a.den b.num b.den o.a-fraction.den-some o.b-fraction.den-some)

-- ---- a product

mul-only : (a b : Ratio) → status_of (mul_of a b) ≡ 0 → MulFits a b
unfolding mul_of
mul-only a b e =
    let p = passed (is_fraction a) BadInput _ e in
    let q = passed (is_fraction b) BadInput _ p.1 in
    let u = passed (within (a.num *ℤ b.num)) CoeffOverflow _ q.1 in
    let d = passed (within (a.den *ℤ b.den)) CoeffOverflow _ u.1 in
    record {
      a-fraction = fraction-of a p.0;
      b-fraction = fraction-of b q.0;
      upper = fits (a.num *ℤ b.num) u.0;
      lower = fits (a.den *ℤ b.den) d.0;
    }

pub mul-answers : (a b : Ratio) → Answers (MulFits a b) (mul_q (rat a) (rat b)) (mul_of a b)
mul-answers a b =
    made (mul_of a b) (lowest n d)
    (λ o. sym (mul-yes a b (fraction-is a o.a-fraction) (fraction-is b o.b-fraction) (test n o.upper) (test d o.lower)))
    (mul-only a b)
    (λ o.
    same-trans (rat (lowest n d)) (over n d) (mul_q (rat a) (rat b)) (lowest-same n d (fraction o).den-some)
    (over-mul a.num a.den b.num b.den o.a-fraction.den-some o.b-fraction.den-some))
    (λ o. lowest-lowest n d (fraction o))
  where
    n : ℤ
    n = a.num *ℤ b.num

    d : ℤ
    d = a.den *ℤ b.den

    fraction : MulFits a b → Fraction (record { num = a.num *ℤ b.num; den = a.den *ℤ b.den })
    fraction o = product-fraction a b (a.num *ℤ b.num) o.a-fraction o.b-fraction o.upper o.lower

-- ---- a negative, an inverse, a new fraction

neg-only : (a : Ratio) → status_of (neg_of a) ≡ 0 → Fraction a
unfolding neg_of
neg-only a e = fraction-of a (passed (is_fraction a) BadInput _ e).0

pub neg-answers : (a : Ratio) → Answers (Fraction a) (neg_q (rat a)) (neg_of a)
neg-answers a =
    made (neg_of a) (lowest (neg_ℤ a.num) a.den) (λ o. sym (neg-yes a (fraction-is a o))) (neg-only a)
    (λ o. same-trans (rat (lowest (neg_ℤ a.num) a.den)) (over (neg_ℤ a.num) a.den) (neg_q (rat a)) (lowest-same (neg_ℤ a.num) a.den o.den-some) (over-neg a.num a.den o.den-some))
    (λ o. lowest-lowest (neg_ℤ a.num) a.den (neg-fraction a o))

inv-only : (a : Ratio) → status_of (inv_of a) ≡ 0 → InvFits a
unfolding inv_of
inv-only a e =
    let p = passed (is_fraction a) BadInput _ e in
    let q = passed (not (is_nil a.num)) DivByZero _ p.1 in
    record { a-fraction = fraction-of a p.0; some = nil-some a.num (not-true _ q.0) }

pub inv-answers : (a : Ratio) → Answers (InvFits a) (over a.den a.num) (inv_of a)
inv-answers a =
    made (inv_of a) (lowest a.den a.num)
    (λ o. sym (inv-yes a (fraction-is a o.a-fraction) (some-nil a.num o.some)))
    (inv-only a)
    (λ o. lowest-same a.den a.num o.some)
    (λ o. lowest-lowest a.den a.num (inv-fraction a o.a-fraction (some-nil a.num o.some)))

new-only : (n d : ℤ) → status_of (new_of n d) ≡ 0 → Fraction (record { num = n; den = d })
unfolding new_of
new-only n d e = fraction-of _ (passed (is_fraction (record { num = n; den = d })) BadInput _ e).0

pub new-answers : (n d : ℤ) → Answers (Fraction (record { num = n; den = d })) (over n d) (new_of n d)
new-answers n d =
    made (new_of n d) (lowest n d) (λ o. sym (new-yes n d (fraction-is _ o))) (new-only n d) (λ o. lowest-same n d o.den-some) (λ o. lowest-lowest n d o)

-- ---- the order

ordered : (x y : ℤ) → MatchOrdering (int_cmp x y) (x <ℤ y) (x ≡ y) (y <ℤ x)
ordered x y = go (compareℤ x y)
  where
    the : (o : Ordering) → MatchOrdering o (x <ℤ y) (x ≡ y) (y <ℤ x) → MatchOrdering (int_cmp x y) (x <ℤ y) (x ≡ y) (y <ℤ x)
    the o h = subst (λ (t : Ordering). MatchOrdering t (x <ℤ y) (x ≡ y) (y <ℤ x)) (int_cmp_is x y o h) h

    go : Three (x <ℤ y) (x ≡ y) (y <ℤ x) → MatchOrdering (int_cmp x y) (x <ℤ y) (x ≡ y) (y <ℤ x)
    go (less h) = the Less h
    go (same e) = the Equal e
    go (more h) = the Greater h

ok-is : {o u : Ordering} → ◌≡◌ {A = Result Ordering Reason} (Ok o) (Ok u) → o ≡ u
ok-is e = cc

-- the model's left cross product is the textbook's
crossed : (a b : Ratio) → Fraction a → Fraction b → facing a.num a.den *ℤ pos (nat_abs b.den) ≡ (rat a).num *ℤ pos (rat b).den
crossed a b fa fb = ap₂ (λ (z : ℤ) (k : ℕ). z *ℤ pos k) (sym (num-over a.num a.den fa.den-some)) (sym (den-over b.num b.den fb.den-some))

cmp-only : (a b : Ratio) → status_of (cmp_of a b) ≡ 0 → Fraction a × Fraction b
unfolding cmp_of
cmp-only a b e =
    let p = passed (is_fraction a) BadInput _ e in
    let q = passed (is_fraction b) BadInput _ p.1 in
    (fraction-of a p.0, fraction-of b q.0)

-- for two fractions the model is the order of the textbook's cross products
pub cmp-is : (a b : Ratio) → Fraction a → Fraction b → cmp_of a b ≡ Ok (int_cmp ((rat a).num *ℤ pos (rat b).den) ((rat b).num *ℤ pos (rat a).den))
unfolding cmp_of
cmp-is a b fa fb = rw (fraction-is a fa, fraction-is b fb) (ap Ok (ap₂ int_cmp (crossed a b fa fb) (crossed b a fb fa)))

pub cmp-orders : (a b : Ratio) → Orders a b (cmp_of a b)
cmp-orders a b = record {
  answered = λ fa fb. ap status_of (cmp-is a b fa fb);
  only = cmp-only a b;
  less = λ e. model Less e;
  equal = λ e. model Equal e;
  greater = λ e. model Greater e;
}
  where
    x : ℤ
    x = (rat a).num *ℤ pos (rat b).den

    y : ℤ
    y = (rat b).num *ℤ pos (rat a).den

    model : (o : Ordering) → cmp_of a b ≡ Ok o → MatchOrdering o (x <ℤ y) (x ≡ y) (y <ℤ x)
    model o e =
        let f = cmp-only a b (ap status_of e) in
        let k : int_cmp x y ≡ o = ok-is (sym (cmp-is a b f.0 f.1) ∙ e) in
        subst (λ (t : Ordering). MatchOrdering t (x <ℤ y) (x ≡ y) (y <ℤ x)) k (ordered x y)

-- ---- the test of lowest terms

above_of : (d : ℤ) → (d ≡ pos 0 → ⊥) → lt_z d (pos 0) ≡ false → pos 0 <ℤ d
above_of d h e = go (compareℤ (pos 0) d)
  where
    go : Three (pos 0 <ℤ d) (pos 0 ≡ d) (d <ℤ pos 0) → pos 0 <ℤ d
    go (less l) = l
    go (same p) = absurd (h (sym p))
    go (more l) = absurd (lt-false d (pos 0) e l)

not-below : (d : ℤ) → pos 0 <ℤ d → lt_z d (pos 0) ≡ false
not-below (pos n) h = pos-neg n
not-below (negsuc n) h = absurd h.lt

pub lowest-tells : (r : Ratio) → Tells (Lowest r) (is_lowest r)
lowest-tells r = record {
  holds = λ e.
      let p = and-true (is_fraction r) _ e in
      let q = and-true (not (lt_z r.den (pos 0))) _ p.1 in
      let f = fraction-of r p.0 in
      record {
        fraction = f;
        above = above_of r.den f.den-some (not-true _ q.0);
        coprime = λ k x y. eq-one_of_dvd-one (subst (λ (g : ℕ). k ∣ g) (eqb-true (gcd_of (nat_abs r.num) (nat_abs r.den)) 1 q.1) ((is-gcd (nat_abs r.num) (nat_abs r.den)).greatest k x y));
      };
  tells = λ l.
      let g = is-gcd (nat_abs r.num) (nat_abs r.den) in
      rw (fraction-is r l.fraction, not-below r.den l.above, eq-eqb (gcd_of (nat_abs r.num) (nat_abs r.den)) 1 (l.coprime _ g.divides-a g.divides-b));
}

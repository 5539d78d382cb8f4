-- What the models answer along their tests.
use Rattle.std.specs.Prelude.{Result, Ok, Err}
use mathlib.Core.Path.{◌≡◌, refl, ap}
use mathlib.Core.Bool.{Bool, true, false}
use lib.IntN.{ℤ, neg_ℤ, ◌+ℤ◌, ◌*ℤ◌}
use Rattle.ratio.proofs.Words.{abs_neg}
use Rattle.ratio.proofs.Quotient.{lowest-neg}
use Rattle.algebra.proofs.Ring.{neg-mul}
use Rattle.algebra.proofs.Whole.{ℤ-ring}
use Rattle.ratio.specs.Range.{within, need}
use Rattle.ratio.specs.Step.{is_nil, is_fraction, lowest, new_of, add_of, sub_of, mul_of, neg_of, inv_of}
use Rattle.ratio.specs.declared.Ratio.{Ratio}
use Rattle.ratio.specs.declared.Reason.{Reason}
use Rattle.ratio.specs.declared.Reason.TheVariants.{CoeffOverflow, BadInput}

pub mul-no-a : (a b : Ratio) → is_fraction a ≡ false → Err BadInput ≡ mul_of a b
unfolding mul_of
mul-no-a a b h = rw h

module _ (a b : Ratio) (fa : is_fraction a ≡ true) (fb : is_fraction b ≡ true) where
  pub add-no-upper : within (a.num *ℤ b.den) ≡ true → within (b.num *ℤ a.den) ≡ true → within (a.num *ℤ b.den +ℤ b.num *ℤ a.den) ≡ false → Err CoeffOverflow ≡ add_of a b
  unfolding add_of
  add-no-upper l r h = rw (fa, fb, l, r, h)

  pub add-no-lower : within (a.num *ℤ b.den) ≡ true → within (b.num *ℤ a.den) ≡ true → within (a.num *ℤ b.den +ℤ b.num *ℤ a.den) ≡ true → within (a.den *ℤ b.den) ≡ false → Err CoeffOverflow ≡ add_of a b
  unfolding add_of
  add-no-lower l r n h = rw (fa, fb, l, r, n, h)

  pub add-yes : within (a.num *ℤ b.den) ≡ true → within (b.num *ℤ a.den) ≡ true → within (a.num *ℤ b.den +ℤ b.num *ℤ a.den) ≡ true → within (a.den *ℤ b.den) ≡ true → Ok (lowest (a.num *ℤ b.den +ℤ b.num *ℤ a.den) (a.den *ℤ b.den)) ≡ add_of a b
  unfolding add_of
  add-yes l r n d = rw (fa, fb, l, r, n, d)

  pub mul-yes : within (a.num *ℤ b.num) ≡ true → within (a.den *ℤ b.den) ≡ true → Ok (lowest (a.num *ℤ b.num) (a.den *ℤ b.den)) ≡ mul_of a b
  unfolding mul_of
  mul-yes n d = rw (fa, fb, n, d)

module _ (a : Ratio) where
  pub neg-yes : is_fraction a ≡ true → Ok (lowest (neg_ℤ a.num) a.den) ≡ neg_of a
  unfolding neg_of
  neg-yes h = rw h

  pub inv-yes : is_fraction a ≡ true → is_nil a.num ≡ false → Ok (lowest a.den a.num) ≡ inv_of a
  unfolding inv_of
  inv-yes f h = rw (f, h)

pub new-yes : (n d : ℤ) → is_fraction (record { num = n; den = d }) ≡ true → Ok (lowest n d) ≡ new_of n d
unfolding new_of
new-yes n d h = rw h

-- ---- a difference is the sum with the negative

pub sub-is-add : (a b : Ratio) → add_of a (record { num = neg_ℤ b.num; den = b.den }) ≡ sub_of a b
unfolding add_of sub_of
sub-is-add a b = rw (abs_neg b.num, neg-mul ℤ-ring b.num a.den, abs_neg (b.num *ℤ a.den))

-- ---- a product with the negative is the negative product

abbrev pub neg_r : Ratio → Ratio
neg_r r = record { num = neg_ℤ r.num; den = r.den }

abbrev pub neg_step : Result Ratio Reason → Result Ratio Reason
neg_step (Ok r) = Ok (neg_r r)
neg_step (Err why) = Err why

need-neg : (t : Bool) (why : Reason) (s u : Result Ratio Reason) → u ≡ neg_step s → need t why u ≡ neg_step (need t why s)
need-neg true why s u e = e
need-neg false why s u e = refl

pub mul-neg : (a b : Ratio) → mul_of (neg_r a) b ≡ neg_step (mul_of a b)
unfolding mul_of
mul-neg a b =
    rw (abs_neg a.num, neg-mul ℤ-ring a.num b.num, abs_neg (a.num *ℤ b.num))
    (need-neg (is_fraction a) BadInput _ _ (need-neg (is_fraction b) BadInput _ _ (need-neg (within (a.num *ℤ b.num)) CoeffOverflow _ _ (need-neg (within (a.den *ℤ b.den)) CoeffOverflow _ _ (ap Ok (lowest-neg (a.num *ℤ b.num) (a.den *ℤ b.den)))))))

-- One step of the plain machine, and one after the other: what an answered step means, and why a step is refused.
use Rattle.ratio.specs.declared.Reason.{Reason}
use Rattle.std.specs.Prelude.{Result, Ok, Err}
use mathlib.Core.Path.{◌≡◌, refl, sym, ◌∙◌, ap}
use mathlib.Core.Logic.{◌⊎◌, inl, inr}
use mathlib.Core.Bool.{Bool, true, false}
use mathlib.Core.List.{[], ◌∷◌}
use Prim.Native.Nat.{ℕ}
use native.Mathlib.Omega.{arith}
use Rattle.algebra.proofs.Ring.{CRing, neg-nil}
use Rattle.algebra.proofs.Reflect.{ring!, reify}
use Rattle.algebra.proofs.Rational.{ℚ-ring, ◌+ℚ◌, ◌*ℚ◌, -ℚ◌}
use Rattle.ratio.specs.Promise.{Fraction, Lowest}
use Rattle.ratio.specs.Step.{neg_of}
use Rattle.ratio.specs.declared.Ratio.{Ratio}
use Rattle.ratio.specs.declared.Reason.TheVariants.{CoeffOverflow}
use Rattle.ratio.proofs.Steps.{value, add_done, sub-done, mul-done, neg-done, add-fits, sub-fits, mul-fits, add-value, sub-value, mul-value, neg_value, add-either, sub-either, mul-either, neg_is}
use Rattle.terms.specs.Machine.{Op, plus, minus, times, Ran, fine, over, and_then, step_of, counted, plain}
use Rattle.terms.specs.Answer.{op_if, uncounted}

-- ---- one after the other

module _ {Log X : Type 0} where
  pub fine-or-over : (log log' : Log) (x : X) → over log ≡ fine log' x → ⊥
  fine-or-over log log' x e = let z : ◌≡◌ {A = ℕ} 0 1 = cc in omega arith

  pub same_answer : (log log' : Log) (x y : X) → fine log x ≡ fine log' y → x ≡ y
  same_answer log log' x y e = cc

module _ {Log X Y : Type 0} where
  -- both are answered, where the two together are
  pub record FirstThen (r : Ran Log X) (k : Log → X → Ran Log Y) (log' : Log) (y : Y) : Type 0 where
    pub log : Log
    pub got : X
    pub first : r ≡ fine log got
    pub then : k log got ≡ fine log' y

  pub both-answered : (r : Ran Log X) (k : Log → X → Ran Log Y) (log' : Log) (y : Y) → and_then r k ≡ fine log' y → FirstThen r k log' y
  both-answered (fine log x) k log' y e = record { log = log; got = x; first = refl; then = e }
  both-answered (over log) k log' y e = absurd (fine-or-over log log' y e)

  -- one of the two is refused, where the two together are
  pub either-refused : (r : Ran Log X) (k : Log → X → Ran Log Y) (log' : Log) → and_then r k ≡ over log'
      → (r ≡ over log') ⊎ ((log : Log) × (x : X) × (r ≡ fine log x) × (k log x ≡ over log'))
  either-refused (fine log x) k log' e = inr (log, x, refl, e)
  either-refused (over log) k log' e = inl (cc)

-- ---- what a step notes

pub counted-done : (n k : ℕ) (s : Result Ratio Reason) (r : Ratio) → counted n s ≡ fine k r → s ≡ Ok r
counted-done n k (Ok x) r e = ap Ok (same_answer _ _ x r e)
counted-done n k (Err why) r e = absurd (fine-or-over _ _ r e)

pub uncounted-done : (n k : ℕ) (s : Result Ratio Reason) (r : Ratio) → uncounted n s ≡ fine k r → s ≡ Ok r
uncounted-done n k (Ok x) r e = ap Ok (same_answer _ _ x r e)
uncounted-done n k (Err why) r e = absurd (fine-or-over _ _ r e)

counted-refused : (n k : ℕ) (s : Result Ratio Reason) → ((r : Ratio) × (s ≡ Ok r)) ⊎ (s ≡ Err CoeffOverflow) → counted n s ≡ over k → s ≡ Err CoeffOverflow
counted-refused n k s (inl (r, p)) e = absurd (fine-or-over k _ r (sym e ∙ ap (counted n) p))
counted-refused n k s (inr p) e = p

-- ---- b or - b

abbrev pub turned : {A : Type 0} → CRing A → Bool → A → A
turned R true b = R.neg b
turned R false b = b

module _ {A : Type 0} (R : CRing A) where
  pub turned-nil : (t : Bool) (a : A) → R.add a (turned R t R.nil) ≡ a
  turned-nil true a = ap (R.add a) (neg-nil R) ∙ R.add-nil a
  turned-nil false a = R.add-nil a

  pub turned-add : (t : Bool) (a b c : A) → R.add (R.add a (turned R t b)) (turned R t c) ≡ R.add a (turned R t (R.add b c))
  turned-add true a b c = ring! R (a ∷ b ∷ c ∷ []) (search reify depth 30 fits 20000) tt
  turned-add false a b c = R.add_assoc a b c

-- ---- an answered step

step_value : (t : Bool) (a b r : Ratio) → step_of (op_if t) a b ≡ Ok r → value r ≡ value a +ℚ turned ℚ-ring t (value b)
step_value true a b r e = sub-value a b r e
step_value false a b r e = add-value a b r e

pub step-lowest : (op : Op) (a b r : Ratio) → step_of op a b ≡ Ok r → Lowest r
step-lowest plus a b r e = (add_done a b r e).1
step-lowest minus a b r e = (sub-done a b r e).1
step-lowest times a b r e = (mul-done a b r e).1

step-fractions : (op : Op) (a b r : Ratio) → step_of op a b ≡ Ok r → Fraction a × Fraction b
step-fractions plus a b r e = let f = add-fits a b r e in (f.a-fraction, f.b-fraction)
step-fractions minus a b r e = let f = sub-fits a b r e in (f.a-fraction, f.b-fraction)
step-fractions times a b r e = let f = mul-fits a b r e in (f.a-fraction, f.b-fraction)

module _ (a b : Ratio) (n n' : ℕ) (r : Ratio) where
  pub joined-value : (t : Bool) → plain.make (op_if t) a b n ≡ fine n' r → value r ≡ value a +ℚ turned ℚ-ring t (value b)
  joined-value t e = step_value t a b r (counted-done n n' _ r e)

  pub times-value : plain.make times a b n ≡ fine n' r → value r ≡ value a *ℚ value b
  times-value e = mul-value a b r (counted-done n n' _ r e)

  pub made-lowest : (op : Op) → plain.make op a b n ≡ fine n' r → Lowest r
  made-lowest op e = step-lowest op a b r (counted-done n n' _ r e)

  pub made-fractions : (op : Op) → plain.make op a b n ≡ fine n' r → Fraction a × Fraction b
  made-fractions op e = step-fractions op a b r (counted-done n n' _ r e)

module _ (a : Ratio) (n n' : ℕ) (r : Ratio) (e : uncounted n (neg_of a) ≡ fine n' r) where
  pub turned-value : value r ≡ -ℚ value a
  turned-value = neg_value a r (uncounted-done n n' _ r e)

  pub turned-lowest : Lowest r
  turned-lowest = (neg-done a r (uncounted-done n n' _ r e)).1

-- ---- a refused step of two fractions left the range; a negative is never refused

pub step-either : (op : Op) (a b : Ratio) → Fraction a → Fraction b → ((r : Ratio) × (step_of op a b ≡ Ok r)) ⊎ (step_of op a b ≡ Err CoeffOverflow)
step-either plus a b f g = add-either a b f g
step-either minus a b f g = sub-either a b f g
step-either times a b f g = mul-either a b f g

pub made-refused : (op : Op) (a b : Ratio) (n n' : ℕ) → Fraction a → Fraction b → plain.make op a b n ≡ over n' → step_of op a b ≡ Err CoeffOverflow
made-refused op a b n n' f g e = counted-refused n n' (step_of op a b) (step-either op a b f g) e

pub turned-answered : (a : Ratio) (n n' : ℕ) → Fraction a → uncounted n (neg_of a) ≡ over n' → ⊥
turned-answered a n n' f e = fine-or-over n' n _ (sym e ∙ ap (uncounted n) (neg_is a f))

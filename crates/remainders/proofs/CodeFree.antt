-- Laws of the square-free part: the answers of the derivative, the gcd and the division put together.
use Rattle.ratio.specs.Refusal.{no_refusal}
use Rattle.std.specs.Prelude.{Err}
use mathlib.Core.Path.{◌≡◌, refl, sym, ap, subst, ◌∙◌}
use mathlib.Core.List.{List, [], ◌∷◌}
use Prim.Native.Nat.{ℕ, ◌+◌, ◌-◌, ◌<◌, ◌≤◌}
use native.Mathlib.Nat.{mul-le-mul_left}
use native.Mathlib.Omega.{arith}
use lib.ListN.{length}
use Rattle.ratio.specs.declared.Ratio.{Ratio}
use Rattle.ratio.specs.declared.Reason.{Reason}
use Rattle.ratio.specs.declared.Reason.TheVariants.{CoeffOverflow}
use Rattle.terms.specs.declared.Answer.{Answer}
use Rattle.terms.specs.Poly.{drop_top, terms_of, poly_of, trim}
use Rattle.terms.specs.Machine.{fine, and_then, plain}
use Rattle.terms.specs.Work.{derived}
use Rattle.terms.specs.Answer.{done_with, refused_with, answer_of}
use Rattle.terms.proofs.Lists.{trim-short}
use Rattle.terms.proofs.Long.{Long, derived-long}
use Rattle.terms.proofs.Few.{derived-few}
use Rattle.terms.proofs.StepsCount.{steps_of}
use Rattle.terms.proofs.StepsShift.{shift}
use Rattle.remainders.specs.declared.Division.{Division}
use Rattle.remainders.specs.Divide.{divided}
use Rattle.remainders.specs.Gcd.{monic, gcd_of, monic_if, freed, square_free}
use Rattle.remainders.specs.Answer.{divided_of}
use Rattle.remainders.proofs.PriceDivide.{rest_below}
use Rattle.remainders.proofs.PriceGcd.{monic-price}
use Rattle.remainders.proofs.PriceSquareFree.{freed-price}
use Rattle.remainders.proofs.PriceShift.{monic-shift, gcd_of-shift, freed-shift}
use Rattle.remainders.proofs.CodeAnswer.{division-fine, division-refused, Worked, answer-fine, answer-refused, answer-counts, answer-later}
use Rattle.remainders.proofs.CodeGcd.{gcd-few}

-- ---- f over g

pub freed-constant : (f g : List Ratio) → length g < 2 → done_with (poly_of (trim f)) 0 ≡ answer_of (freed plain f g 0)
freed-constant f [] h = refl
freed-constant f (x ∷ []) h = refl
freed-constant f (x ∷ y ∷ g) h = absurd (omega arith)

freed-more : (f g : List Ratio) → 2 ≤ length g → freed plain f g 0 ≡ and_then (divided plain f g 0) (λ j s. monic_if plain s.rest f s.quotient j)
freed-more f [] h = absurd (omega arith)
freed-more f (x ∷ []) h = absurd (omega arith)
freed-more f (x ∷ y ∷ g) h = refl

monic-not : (rest f q : List Ratio) (k : ℕ) → 0 < length rest → monic_if plain rest f q k ≡ fine k f
monic-not [] f q k h = absurd (omega arith)
monic-not (r ∷ rest) f q k h = refl

monic-then : (rest f q : List Ratio) (k : ℕ) → length rest ≤ 0 → monic_if plain rest f q k ≡ monic plain q k
monic-then [] f q k h = refl
monic-then (r ∷ rest) f q k h = absurd (omega arith)

module _ (f g : List Ratio) (d : Division) (h : 2 ≤ length g) (e : d ≡ divided_of f g) where
  pub freed-refused : (why : Reason) → d.outcome ≡ Err why → refused_with CoeffOverflow d.steps ≡ answer_of (freed plain f g 0)
  freed-refused why o = rw (freed-more f g h, division-refused f g d (omega arith) e why o)

  freed-then : d.outcome ≡ no_refusal → freed plain f g 0 ≡ monic_if plain (terms_of d.rest) f (terms_of d.quotient) d.steps
  freed-then o = rw (freed-more f g h, division-fine f g d (omega arith) e o)

  pub freed-not : d.outcome ≡ no_refusal → 0 < length (terms_of d.rest) → done_with (poly_of (trim f)) d.steps ≡ answer_of (freed plain f g 0)
  freed-not o l = ap answer_of (sym (freed-then o ∙ monic-not (terms_of d.rest) f (terms_of d.quotient) d.steps l))

  pub freed-done : d.outcome ≡ no_refusal → length (terms_of d.rest) ≤ 0 → (w : Answer) → w ≡ answer_of (monic plain (terms_of d.quotient) 0) → ◌≡◌ {A = Answer} (record { outcome = w.outcome; poly = w.poly; steps = d.steps + w.steps }) (answer_of (freed plain f g 0))
  freed-done o l w p =
      answer-later w (monic plain (terms_of d.quotient) 0) d.steps p
      ∙ ap answer_of (sym (freed-then o ∙ monic-then (terms_of d.rest) f (terms_of d.quotient) d.steps l ∙ monic-shift d.steps (terms_of d.quotient)))

  pub quotient-few : d.outcome ≡ no_refusal → length f ≤ 32 → (w : Answer) → w ≡ answer_of (monic plain (terms_of d.quotient) 0) → w.steps ≤ 32
  quotient-few o l w p =
      let b = rest_below f g (omega arith) 0 d.steps _ (division-fine f g d (omega arith) e o) in
      omega (arith, b.few-terms, answer-counts w (monic plain (terms_of d.quotient) 0) p, monic-price (terms_of d.quotient) 0)

freed-few : (f g : List Ratio) → 1 ≤ length f → length f ≤ 32 → steps_of (freed plain f g 0) ≤ 2112
freed-few [] g h l = absurd (omega arith)
freed-few (x ∷ f) g h l =
    let p : length f ≤ 31 = omega arith in
    omega (arith, freed-price x f g 0, mul-le-mul_left (length f) p)

-- ---- the square-free part

pub square-none : (f : List Ratio) → length f ≡ 0 → done_with (poly_of []) 0 ≡ answer_of (square_free plain f 0)
unfolding square_free drop_top
square-none [] h = refl
square-none (x ∷ f) h = absurd (omega arith)

square-more : (f : List Ratio) → 1 ≤ length f → square_free plain f 0 ≡ and_then (derived plain f 0) (λ j d. and_then (gcd_of plain f (trim d) j) (λ j g. freed plain f (trim g) j))
unfolding square_free
square-more [] h = absurd (omega arith)
square-more (x ∷ f) h = refl

-- the derivative d, the gcd g and what is left over w, each from none
module _ (f : List Ratio) (h : 1 ≤ length f) (short : length f ≤ 32) (d : Answer) (e : d ≡ answer_of (derived plain f 0)) where
  pub derivative-refused : (why : Reason) → d.outcome ≡ Err why → refused_with CoeffOverflow d.steps ≡ answer_of (square_free plain f 0)
  derivative-refused why o = rw (square-more f h, answer-refused d (derived plain f 0) why e o)

  pub derivative-few : d.steps ≤ 32
  derivative-few = omega (arith, answer-counts d (derived plain f 0) e, derived-few f 0)

  module _ (o : d.outcome ≡ no_refusal) (g : Answer) (p : g ≡ answer_of (gcd_of plain f (terms_of d.poly) 0)) where
    made : Worked d (derived plain f 0)
    made = answer-fine d (derived plain f 0) e o

    short-too : length (terms_of d.poly) ≤ 32
    short-too =
        let n : length made.list ≡ length f - 1 = subst (Long (length f - 1)) made.is (derived-long plain f 0) in
        rw made.terms (omega (arith, trim-short made.list))

    pub divisor-few : g.steps ≤ 2112
    divisor-few = omega (arith, answer-counts g (gcd_of plain f (terms_of d.poly) 0) p, gcd-few f (terms_of d.poly) short short-too)

    after : square_free plain f 0 ≡ and_then (shift d.steps (gcd_of plain f (terms_of d.poly) 0)) (λ j g. freed plain f (trim g) j)
    after = rw (square-more f h, made.is, ← made.terms, gcd_of-shift d.steps f (terms_of d.poly))

    pub divisor-refused : (why : Reason) → g.outcome ≡ Err why → refused_with CoeffOverflow (d.steps + g.steps) ≡ answer_of (square_free plain f 0)
    divisor-refused why q = rw (after, answer-refused g (gcd_of plain f (terms_of d.poly) 0) why p q)

    module _ (q : g.outcome ≡ no_refusal) (w : Answer) (r : w ≡ answer_of (freed plain f (terms_of g.poly) 0)) where
      found : Worked g (gcd_of plain f (terms_of d.poly) 0)
      found = answer-fine g (gcd_of plain f (terms_of d.poly) 0) p q

      pub left-few : w.steps ≤ 2112
      left-few = omega (arith, answer-counts w (freed plain f (terms_of g.poly) 0) r, freed-few f (terms_of g.poly) h short)

      last : square_free plain f 0 ≡ shift (d.steps + g.steps) (freed plain f (terms_of g.poly) 0)
      last = after ∙ rw (found.is, ← found.terms) (freed-shift (d.steps + g.steps) f (terms_of g.poly))

      pub square-done : ◌≡◌ {A = Answer} (record { outcome = w.outcome; poly = w.poly; steps = d.steps + g.steps + w.steps }) (answer_of (square_free plain f 0))
      square-done = answer-later w (freed plain f (terms_of g.poly) 0) (d.steps + g.steps) r ∙ ap answer_of (sym last)

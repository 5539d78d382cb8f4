-- Laws of gcd and square-free part: a loop that divides until the remainder is zero, and the answers of the parts put together.
use Rattle.std.specs.Prelude.{Err}
use mathlib.Core.Path.{◌≡◌, refl, sym, ap, ◌∙◌}
use mathlib.Core.List.{List, [], ◌∷◌}
use Prim.Native.Nat.{ℕ, zero, suc, ◌+◌, ◌-◌, ◌*◌, ◌<◌, ◌≤◌}
use native.Mathlib.Nat.{mul-le-mul_left}
use native.Mathlib.Omega.{arith}
use lib.ListN.{length}
use Rattle.ratio.specs.Refusal.{ratio_of, no_refusal}
use Rattle.ratio.specs.Step.{inv_of}
use Rattle.ratio.specs.declared.Ratio.{Ratio}
use Rattle.ratio.specs.declared.Reason.{Reason}
use Rattle.ratio.specs.declared.Reason.TheVariants.{CoeffOverflow}
use Rattle.terms.specs.declared.Answer.{Answer}
use Rattle.terms.specs.Poly.{terms_of}
use Rattle.terms.specs.Machine.{Ran, fine, over, and_then, plain}
use Rattle.terms.specs.Work.{each, scaled}
use Rattle.terms.specs.Answer.{refused_with, answer_of}
use Rattle.terms.proofs.StepsCount.{steps_of}
use Rattle.terms.proofs.StepsShift.{shift}
use Rattle.remainders.specs.declared.Division.{Division}
use Rattle.remainders.specs.Divide.{Split, lead, divided}
use Rattle.remainders.specs.Gcd.{monic, gcd_by, gcd_of}
use Rattle.remainders.specs.Answer.{divided_of}
use Rattle.remainders.proofs.PriceDivide.{rest_below}
use Rattle.remainders.proofs.PriceGcd.{gcd-price, gcd-price-left-zero, gcd-price-right-zero}
use Rattle.remainders.proofs.PriceShift.{divided-shift, monic-shift, gcd_by-shift}
use Rattle.remainders.proofs.CodeAnswer.{shift-steps, division-fine, division-refused, division_steps, answer-counts, answer-later}

pub scaled-monic : (u : List Ratio) → scaled plain u (ratio_of (inv_of (lead plain u))) 0 ≡ monic plain u 0
unfolding monic scaled each
scaled-monic [] = refl
scaled-monic (a ∷ u) = refl

-- ---- the loop

gcd-none : (f : ℕ) (u v : List Ratio) (k : ℕ) → length v ≤ 0 → gcd_by plain f u v k ≡ monic plain u k
unfolding gcd_by
gcd-none zero u [] k h = refl
gcd-none (suc f) u [] k h = refl
gcd-none f u (y ∷ v) k h = absurd (omega arith)

gcd-more : (f : ℕ) (u v : List Ratio) (k : ℕ) → 1 ≤ length v → length v ≤ f → gcd_by plain f u v k ≡ and_then (divided plain u v k) (λ j s. gcd_by plain (f - 1) v s.rest j)
unfolding gcd_by
gcd-more f u [] k h l = absurd (omega arith)
gcd-more zero u (y ∷ v) k h l = absurd (omega arith)
gcd-more (suc f) u (y ∷ v) k h l =
    let e : f ≡ suc f - 1 = omega arith in
    ap (λ (g : ℕ). and_then (divided plain u (y ∷ v) k) (λ j s. gcd_by plain g (y ∷ v) s.rest j)) e

-- what counts from k on has counted k
gcd-from : (f : ℕ) (u v : List Ratio) (k : ℕ) → k ≤ steps_of (gcd_by plain f u v k)
gcd-from f u v k = rw (gcd_by-shift k f u v, shift-steps k (gcd_by plain f u v 0)) (omega arith)

pub gcd-few : (a b : List Ratio) → length a ≤ 32 → length b ≤ 32 → steps_of (gcd_of plain a b 0) ≤ 2112
gcd-few [] b h l = omega (arith, gcd-price-left-zero b 0)
gcd-few (x ∷ a) [] h l = omega (arith, gcd-price-right-zero (x ∷ a) 0)
gcd-few (x ∷ a) (y ∷ b) h l =
    let n = length (x ∷ a) - 1 in
    let m = length (y ∷ b) - 1 in
    let p : m ≤ 31 = omega arith in
    omega (arith, gcd-price (x ∷ a) (y ∷ b) 0 (omega arith) (omega arith), mul-le-mul_left (2 * n) p)

-- what is left of the divisions gives the whole gcd
pub record Dividing (a b u v : List Ratio) (steps : ℕ) : Type 0 where
  pub fuel : ℕ
  pub enough : length v ≤ fuel
  pub whole : gcd_by plain fuel u v steps ≡ gcd_of plain a b 0
  pub total : steps_of (gcd_of plain a b 0) ≤ 2112

module _ (a b : List Ratio) where
  pub dividing-none : length a ≤ 32 → length b ≤ 32 → Dividing a b a b 0
  unfolding gcd_of
  dividing-none h l = record { fuel = length b; enough = omega arith; whole = refl; total = gcd-few a b h l }

  module _ (u v : List Ratio) (steps : ℕ) (l : Dividing a b u v steps) where
    pub steps-few : steps ≤ 2112
    steps-few = omega (arith, ap steps_of l.whole, l.total, gcd-from l.fuel u v steps)

    module _ (d : Division) (h : 1 ≤ length v) (e : d ≡ divided_of u v) where
      next : and_then (shift steps (divided plain u v 0)) (λ j s. gcd_by plain (l.fuel - 1) v s.rest j) ≡ gcd_of plain a b 0
      next =
          ap (λ (r : Ran ℕ (Split Ratio)). and_then r (λ j s. gcd_by plain (l.fuel - 1) v s.rest j)) (sym (divided-shift steps u v))
          ∙ sym (gcd-more l.fuel u v steps h l.enough)
          ∙ l.whole

      so_far : (r : Ran ℕ (Split Ratio)) → steps + steps_of r ≤ steps_of (and_then (shift steps r) (λ j s. gcd_by plain (l.fuel - 1) v s.rest j))
      so_far (fine k s) = gcd-from (l.fuel - 1) v s.rest (steps + k)
      so_far (over k) = omega arith

      pub sum-few : steps + d.steps ≤ 2112
      sum-few = omega (arith, so_far (divided plain u v 0), ap steps_of next, l.total, division_steps u v d h e)

      pub dividing-refused : (why : Reason) → d.outcome ≡ Err why → refused_with CoeffOverflow (steps + d.steps) ≡ answer_of (gcd_of plain a b 0)
      dividing-refused why o = ap answer_of (rw (division-refused u v d h e why o) at next)

      pub rest-less : d.outcome ≡ no_refusal → length (terms_of d.rest) < length v
      rest-less o = (rest_below u v h 0 d.steps _ (division-fine u v d h e o)).shorter

      pub dividing-more : d.outcome ≡ no_refusal → Dividing a b v (terms_of d.rest) (steps + d.steps)
      dividing-more o = record { fuel = l.fuel - 1; enough = omega (arith, rest-less o, l.enough); whole = rw (division-fine u v d h e o) at next; total = l.total }

    module _ (w : Answer) (h : length v ≤ 0) (e : w ≡ answer_of (monic plain u 0)) where
      last : shift steps (monic plain u 0) ≡ gcd_of plain a b 0
      last = sym (monic-shift steps u) ∙ sym (gcd-none l.fuel u v steps h) ∙ l.whole

      pub monic-few : w.steps ≤ 2112
      monic-few = omega (arith, answer-counts w (monic plain u 0) e, ap steps_of last, shift-steps steps (monic plain u 0), l.total)

      pub dividing-all : ◌≡◌ {A = Answer} (record { outcome = w.outcome; poly = w.poly; steps = steps + w.steps }) (answer_of (gcd_of plain a b 0))
      dividing-all = answer-later w (monic plain u 0) steps e ∙ ap answer_of last

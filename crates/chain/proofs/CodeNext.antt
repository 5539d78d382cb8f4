-- One link: what the code hands over is the negated remainder, and that is shorter than the divisor.
use Rattle.ratio.specs.Refusal.{no_refusal}
use Rattle.std.specs.Prelude.{Err}
use mathlib.Core.Path.{◌≡◌, refl, ap}
use mathlib.Core.List.{List, [], ◌∷◌}
use Prim.Native.Nat.{ℕ, ◌<◌, ◌≤◌}
use native.Mathlib.Omega.{arith}
use lib.ListN.{length}
use Rattle.ratio.specs.declared.Ratio.{Ratio}
use Rattle.ratio.specs.declared.Reason.{Reason}
use Rattle.terms.specs.declared.Answer.{Answer}
use Rattle.terms.specs.Poly.{terms_of, poly_of, trim}
use Rattle.terms.specs.Machine.{Ran, fine, over, plain}
use Rattle.terms.specs.Answer.{answer_of, refused_with, negated_of}
use Rattle.terms.proofs.Lists.{trim-short}
use Rattle.terms.proofs.MeaningDegree.{negated-length}
use Rattle.remainders.specs.declared.Division.{Division}
use Rattle.remainders.specs.Divide.{Split, divided}
use Rattle.remainders.specs.Answer.{divided_of}
use Rattle.remainders.proofs.CodeAnswer.{done_refused}
use Rattle.remainders.proofs.PriceDivide.{rest_below}
use Rattle.yun.specs.Got.{Got, got, none, then_got, list_from, split_from, parts_of}
use Rattle.yun.proofs.CodeGot.{parts-got, parts_none}
use Rattle.chain.specs.Next.{next_of}
use Rattle.chain.specs.Answer.{Links}

list-links : (r : Ran ℕ (List Ratio)) (w : Answer) → w ≡ answer_of r → Links (list_from r) w
list-links (fine k l) w e = (ap (λ (x : Answer). x.outcome) e, ap (λ (x : Answer). x.poly) e)
list-links (over k) w e = ap (λ (x : Answer). x.outcome) e

module _ (a b : List Ratio) (d : Division) (e : d ≡ divided_of a b) where
  pub next-refused : (why : Reason) (w : Answer) → d.outcome ≡ Err why → w ≡ refused_with why 0 → Links (next_of a b) w
  unfolding next_of
  next-refused why w o f = rw (parts_none d a b why e o) (ap (λ (x : Answer). x.outcome) f)

  pub next-done : (w : Answer) → d.outcome ≡ no_refusal → w ≡ answer_of (negated_of (terms_of d.rest)) → Links (next_of a b) w
  unfolding next_of
  next-done w o f = rw (parts-got d a b e o) (list-links (negated_of (terms_of d.rest)) w f)

-- ---- what the link is, from what the code hands over

module _ (w : Answer) where
  pub link-got : (g : Got (List Ratio)) → Links g w → w.outcome ≡ no_refusal → (l : List Ratio) × (g ≡ got l) × (w.poly ≡ poly_of l)
  link-got (got l) k o = (l, refl, k.1)
  link-got (none why) k o = done_refused w.outcome why o k

  pub link-none : (g : Got (List Ratio)) (why : Reason) → Links g w → w.outcome ≡ Err why → g ≡ none why
  link-none (got l) why k o = done_refused w.outcome why k.0 o
  link-none (none j) why k o = cc

-- ---- a negated remainder is shorter than the divisor

negated-short : (t : Ran ℕ (List Ratio)) (r l : List Ratio) → negated_of r ≡ t → list_from t ≡ got l → length l ≤ length r
negated-short (fine k m) r l e g =
    let f : l ≡ trim m = cc in
    rw f (omega (arith, trim-short m, negated-length r k m e))
negated-short (over k) r l e g = absurd (let z : ◌≡◌ {A = ℕ} 0 1 = cc in omega arith)

pub next-short : (a b l : List Ratio) → 1 ≤ length b → next_of a b ≡ got l → length l < length b
unfolding next_of parts_of
next-short a [] l h g = absurd (omega arith)
next-short a (y ∷ b) l h g = go (divided plain a (y ∷ b) 0) refl g
  where
    go : (r : Ran ℕ (Split Ratio)) → divided plain a (y ∷ b) 0 ≡ r → then_got (split_from r) (λ s. list_from (negated_of s.rest)) ≡ got l → length l < length (y ∷ b)
    go (fine k s) e g = omega (arith, (rest_below a (y ∷ b) h 0 k s e).shorter, negated-short (negated_of s.rest) s.rest l refl g)
    go (over k) e g = absurd (let z : ◌≡◌ {A = ℕ} 0 1 = cc in omega arith)

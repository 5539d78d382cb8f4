-- What an answer or a division of the code says of the model's work: its result, or the reason that is handed on.
use Rattle.ratio.specs.Refusal.{no_refusal}
use Rattle.std.specs.Prelude.{Ok, Err}
use mathlib.Core.Path.{◌≡◌, refl, sym, ap, ◌∙◌}
use mathlib.Core.List.{List, [], ◌∷◌}
use Prim.Native.Nat.{ℕ}
use Rattle.ratio.specs.declared.Ratio.{Ratio}
use Rattle.ratio.specs.declared.Reason.{Reason}
use Rattle.terms.specs.declared.Answer.{Answer}
use Rattle.terms.specs.Poly.{terms_of, poly_of, trim}
use Rattle.terms.specs.Machine.{Ran, fine, over, plain}
use Rattle.terms.specs.Answer.{answer_of}
use Rattle.terms.proofs.Lists.{terms-of-poly}
use Rattle.remainders.specs.declared.Division.{Division}
use Rattle.remainders.specs.Divide.{Split, split, divided}
use Rattle.remainders.specs.Answer.{division_of, divided_of}
use Rattle.remainders.proofs.CodeAnswer.{done_refused}
use Rattle.yun.specs.Got.{got, none, list_from, split_from, parts_of}

-- what poly_of makes is the polynomial of its own coefficients
pub made-poly : (l : List Ratio) → poly_of l ≡ poly_of (terms_of (poly_of l))
made-poly l = ap poly_of (sym (terms-of-poly l))

-- ---- an answer

module _ (w : Answer) where
  pub list-got : (r : Ran ℕ (List Ratio)) → w ≡ answer_of r → w.outcome ≡ no_refusal → list_from r ≡ got (terms_of w.poly)
  list-got (fine k l) e o = ap got (sym (terms-of-poly (trim l)) ∙ sym (ap (λ (x : Answer). terms_of x.poly) e))
  list-got (over k) e o = done_refused w.outcome _ o (ap (λ (x : Answer). x.outcome) e)

  pub list-none : (r : Ran ℕ (List Ratio)) (why : Reason) → w ≡ answer_of r → w.outcome ≡ Err why → list_from r ≡ none why
  list-none (fine k l) why e o = done_refused w.outcome why (ap (λ (x : Answer). x.outcome) e) o
  list-none (over k) why e o = cc

  pub answer-poly : (r : Ran ℕ (List Ratio)) → w ≡ answer_of r → w.poly ≡ poly_of (terms_of w.poly)
  answer-poly (fine k l) e = rw e (made-poly (trim l))
  answer-poly (over k) e = rw e refl

-- ---- a division

module _ (d : Division) where
  parts-fine : (r : Ran ℕ (Split Ratio)) → d ≡ division_of r → d.outcome ≡ no_refusal → split_from r ≡ got (split (terms_of d.quotient) (terms_of d.rest))
  parts-fine (fine k s) e o = rw (e, terms-of-poly s.quotient, terms-of-poly s.rest)
  parts-fine (over k) e o = done_refused d.outcome _ o (ap (λ (x : Division). x.outcome) e)

  parts-over : (r : Ran ℕ (Split Ratio)) (why : Reason) → d ≡ division_of r → d.outcome ≡ Err why → split_from r ≡ none why
  parts-over (fine k s) why e o = done_refused d.outcome why (ap (λ (x : Division). x.outcome) e) o
  parts-over (over k) why e o = cc

  quotient-made : (r : Ran ℕ (Split Ratio)) → d ≡ division_of r → d.quotient ≡ poly_of (terms_of d.quotient)
  quotient-made (fine k s) e = rw e (made-poly s.quotient)
  quotient-made (over k) e = rw e refl

  pub parts-got : (a b : List Ratio) → d ≡ divided_of a b → d.outcome ≡ no_refusal → parts_of a b ≡ got (split (terms_of d.quotient) (terms_of d.rest))
  unfolding parts_of divided_of
  parts-got a [] e o = done_refused d.outcome _ o (ap (λ (x : Division). x.outcome) e)
  parts-got a (y ∷ b) e o = parts-fine (divided plain a (y ∷ b) 0) e o

  pub parts_none : (a b : List Ratio) (why : Reason) → d ≡ divided_of a b → d.outcome ≡ Err why → parts_of a b ≡ none why
  unfolding parts_of divided_of
  parts_none a [] why e o = cc
  parts_none a (y ∷ b) why e o = parts-over (divided plain a (y ∷ b) 0) why e o

  pub quotient-poly : (a b : List Ratio) → d ≡ divided_of a b → d.quotient ≡ poly_of (terms_of d.quotient)
  unfolding divided_of
  quotient-poly a [] e = rw e refl
  quotient-poly a (y ∷ b) e = quotient-made (divided plain a (y ∷ b) 0) e

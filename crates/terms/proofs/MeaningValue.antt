-- An answered value of a list at x is the textbook's.
use mathlib.Core.Path.{◌≡◌, sym, ◌∙◌, ap, ap₂}
use mathlib.Core.Bool.{false}
use mathlib.Core.List.{List, [], ◌∷◌}
use Prim.Native.Nat.{ℕ}
use lib.IntN.{pos}
use Rattle.algebra.specs.Rational.{Same, mul_q}
use Rattle.algebra.specs.Polynomial as P
use Rattle.algebra.proofs.Reflect.{ring!, reify}
use Rattle.algebra.proofs.Rational.{ℚ, ℚ-ring, ◌+ℚ◌, ◌*ℚ◌, val, same-val, val-zero, val-add, val-mul}
use Rattle.ratio.specs.Promise.{rat}
use Rattle.ratio.specs.Refusal.{zero_r}
use Rattle.ratio.specs.declared.Ratio.{Ratio}
use Rattle.ratio.proofs.Steps.{value, zero-value, one_value}
use Rattle.terms.specs.Machine.{plus, times, fine, whole_r, plain}
use Rattle.terms.specs.Work.{valued}
use Rattle.terms.specs.Meaning.{rats}
use Rattle.terms.proofs.MeaningStep.{same_answer, both-answered, joined-value, times-value}

-- the sum so far and the power of x times what is left
pub valued-from : (l : List Ratio) (x power sum : Ratio) (k k' : ℕ) (r : Ratio) → valued plain l x power sum k ≡ fine k' r
    → value r ≡ value sum +ℚ value power *ℚ val (P.value (rats l) (rat x))
unfolding valued P.value
valued-from [] x power sum k k' r e =
    ap value (sym (same_answer k k' sum r e)) ∙ ring! ℚ-ring (value sum ∷ value power ∷ []) (search reify depth 30 fits 20000) tt ∙ ap (λ z. value sum +ℚ value power *ℚ z) (sym val-zero)
valued-from (a ∷ l) x power sum k k' r e =
    let t = both-answered (plain.make times a power k) _ k' r e in
    let s = both-answered (plain.make plus sum t.got t.log) _ k' r t.then in
    let p = both-answered (plain.make times power x s.log) _ k' r s.then in
    let v : ℚ = val (P.value (rats l) (rat x)) in
    valued-from l x p.got s.got p.log k' r p.then
    ∙ ap₂ (λ y z. y +ℚ z *ℚ v)
    (joined-value sum t.got t.log s.log s.got false s.first ∙ ap (λ z. value sum +ℚ z) (times-value a power k t.log t.got t.first))
    (times-value power x s.log p.log p.got p.first)
    ∙ ring! ℚ-ring (value sum ∷ value a ∷ value power ∷ value x ∷ v ∷ []) (search reify depth 30 fits 20000) tt
    ∙ ap (λ z. value sum +ℚ value power *ℚ z) (sym (val-add (rat a) (mul_q (rat x) (P.value (rats l) (rat x))) ∙ ap (λ z. value a +ℚ z) (val-mul (rat x) (P.value (rats l) (rat x)))))

pub valued-means : (l : List Ratio) (x : Ratio) (k k' : ℕ) (r : Ratio) → valued plain l x (whole_r (pos 1)) zero_r k ≡ fine k' r → Same (rat r) (P.value (rats l) (rat x))
valued-means l x k k' r e = same-val (rat r) (P.value (rats l) (rat x))
    (valued-from l x (whole_r (pos 1)) zero_r k k' r e
    ∙ ap₂ (λ y z. y +ℚ z *ℚ val (P.value (rats l) (rat x))) zero-value one_value
    ∙ ring! ℚ-ring (val (P.value (rats l) (rat x)) ∷ []) (search reify depth 30 fits 20000) tt)

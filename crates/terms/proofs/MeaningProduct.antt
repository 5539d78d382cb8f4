-- An answered row adds or subtracts a shifted multiple, and an answered product is the textbook's.
use mathlib.Core.Path.{◌≡◌, sym, ◌∙◌, ap, ap₂, subst}
use mathlib.Core.Bool.{Bool, false}
use mathlib.Core.List.{List, [], ◌∷◌}
use Prim.Native.Nat.{ℕ, suc, ◌+◌, ◌-◌, ◌≤◌, ◌<◌}
use native.Mathlib.Omega.{arith}
use native.Mathlib.Numerals.{add-one}
use native.Mathlib.Decide.{ℕ_discrete}
use lib.ListN.{length, get_or, set, replicate, length-set, length-replicate}
use lib.Seq.{get_or-set_same, get_or-set_other}
use Rattle.algebra.specs.Polynomial.{Equal, product}
use Rattle.algebra.proofs.Ring.{pow, pow-zero, pow-suc-l, mul-nil}
use Rattle.algebra.proofs.Reflect.{ring!, reify}
use Rattle.algebra.proofs.Rational.{ℚ, ℚ-ring, ◌+ℚ◌, ◌*ℚ◌}
use Rattle.algebra.proofs.Poly.{Poly-ring, con_p}
use Rattle.algebra.proofs.Constants.{con-mul}
use Rattle.algebra.proofs.Monomials.{mon_p, X, mon-at, mon-at-other, mon-is, mon-suc}
use Rattle.algebra.proofs.Lists.{ℚP, ◌+P◌, ◌*P◌, poly-cons, poly-empty, poly-equal, poly-product}
use Rattle.ratio.specs.Promise.{rat}
use Rattle.ratio.specs.Refusal.{zero_r}
use Rattle.ratio.specs.declared.Ratio.{Ratio}
use Rattle.ratio.proofs.Steps.{value}
use Rattle.terms.specs.Machine.{plus, times, fine, plain}
use Rattle.terms.specs.Answer.{op_if}
use Rattle.terms.specs.Work.{rowed, rows, multiplied}
use Rattle.terms.specs.Meaning.{rats}
use Rattle.terms.proofs.Meaning.{poly_r, poly_r-is, poly_r-zeros}
use Rattle.terms.proofs.MeaningStep.{same_answer, both-answered, turned, turned-nil, turned-add, joined-value, times-value}
use Rattle.terms.proofs.MeaningSum.{joined_at}

-- ---- one place changed

pub set-poly : (t : Bool) (l : List Ratio) (k : ℕ) (s : Ratio) (c : ℚ) → k < length l → value s ≡ value (get_or l k zero_r) +ℚ turned ℚ-ring t c
    → poly_r (set l k s) ≡ poly_r l +P turned (Poly-ring ℚ-ring) t (mon_p ℚ-ring c k)
set-poly t l k s c h e = poly_r-is (set l k s) (poly_r l +P turned (Poly-ring ℚ-ring) t (mon_p ℚ-ring c k)) (λ i. pick i (ℕ_discrete i k))
  where
    pick : (i : ℕ) → Dec (i ≡ k) → value (get_or (set l k s) i zero_r) ≡ (poly_r l +P turned (Poly-ring ℚ-ring) t (mon_p ℚ-ring c k)).0 i
    pick i (yes p) = subst (λ j. value (get_or (set l k s) j zero_r) ≡ (poly_r l +P turned (Poly-ring ℚ-ring) t (mon_p ℚ-ring c k)).0 j) (sym p)
        (ap value (get_or-set_same l k s zero_r h) ∙ e ∙ sym (joined_at t l (mon_p ℚ-ring c k) k ∙ ap (λ z. value (get_or l k zero_r) +ℚ turned ℚ-ring t z) (mon-at ℚ-ring c k)))
    pick i (no p) =
        ap value (get_or-set_other l k i s zero_r p)
        ∙ sym (joined_at t l (mon_p ℚ-ring c k) i ∙ ap (λ z. value (get_or l i zero_r) +ℚ turned ℚ-ring t z) (mon-at-other ℚ-ring c k i p) ∙ turned-nil ℚ-ring t (value (get_or l i zero_r)))

-- ---- a row

-- x (b + X q) from place k on
row-split : (x b : ℚ) (q : ℚP) (k : ℕ) → mon_p ℚ-ring x k *P (con_p ℚ-ring b +P X ℚ-ring *P q) ≡ mon_p ℚ-ring (x *ℚ b) k +P mon_p ℚ-ring x (suc k) *P q
row-split x b q k =
    ap (λ z. z *P (con_p ℚ-ring b +P X ℚ-ring *P q)) (mon-is ℚ-ring x k)
    ∙ ring! (Poly-ring ℚ-ring) (con_p ℚ-ring x ∷ con_p ℚ-ring b ∷ X ℚ-ring ∷ q ∷ pow (Poly-ring ℚ-ring) (X ℚ-ring) k ∷ []) (search reify depth 30 fits 20000) tt
    ∙ sym (ap₂ (λ y z. y +P z *P q) (mon-is ℚ-ring (x *ℚ b) k ∙ ap (λ z. z *P pow (Poly-ring ℚ-ring) (X ℚ-ring) k) (con-mul ℚ-ring x b)) (mon-suc ℚ-ring x k ∙ ap (λ z. X ℚ-ring *P z) (mon-is ℚ-ring x k)))

pub rowed-length : (t : Bool) (b acc : List Ratio) (k : ℕ) (x : Ratio) (n n' : ℕ) (l : List Ratio) → rowed plain (op_if t) acc k x b n ≡ fine n' l → length l ≡ length acc
unfolding rowed
rowed-length t [] acc k x n n' l e = ap length (sym (same_answer n n' acc l e))
rowed-length t (b ∷ bs) acc k x n n' l e =
    let m = both-answered (plain.make times x b n) _ n' l e in
    let s = both-answered (plain.make (op_if t) (get_or acc k zero_r) m.got m.log) _ n' l m.then in
    rowed-length t bs (set acc k s.got) (k + 1) x s.log n' l s.then ∙ length-set acc k s.got

pub rowed-means : (t : Bool) (b acc : List Ratio) (k : ℕ) (x : Ratio) (n n' : ℕ) (l : List Ratio) → k + length b ≤ length acc → rowed plain (op_if t) acc k x b n ≡ fine n' l
    → poly_r l ≡ poly_r acc +P turned (Poly-ring ℚ-ring) t (mon_p ℚ-ring (value x) k *P poly_r b)
unfolding rowed
rowed-means t [] acc k x n n' l h e =
    ap poly_r (sym (same_answer n n' acc l e))
    ∙ sym (ap (λ z. poly_r acc +P turned (Poly-ring ℚ-ring) t z) (ap (λ z. mon_p ℚ-ring (value x) k *P z) poly-empty ∙ mul-nil (Poly-ring ℚ-ring) (mon_p ℚ-ring (value x) k))
    ∙ turned-nil (Poly-ring ℚ-ring) t (poly_r acc))
rowed-means t (b ∷ bs) acc k x n n' l h e =
    let m = both-answered (plain.make times x b n) _ n' l e in
    let s = both-answered (plain.make (op_if t) (get_or acc k zero_r) m.got m.log) _ n' l m.then in
    rowed-means t bs (set acc k s.got) (k + 1) x s.log n' l (simp length-set (omega arith)) s.then
    ∙ ap₂ (λ y z. y +P turned (Poly-ring ℚ-ring) t (mon_p ℚ-ring (value x) z *P poly_r bs))
    (set-poly t acc k s.got (value x *ℚ value b) (omega arith) (joined-value (get_or acc k zero_r) m.got m.log s.log s.got t s.first ∙ ap (λ z. value (get_or acc k zero_r) +ℚ turned ℚ-ring t z) (times-value x b n m.log m.got m.first)))
    (add-one k)
    ∙ turned-add (Poly-ring ℚ-ring) t (poly_r acc) (mon_p ℚ-ring (value x *ℚ value b) k) (mon_p ℚ-ring (value x) (suc k) *P poly_r bs)
    ∙ ap (λ z. poly_r acc +P turned (Poly-ring ℚ-ring) t z) (sym (ap (λ z. mon_p ℚ-ring (value x) k *P z) (poly-cons (rat b) (rats bs)) ∙ row-split (value x) (value b) (poly_r bs) k))

-- ---- row after row

pub rows-length : (a acc : List Ratio) (k : ℕ) (b : List Ratio) (n n' : ℕ) (l : List Ratio) → rows plain acc k a b n ≡ fine n' l → length l ≡ length acc
unfolding rows
rows-length [] acc k b n n' l e = ap length (sym (same_answer n n' acc l e))
rows-length (x ∷ a) acc k b n n' l e =
    let m = both-answered (rowed plain plus acc k x b n) _ n' l e in
    rows-length a m.got (k + 1) b m.log n' l m.then ∙ rowed-length false b acc k x n m.log m.got m.first

pub rows-means : (a acc : List Ratio) (k : ℕ) (b : List Ratio) (n n' : ℕ) (l : List Ratio) → k + length a + length b ≤ suc (length acc) → rows plain acc k a b n ≡ fine n' l
    → poly_r l ≡ poly_r acc +P pow (Poly-ring ℚ-ring) (X ℚ-ring) k *P (poly_r a *P poly_r b)
unfolding rows
rows-means [] acc k b n n' l h e =
    ap poly_r (sym (same_answer n n' acc l e))
    ∙ ring! (Poly-ring ℚ-ring) (poly_r acc ∷ pow (Poly-ring ℚ-ring) (X ℚ-ring) k ∷ poly_r b ∷ []) (search reify depth 30 fits 20000) tt
    ∙ ap (λ z. poly_r acc +P pow (Poly-ring ℚ-ring) (X ℚ-ring) k *P (z *P poly_r b)) (sym poly-empty)
rows-means (x ∷ a) acc k b n n' l h e =
    let m = both-answered (rowed plain plus acc k x b n) _ n' l e in
    let s : length m.got ≡ length acc = rowed-length false b acc k x n m.log m.got m.first in
    let u : ℚP = pow (Poly-ring ℚ-ring) (X ℚ-ring) k in
    rows-means a m.got (k + 1) b m.log n' l (omega arith) m.then
    ∙ ap₂ (λ y z. y +P z *P (poly_r a *P poly_r b))
    (rowed-means false b acc k x n m.log m.got (omega arith) m.first ∙ ap (λ z. poly_r acc +P z *P poly_r b) (mon-is ℚ-ring (value x) k))
    (ap (pow (Poly-ring ℚ-ring) (X ℚ-ring)) (add-one k) ∙ pow-suc-l (Poly-ring ℚ-ring) (X ℚ-ring) k)
    ∙ ring! (Poly-ring ℚ-ring) (poly_r acc ∷ u ∷ X ℚ-ring ∷ con_p ℚ-ring (value x) ∷ poly_r a ∷ poly_r b ∷ []) (search reify depth 30 fits 20000) tt
    ∙ ap (λ z. poly_r acc +P u *P (z *P poly_r b)) (sym (poly-cons (rat x) (rats a)))

-- ---- the product

module _ (a b : List Ratio) (k k' : ℕ) (l : List Ratio) (e : multiplied plain a b k ≡ fine k' l) where
  pub multiplied-length : length l ≡ length a + length b - 1
  unfolding multiplied
  multiplied-length = rows-length a (replicate (length a + length b - 1) zero_r) 0 b k k' l e ∙ length-replicate (length a + length b - 1) zero_r

  pub multiplied-poly : poly_r l ≡ poly_r a *P poly_r b
  unfolding multiplied
  multiplied-poly =
      rows-means a (replicate (length a + length b - 1) zero_r) 0 b k k' l (simp length-replicate (omega arith)) e
      ∙ ap₂ (λ y z. y +P z *P (poly_r a *P poly_r b)) (poly_r-zeros (length a + length b - 1)) (pow-zero (Poly-ring ℚ-ring) (X ℚ-ring))
      ∙ ring! (Poly-ring ℚ-ring) (poly_r a ∷ poly_r b ∷ []) (search reify depth 30 fits 20000) tt

  pub multiplied-means : Equal (rats l) (product (rats a) (rats b))
  multiplied-means = poly-equal (rats l) (product (rats a) (rats b)) (multiplied-poly ∙ sym (poly-product (rats a) (rats b)))

-- How long answered work is; and canonical lists multiplied, scaled by what is not zero, derived or negated are canonical as they are: no zero is dropped at the top.
use mathlib.Core.Path.{◌≡◌, sym, ◌∙◌, ap, subst}
use mathlib.Core.Logic.{◌≢◌}
use mathlib.Core.List.{List, [], ◌∷◌}
use Prim.Native.Nat.{ℕ, suc, ◌+◌, ◌-◌, max}
use native.Mathlib.Omega.{arith}
use lib.ListN.{length}
use Rattle.algebra.proofs.Rational.{ℚ-ring, ℚ-domain, 0ℚ}
use Rattle.algebra.proofs.Characteristic.{rational-char}
use Rattle.algebra.proofs.Poly.{neg_p, neg-at}
use Rattle.algebra.proofs.Ring.{neg-neg, neg-nil}
use Rattle.algebra.proofs.Degree.{HasDeg, neg-below}
use Rattle.algebra.proofs.PolyDomain.{deg-mul, deg-scaled}
use Rattle.algebra.proofs.Derivative.{deg-der}
use Rattle.algebra.proofs.Lists.{ℚP}
use Rattle.ratio.specs.declared.Ratio.{Ratio}
use Rattle.ratio.proofs.Steps.{value}
use Rattle.terms.specs.Machine.{Op, fine, plain}
use Rattle.terms.specs.Answer.{negated_of}
use Rattle.terms.specs.Work.{zipped, scaled, derived, multiplied}
use Rattle.terms.proofs.Meaning.{poly_r}
use Rattle.terms.proofs.MeaningEach.{each-length}
use Rattle.terms.proofs.MeaningSum.{scaled-poly, derived-poly, negated-poly}
use Rattle.terms.proofs.MeaningProduct.{multiplied-length, multiplied-poly}
use Rattle.terms.proofs.MeaningLowest.{AllLowest, scaled-lowest, derived-lowest, negated-lowest, multiplied-lowest}
use Rattle.terms.proofs.MeaningCanonical.{Canonical, empty-canonical, canonical-degree, degree-canonical}

-- ---- lengths

pub zipped-length : (op : Op) (a b : List Ratio) (k k' : ℕ) (l : List Ratio) → zipped plain op a b k ≡ fine k' l → length l ≡ max (length a) (length b)
unfolding zipped
zipped-length op a b k k' l e = each-length _ (max (length a) (length b)) 0 k k' l e

pub scaled-length : (a : List Ratio) (c : Ratio) (k k' : ℕ) (l : List Ratio) → scaled plain a c k ≡ fine k' l → length l ≡ length a
unfolding scaled
scaled-length a c k k' l e = each-length _ (length a) 0 k k' l e

pub derived-length : (a : List Ratio) (k k' : ℕ) (l : List Ratio) → derived plain a k ≡ fine k' l → length l ≡ length a - 1
unfolding derived
derived-length a k k' l e = each-length _ (length a - 1) 0 k k' l e

pub negated-length : (a : List Ratio) (k' : ℕ) (l : List Ratio) → negated_of a ≡ fine k' l → length l ≡ length a
unfolding negated_of
negated-length a k' l e = each-length _ (length a) 0 0 k' l e

-- ---- canonical as they are

no_length : (l : List Ratio) → length l ≡ 0 → Canonical l
no_length [] e = empty-canonical
no_length (a ∷ l) e = absurd (omega arith)

by-degree : (l : List Ratio) (n : ℕ) (p : ℚP) → AllLowest l → length l ≡ suc n → poly_r l ≡ p → HasDeg ℚ-ring p n → Canonical l
by-degree l n p h s e d = degree-canonical l n h s (subst (λ q. HasDeg ℚ-ring q n) (sym e) d)

pub multiplied-canonical : (x : Ratio) (a : List Ratio) (y : Ratio) (b : List Ratio) → Canonical (x ∷ a) → Canonical (y ∷ b)
    → (k k' : ℕ) (l : List Ratio) → multiplied plain (x ∷ a) (y ∷ b) k ≡ fine k' l → Canonical l
multiplied-canonical x a y b c d k k' l e =
    let s : length l ≡ suc (length a) + suc (length b) - 1 = multiplied-length (x ∷ a) (y ∷ b) k k' l e in
    by-degree l (length a + length b) _ (multiplied-lowest (x ∷ a) (y ∷ b) k k' l e) (omega arith) (multiplied-poly (x ∷ a) (y ∷ b) k k' l e)
    (deg-mul ℚ-domain (poly_r (x ∷ a)) (poly_r (y ∷ b)) (length a) (length b) (canonical-degree x a c) (canonical-degree y b d))

pub scaled-canonical : (a : List Ratio) (c : Ratio) → Canonical a → value c ≢ 0ℚ → (k k' : ℕ) (l : List Ratio) → scaled plain a c k ≡ fine k' l → Canonical l
scaled-canonical [] c d h k k' l e = no_length l (scaled-length [] c k k' l e)
scaled-canonical (x ∷ a) c d h k k' l e =
    by-degree l (length a) _ (scaled-lowest (x ∷ a) c k k' l e) (scaled-length (x ∷ a) c k k' l e) (scaled-poly (x ∷ a) c k k' l e)
    (deg-scaled ℚ-domain (value c) (poly_r (x ∷ a)) (length a) h (canonical-degree x a d))

pub derived-canonical : (a : List Ratio) → Canonical a → (k k' : ℕ) (l : List Ratio) → derived plain a k ≡ fine k' l → Canonical l
derived-canonical [] d k k' l e = no_length l (derived-length [] k k' l e)
derived-canonical (x ∷ []) d k k' l e = no_length l (derived-length (x ∷ []) k k' l e)
derived-canonical (x ∷ y ∷ a) d k k' l e =
    let s : length l ≡ suc (suc (length a)) - 1 = derived-length (x ∷ y ∷ a) k k' l e in
    by-degree l (length a) _ (derived-lowest (x ∷ y ∷ a) k k' l e) (omega arith) (derived-poly (x ∷ y ∷ a) k k' l e)
    (deg-der ℚ-domain rational-char (poly_r (x ∷ y ∷ a)) (length a) (canonical-degree x (y ∷ a) d))

deg-neg : (p : ℚP) (n : ℕ) → HasDeg ℚ-ring p n → HasDeg ℚ-ring (neg_p ℚ-ring p) n
deg-neg p n d = record {
  leads = λ e. d.leads (sym (neg-neg ℚ-ring (p.0 n)) ∙ ap ℚ-ring.neg (sym (neg-at ℚ-ring p n) ∙ e) ∙ neg-nil ℚ-ring);
  ends = neg-below ℚ-ring p (suc n) d.ends;
}

pub negated-canonical : (a : List Ratio) → Canonical a → (k' : ℕ) (l : List Ratio) → negated_of a ≡ fine k' l → Canonical l
negated-canonical [] d k' l e = no_length l (negated-length [] k' l e)
negated-canonical (x ∷ a) d k' l e =
    by-degree l (length a) _ (negated-lowest (x ∷ a) k' l e) (negated-length (x ∷ a) k' l e) (negated-poly (x ∷ a) k' l e) (deg-neg (poly_r (x ∷ a)) (length a) (canonical-degree x a d))

-- An answered discriminant is zero exactly if the polynomial and its derivative have a common divisor that is no constant.
use mathlib.Core.Path.{◌≡◌, sym, ap, subst, ◌∙◌}
use mathlib.Core.Logic.{◌≢◌, ◌↔◌}
use mathlib.Core.List.{List, [], ◌∷◌}
use Prim.Native.Nat.{ℕ, suc, ◌*◌, ◌/◌, ◌%◌}
use lib.Dec.{eqb}
use lib.ListN.{length}
use Rattle.algebra.specs.Rational.{Rat}
use Rattle.algebra.specs.Polynomial.{Equal, derivative}
use Rattle.algebra.proofs.Ring.{mul-nil}
use Rattle.algebra.proofs.Rational.{ℚ-ring, ℚ-domain, ℚ-field, ◌*ℚ◌, 0ℚ}
use Rattle.algebra.proofs.Characteristic.{rational-char}
use Rattle.algebra.proofs.Degree.{deg-not-nil}
use Rattle.algebra.proofs.Derivative.{der_p, deg-der}
use Rattle.algebra.proofs.Lists.{poly-empty, equal-sym, equal-trans}
use Rattle.ratio.specs.Promise.{Lowest}
use Rattle.ratio.specs.Refusal.{zero_r, ratio_of}
use Rattle.ratio.specs.Step.{inv_of}
use Rattle.ratio.specs.declared.Ratio.{Ratio}
use Rattle.ratio.proofs.Steps.{value, zero-lowest, one-lowest}
use Rattle.terms.specs.Machine.{times, fine, plain}
use Rattle.terms.specs.Meaning.{rats}
use Rattle.terms.specs.Poly.{trim}
use Rattle.terms.specs.Work.{derived}
use Rattle.terms.proofs.Meaning.{poly_r, poly_r-trim, trim-means}
use Rattle.terms.proofs.MeaningStep.{both-answered, same_answer, times-value, made-lowest}
use Rattle.terms.proofs.MeaningSum.{derived-poly, derived-means}
use Rattle.terms.proofs.MeaningLowest.{derived-lowest}
use Rattle.terms.proofs.MeaningCanonical.{Canonical, trim-canonical, canonical-degree}
use Rattle.remainders.specs.Divide.{lead}
use Rattle.remainders.specs.Resultant.{unit, signed, resultant_of, discriminant_of}
use Rattle.remainders.proofs.MeaningDivision.{inverse-lead, cons-some}
use Rattle.remainders.proofs.MeaningResultant.{CommonFactor, sign-some, times_zero, resultant-vanishes}

-- what is common to a and b is common to a and what equals b
common-equal : (a b c : List Rat) → Equal b c → CommonFactor a b → CommonFactor a c
common-equal a b c e h = record {
  factor = h.factor;
  degree = h.degree;
  has-degree = h.has-degree;
  some-degree = h.some-degree;
  divides-a = h.divides-a;
  divides-b = record { quotient = h.divides-b.quotient; is = equal-trans c b _ (equal-sym b c e) h.divides-b.is };
}

inverse-some : (x : Ratio) (l : List Ratio) → Canonical (x ∷ l) → value (ratio_of (inv_of (lead plain (x ∷ l)))) ≢ 0ℚ
inverse-some x l c e =
    let t = (poly_r (x ∷ l)).0 (length l) in
    ℚ-field.proper (sym (ℚ-field.mul-inv t (canonical-degree x l c).leads) ∙ ap (λ z. t *ℚ z) (sym (inverse-lead x l c) ∙ e) ∙ mul-nil ℚ-ring t)

-- g s i is zero exactly if s is, where g and i are not
between-zero : (g s n i r : Ratio) → value g ≢ 0ℚ → value i ≢ 0ℚ → value n ≡ value g *ℚ value s → value r ≡ value n *ℚ value i → value r ≡ 0ℚ ↔ value s ≡ 0ℚ
between-zero g s n i r hg hi en er =
    let u = times_zero g s n hg en in
    let w = times_zero i n r hi (er ∙ ℚ-ring.mul_comm (value n) (value i)) in
    (λ z. u.0 (w.0 z), λ z. w.1 (u.1 z))

module _ (x y : Ratio) (l : List Ratio) (c : Canonical (x ∷ y ∷ l)) where
  abbrev f : List Ratio
  f = x ∷ y ∷ l

  -- the derivative of what is no constant is not zero
  derivative-some : (d : List Ratio) → poly_r d ≡ der_p ℚ-ring (poly_r f) → trim d ≡ [] → ⊥
  derivative-some d e z =
      deg-not-nil ℚ-ring (der_p ℚ-ring (poly_r f)) (length l) (deg-der ℚ-domain rational-char (poly_r f) (length l) (canonical-degree x (y ∷ l) c))
      (sym (poly_r-trim d ∙ e) ∙ ap poly_r z ∙ poly-empty)

  pub discriminant-vanishes : (k k' : ℕ) (r : Ratio) → discriminant_of plain f k ≡ fine k' r → value r ≡ 0ℚ ↔ CommonFactor (rats f) (derivative (rats f))
  unfolding discriminant_of
  discriminant-vanishes k k' r e =
      let d = both-answered (derived plain f k) _ k' r e in
      let s = both-answered (resultant_of plain f (trim d.got) d.log) _ k' r d.then in
      let g : Ratio = signed plain (suc (length l) * length l / 2) in
      let i : Ratio = ratio_of (inv_of (lead plain f)) in
      let n = both-answered (plain.make times g s.got s.log) _ k' r s.then in
      let v = resultant-vanishes f (trim d.got) c (trim-canonical d.got (derived-lowest f k d.log d.got d.first)) (cons-some x (y ∷ l))
      (derivative-some d.got (derived-poly f k d.log d.got d.first)) d.log s.log s.got s.first in
      let u = between-zero g s.got n.got i r (sign-some (eqb (suc (length l) * length l / 2 % 2) 0)) (inverse-some x (y ∷ l) c)
      (times-value g s.got s.log n.log n.got n.first) (times-value n.got i n.log k' r n.then) in
      let same : Equal (rats (trim d.got)) (derivative (rats f)) = equal-trans _ (rats d.got) _ (trim-means d.got) (derived-means f k d.log d.got d.first) in (
        λ z. common-equal (rats f) _ _ same (v.0 (u.0 z)),
        λ h. u.1 (v.1 (common-equal (rats f) _ _ (equal-sym _ _ same) h)),
      )

pub discriminant-lowest : (f : List Ratio) (k k' : ℕ) (r : Ratio) → discriminant_of plain f k ≡ fine k' r → Lowest r
unfolding discriminant_of
discriminant-lowest [] k k' r e = subst Lowest (same_answer k k' zero_r r e) zero-lowest
discriminant-lowest (x ∷ []) k k' r e = subst Lowest (same_answer k k' (unit plain) r e) one-lowest
discriminant-lowest (x ∷ y ∷ l) k k' r e =
    let d = both-answered (derived plain (x ∷ y ∷ l) k) _ k' r e in
    let s = both-answered (resultant_of plain (x ∷ y ∷ l) (trim d.got) d.log) _ k' r d.then in
    let n = both-answered (plain.make times (signed plain (suc (length l) * length l / 2)) s.got s.log) _ k' r s.then in
    made-lowest n.got (ratio_of (inv_of (lead plain (x ∷ y ∷ l)))) n.log k' r times n.then

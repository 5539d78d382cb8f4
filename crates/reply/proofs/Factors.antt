-- The factors of any polynomial, at any budget, are few, so that their text fits.
use Rattle.ratio.specs.Refusal.{status_of}
use mathlib.Core.Bool.{Bool, true, false}
use mathlib.Core.List.{List, [], ◌∷◌}
use mathlib.Core.Path.{◌≡◌, refl, sym, ap, subst, ◌∙◌}
use Prim.Native.Nat.{ℕ, ◌*◌, ◌≤◌}
use native.Mathlib.Nat.{mul-le-mul_right}
use native.Mathlib.Omega.{arith}
use borrow.Author.Tests.{eqb-true, eqb-false}
use lib.Dec.{eqb}
use lib.ListN.{length, take}
use Rattle.algebra.specs.Textbook.{HasDegree}
use Rattle.algebra.proofs.Rational.{ℚ-ring}
use Rattle.algebra.proofs.Degree.{deg-not-nil}
use Rattle.algebra.proofs.Lists.{poly-empty}
use Rattle.algebra.proofs.ListWords.{degree-from, zero-to, zero-from}
use Rattle.ratio.specs.declared.Ratio.{Ratio}
use Rattle.terms.specs.declared.Poly.{Poly}
use Rattle.terms.specs.Meaning.{rats}
use Rattle.terms.specs.Poly.{terms_of}
use Rattle.terms.proofs.Meaning.{poly_r}
use Rattle.terms.proofs.MeaningCanonical.{Canonical, canonical-degree}
use Rattle.poly.specs.declared.Gate.TheVariants.{Open}
use Rattle.poly.specs.Door.{door_of, both}
use Rattle.poly.specs.Promise.{reading}
use Rattle.poly.proofs.Canonical.{opened, both-open}
use Rattle.poly.proofs.Gives.{number-some}
use Rattle.euclid.proofs.Doors.{entered-keeps}
use Rattle.roots.specs.Answer.{budget_door}
use Rattle.yun.specs.declared.Piece.{Piece}
use Rattle.yun.specs.Promise.{degree_of, degrees, Every}
use Rattle.factor.specs.declared.Factorization.{Factorization}
use Rattle.factor.specs.Factors.{no_factors, work_of, factor_for}
use Rattle.factor.specs.Promise.{IsPart, Factors, FactorPromise}
use Rattle.factor.specs.Rebuild.{factors_in}
use Rattle.factor.proofs.Promises.{factor-promise}
use Rattle.ops.specs.declared.Op.{Op}
use Rattle.reply.specs.Results.{factors_text}
use Rattle.reply.specs.Promise.{Fits}
use Rattle.reply.proofs.Sizes.{coefficients, Few, factors-fit}

-- ---- by their degrees

spread : (l : List Piece) → Every IsPart l → Every (λ p. 1 ≤ p.times) l → (length l ≤ degrees l) × (coefficients l ≤ 2 * degrees l)
unfolding degrees coefficients
spread [] h o = (omega arith, omega arith)
spread (p ∷ l) h o =
    let r = spread l h.1 o.1 in
    let m = mul-le-mul_right (degree_of p) o.0 in
    let d : 1 ≤ degree_of p = h.0.proper in
    (omega arith, omega arith)

few-none : (f : Factorization) → f.len ≡ 0 → Few f
unfolding coefficients
few-none f e =
    let z : factors_in f ≡ [] = ap (λ n. take n f.pieces) e in
    record { pieces = rw z (omega arith); total = rw z (omega arith) }

few-some : (f : Factorization) (n : ℕ) → n ≤ 31 → degrees (factors_in f) ≡ n → Every IsPart (factors_in f) → Every (λ p. 1 ≤ p.times) (factors_in f) → Few f
few-some f n l e h o = let r = spread (factors_in f) h o in record { pieces = omega arith; total = omega arith }

-- ---- of any polynomial

answered-open : (p : Poly) (budget : ℕ) → status_of (factor_for p budget).outcome ≡ 0 → door_of p ≡ Open
answered-open p budget =
    entered-keeps no_factors (λ r. status_of r.outcome ≡ 0 → door_of p ≡ Open) (both (door_of p) (budget_door budget)) (work_of p budget)
    (λ e s. (both-open (door_of p) (budget_door budget) e).0)
    (λ h why s. absurd (omega (arith, number-some why)))

module _ (p : Poly) (f : Factorization) (h : FactorPromise p f) (s : status_of f.outcome ≡ 0) where
  by-terms : (t : List Ratio) → terms_of p ≡ t → Canonical t → length t ≤ 32 → Few f
  by-terms [] e c l = few-none f (h.of_zero s (zero-from (reading p) (ap poly_r e ∙ poly-empty)))
  by-terms (x ∷ t) e c l =
      let d : HasDegree (reading p) (length t) = subst (λ m. HasDegree (rats m) (length t)) (sym e) (degree-from (rats (x ∷ t)) (length t) (canonical-degree x t c)) in
      let k : Factors (reading p) (factors_in f) =
      h.factors s (λ z. deg-not-nil ℚ-ring (poly_r (x ∷ t)) (length t) (canonical-degree x t c) (ap poly_r (sym e) ∙ zero-to (reading p) z)) in
      few-some f (length t) (omega arith) (k.add-up (length t) d) k.parts k.occur

pub few-factors : (p : Poly) (budget : ℕ) → Few (factor_for p budget)
few-factors p budget = go (eqb (status_of (factor_for p budget).outcome) 0) refl
  where
    h : FactorPromise p (factor_for p budget)
    h = factor-promise p budget

    go : (t : Bool) → eqb (status_of (factor_for p budget).outcome) 0 ≡ t → Few (factor_for p budget)
    go true e =
        let s : status_of (factor_for p budget).outcome ≡ 0 = eqb-true (status_of (factor_for p budget).outcome) 0 e in
        let o = opened p (answered-open p budget s) in
        by-terms p (factor_for p budget) h s (terms_of p) refl o.canonical o.few
    go false e = few-none (factor_for p budget) (h.refused (eqb-false (status_of (factor_for p budget).outcome) 0 e)).0

-- the text of what is a polynomial's factorization fits
pub factored-fits : (op : Op) (f : Factorization) (p : Poly) (budget : ℕ) → f ≡ factor_for p budget → Fits (factors_text op f)
factored-fits op f p budget e = factors-fit op f (subst Few (sym e) (few-factors p budget))

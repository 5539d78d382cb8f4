-- The promise of the discriminant, said of its model: zero exactly if there is a divisor in common with the derivative, at most the price; answer and number of steps are those of the written chain.
use Rattle.ratio.specs.Refusal.{status_of}
use mathlib.Core.Path.{◌≡◌, refl}
use mathlib.Core.Logic.{◌↔◌}
use mathlib.Core.List.{List, [], ◌∷◌}
use Prim.Native.Nat.{ℕ, suc, ◌≤◌}
use native.Mathlib.Omega.{arith}
use lib.IntN.{pos}
use lib.ListN.{length}
use Rattle.algebra.specs.Polynomial.{derivative}
use Rattle.algebra.specs.Textbook.{HasDegree}
use Rattle.algebra.proofs.Rational.{0ℚ}
use Rattle.ratio.specs.Range.{limit}
use Rattle.ratio.specs.declared.Ratio.{Ratio}
use Rattle.ratio.specs.declared.Reason.{Reason}
use Rattle.ratio.proofs.Steps.{value}
use Rattle.terms.specs.declared.Poly.{Poly}
use Rattle.terms.specs.Machine.{Ran, fine, plain, whole_r}
use Rattle.terms.specs.Meaning.{rats}
use Rattle.terms.specs.Poly.{terms_of}
use Rattle.terms.proofs.MeaningCanonical.{Canonical}
use Rattle.terms.proofs.StepsCount.{steps_of}
use Rattle.poly.specs.declared.Gate.TheVariants.{Open}
use Rattle.poly.specs.Door.{door_of}
use Rattle.poly.specs.Promise.{reading}
use Rattle.poly.proofs.Canonical.{Opened, opened}
use Rattle.remainders.specs.Price.{discriminant_price}
use Rattle.remainders.specs.Resultant.{discriminant_of}
use Rattle.remainders.proofs.ChainWritten.{value_of, discriminant-tells}
use Rattle.remainders.proofs.MeaningDiscriminant.{discriminant-vanishes, discriminant-lowest}
use Rattle.remainders.proofs.MeaningResultant as R
use Rattle.remainders.proofs.PriceResultant.{discriminant-price}
use Rattle.euclid.specs.Answer.{no_whole, whole_of, discriminant_for}
use Rattle.euclid.specs.Promise.{CommonFactor, DiscriminantPromise, whole-only, Written-down, discriminant_run}
use Rattle.euclid.proofs.Doors.{never_done, entered-keeps, zero-nil, degree-length, in-degrees, fractions, written-down}
use Rattle.euclid.proofs.Resultants.{Vanishes, whole-steps, whole-vanishes, whole_back, whole-answers, common-same}

-- the same of a list that is known to be no constant
shares-derivative : (f : List Ratio) → Canonical f → 2 ≤ length f → (k k' : ℕ) (r : Ratio) → discriminant_of plain f k ≡ fine k' r → value r ≡ 0ℚ ↔ R.CommonFactor (rats f) (derivative (rats f))
shares-derivative [] c h k k' r e = absurd (omega arith)
shares-derivative (x ∷ []) c h k k' r e = absurd (omega arith)
shares-derivative (x ∷ y ∷ l) c h k k' r e = discriminant-vanishes x y l c k k' r e

discriminant-nil : (k : ℕ) → discriminant_of plain [] k ≡ fine k (whole_r (pos 0))
unfolding discriminant_of
discriminant-nil k = refl

discriminant-constant : (f : List Ratio) (k : ℕ) → length f ≡ 1 → discriminant_of plain f k ≡ fine k (whole_r (pos 1))
unfolding discriminant_of
discriminant-constant [] k h = absurd (omega arith)
discriminant-constant (x ∷ []) k h = refl
discriminant-constant (x ∷ y ∷ f) k h = absurd (omega arith)

module _ (f : Poly) where
  abbrev F : List Ratio
  F = terms_of f

  refused-discriminant : (door_of f ≡ Open → ⊥) → (why : Reason) → DiscriminantPromise f (no_whole why 0)
  refused-discriminant shut why = record {
    vanishes = λ n d s. absurd (never_done why s);
    only_then = λ n d s. absurd (never_done why s);
    price = λ n d. omega arith;
    of_zero = λ e. absurd (shut e);
    of-constant = λ e. absurd (shut e);
    chain = λ e. absurd (shut e);
  }

  module _ (o : Opened f) where
    abbrev run : Ran ℕ Ratio
    run = discriminant_of plain F 0

    discriminant-zero : (n : ℕ) → HasDegree (reading f) (suc n) → Vanishes (CommonFactor (reading f) (derivative (reading f))) (whole_of run)
    discriminant-zero n d =
        let l : length F ≡ suc (suc n) = degree-length F (suc n) o.canonical d in
        whole-vanishes (CommonFactor (reading f) (derivative (reading f))) run (λ k x. discriminant-lowest F 0 k x) (λ k x e.
        common-same (value x ≡ 0ℚ) (reading f) (derivative (reading f)) (shares-derivative F o.canonical (omega arith) 0 k x e))

    discriminant-costs : (n : ℕ) → HasDegree (reading f) n → steps_of run ≤ discriminant_price n
    discriminant-costs n d =
        let l : length F ≡ suc n = degree-length F n o.canonical d in
        in-degrees (λ x y. discriminant_price x) _ (length F) (length F) n n l l (discriminant-price F 0 (omega arith))

    discriminant-chain : Written-down whole-only F [] (λ w. w ∷ []) (discriminant_run f) (steps_of run) (status_of (whole_of run).outcome) (whole_r (whole_of run).value ∷ [])
    discriminant-chain =
        let few : length F ≤ limit = omega (arith, o.few) in
        written-down whole-only F [] value_of (λ w. w ∷ []) (λ x. x ∷ []) (λ w. refl) (discriminant_run f) run _ _ (discriminant-tells F (fractions F o.canonical) few)
        (whole_back run (λ k x. discriminant-lowest F 0 k x))

    discriminant-open : DiscriminantPromise f (whole_of run)
    discriminant-open = record {
      vanishes = λ n d. (discriminant-zero n d).so;
      only_then = λ n d. (discriminant-zero n d).only;
      price = λ n d. rw (whole-steps run) (discriminant-costs n d);
      of_zero = λ e z. whole-answers run (pos 0) 0 (rw (zero-nil F o.canonical z) (discriminant-nil 0));
      of-constant = λ e d. whole-answers run (pos 1) 0 (discriminant-constant F 0 (degree-length F 0 o.canonical d));
      chain = λ e. rw (whole-steps run) discriminant-chain;
    }

pub discriminant-promise : (f : Poly) → DiscriminantPromise f (discriminant_for f)
discriminant-promise f = entered-keeps (λ why. no_whole why 0) (DiscriminantPromise f) (door_of f) _ (λ e. discriminant-open f (opened f e)) (refused-discriminant f)

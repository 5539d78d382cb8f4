-- The promise of the square-free part, said of its model: it divides and keeps the roots, is canonical, takes at most the price; answer and number of steps are those of the written chain.
use Rattle.ratio.specs.Refusal.{status_of}
use mathlib.Core.Path.{◌≡◌, refl, subst}
use mathlib.Core.List.{List, [], ◌∷◌}
use Prim.Native.Nat.{ℕ, suc, ◌≤◌}
use native.Mathlib.Omega.{arith}
use lib.ListN.{length}
use Rattle.algebra.specs.Textbook.{HasDegree, IsZero}
use Rattle.ratio.specs.Range.{limit}
use Rattle.ratio.specs.declared.Ratio.{Ratio}
use Rattle.ratio.specs.declared.Reason.{Reason}
use Rattle.terms.specs.declared.Poly.{Poly}
use Rattle.terms.specs.Answer.{refused_with, answer_of}
use Rattle.terms.specs.Machine.{Ran, fine, plain}
use Rattle.terms.specs.Poly.{terms_of}
use Rattle.terms.proofs.Few.{answer-steps}
use Rattle.terms.proofs.MeaningCanonical.{Canonical, empty-canonical}
use Rattle.terms.proofs.MeaningStep.{same_answer}
use Rattle.terms.proofs.StepsCount.{steps_of}
use Rattle.poly.specs.declared.Gate.TheVariants.{Open}
use Rattle.poly.specs.Door.{door_of}
use Rattle.poly.specs.Promise.{reading}
use Rattle.poly.proofs.Canonical.{Opened, opened, open-nil}
use Rattle.remainders.specs.Gcd.{square_free}
use Rattle.remainders.specs.Price.{square_free_price}
use Rattle.remainders.proofs.ChainWritten.{values_of, square_free-tells}
use Rattle.remainders.proofs.MeaningDivision.{cons-some}
use Rattle.remainders.proofs.MeaningFree.{SquareFreePart, square-free-means}
use Rattle.remainders.proofs.PriceSquareFree.{square_free-price}
use Rattle.euclid.specs.Answer.{square_free_for}
use Rattle.euclid.specs.Promise.{SquareFreePromise, every, Written-down, square_free_run}
use Rattle.euclid.proofs.Doors.{never_done, entered-keeps, nil-zero, degree-length, in-degrees, divisor-short, Handed, answer-handed, fractions, answer_back, written-down}

-- a part that is answered is canonical and no longer than the polynomial
part-short : (f : List Ratio) → Canonical f → length f ≤ 32 → (k k' : ℕ) (p : List Ratio) → square_free plain f k ≡ fine k' p → Canonical p × (length p ≤ 32)
unfolding square_free
part-short [] c h k k' p e = subst (λ l. Canonical l × (length l ≤ 32)) (same_answer k k' [] p e) (empty-canonical, omega arith)
part-short (a ∷ f) c h k k' p e =
    let s = square-free-means (a ∷ f) c (cons-some a f) k k' p e in
    (s.canonical, omega (arith, divisor-short p (a ∷ f) s.canonical c (cons-some a f) s.divides))

module _ (f : Poly) where
  abbrev F : List Ratio
  F = terms_of f

  refused-part : (door_of f ≡ Open → ⊥) → (why : Reason) → SquareFreePromise f (refused_with why 0)
  refused-part shut why = record {
    divides = λ h s. absurd (never_done why s);
    roots_kept = λ h s. absurd (never_done why s);
    roots-only = λ h s. absurd (never_done why s);
    canonical = open-nil;
    price = λ n d. omega arith;
    chain = λ e. absurd (shut e);
  }

  module _ (o : Opened f) where
    abbrev run : Ran ℕ (List Ratio)
    run = square_free plain F 0

    part-handed : Handed (λ l. (IsZero (reading f) → ⊥) → SquareFreePart F l) (answer_of run)
    part-handed = answer-handed _ run (λ k p e.
        let (c, few) = part-short F o.canonical o.few 0 k p e in
        record { is = λ h. square-free-means F o.canonical (λ z. h (nil-zero F z)) 0 k p e; canonical = c; few = few })

    part-costs : (n : ℕ) → HasDegree (reading f) n → steps_of run ≤ square_free_price n
    part-costs n d =
        let l : length F ≡ suc n = degree-length F n o.canonical d in
        in-degrees (λ x y. square_free_price x) _ (length F) (length F) n n l l (square_free-price F 0 (omega arith))

    part-chain : Written-down every F [] (λ l. l) (square_free_run f) (steps_of run) (status_of (answer_of run).outcome) (terms_of (answer_of run).poly)
    part-chain =
        let few : length F ≤ limit = omega (arith, o.few) in
        written-down every F [] values_of (λ l. l) (λ l. l) (λ l. refl) (square_free_run f) run _ _ (square_free-tells F (fractions F o.canonical) few)
        (answer_back run (λ k p e. (part-short F o.canonical o.few 0 k p e).0))

    part-open : SquareFreePromise f (answer_of run)
    part-open = record {
      divides = λ h s. (part-handed.is s h).divides;
      roots_kept = λ h s x. ((part-handed.is s h).same-roots x).1;
      roots-only = λ h s x. ((part-handed.is s h).same-roots x).0;
      canonical = part-handed.canonical;
      price = λ n d. rw (answer-steps run) (part-costs n d);
      chain = λ e. rw (answer-steps run) part-chain;
    }

pub square-free-promise : (f : Poly) → SquareFreePromise f (square_free_for f)
square-free-promise f = entered-keeps (λ why. refused_with why 0) (SquareFreePromise f) (door_of f) _ (λ e. part-open f (opened f e)) (refused-part f)

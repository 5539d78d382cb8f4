-- The promise of the resultant, said of its model: zero exactly if there is a common divisor of degree at least 1, at most the price; answer and number of steps are those of the written chain.
use Rattle.ratio.specs.Refusal.{status_of}
use mathlib.Core.Path.{◌≡◌, refl, sym, ap, subst}
use mathlib.Core.Logic.{◌↔◌}
use mathlib.Core.Bool.{Bool, true, false}
use mathlib.Core.List.{List, [], ◌∷◌}
use Prim.Native.Nat.{ℕ, suc, ◌-◌, ◌≤◌}
use native.Mathlib.Omega.{arith}
use borrow.Author.Tests.{eqb-true, eqb-false}
use lib.Dec.{eqb}
use lib.IntN.{ℤ, pos, negsuc, nat_abs}
use lib.ListN.{length}
use lib.Signed.{◌<ℤ◌}
use Rattle.algebra.specs.Rational.{Rat}
use Rattle.algebra.specs.Textbook.{HasDegree, IsZero}
use Rattle.algebra.proofs.Rational.{0ℚ, over-nil}
use Rattle.ratio.specs.Promise.{Lowest}
use Rattle.ratio.specs.Step.{is_nil}
use Rattle.ratio.specs.declared.Ratio.{Ratio}
use Rattle.ratio.specs.declared.Reason.{Reason}
use Rattle.ratio.specs.declared.Reason.TheVariants.{CoeffOverflow}
use Rattle.ratio.proofs.Steps.{value, nil-value}
use Rattle.terms.specs.declared.Poly.{Poly}
use Rattle.terms.specs.Machine.{Ran, fine, over, plain, whole_r}
use Rattle.terms.specs.Poly.{terms_of}
use Rattle.terms.proofs.StepsCount.{steps_of}
use Rattle.poly.specs.declared.Gate.TheVariants.{Open}
use Rattle.poly.specs.Door.{door_of, both}
use Rattle.poly.specs.Promise.{reading}
use Rattle.poly.proofs.Canonical.{Opened}
use Rattle.remainders.specs.Price.{resultant_price}
use Rattle.remainders.specs.Resultant.{resultant_of}
use Rattle.remainders.proofs.ChainWritten.{value_of, resultant-tells}
use Rattle.remainders.proofs.MeaningResultant.{resultant-vanishes, resultant-lowest}
use Rattle.remainders.proofs.MeaningResultant as R
use Rattle.remainders.proofs.PriceResultant.{resultant-price}
use Rattle.euclid.specs.declared.Whole.{Whole}
use Rattle.euclid.specs.Answer.{no_whole, whole_if, whole_of, resultant_for}
use Rattle.euclid.specs.Promise.{CommonFactor, Answers, ResultantPromise, whole-only, Written-down, resultant_run}
use Rattle.euclid.proofs.Doors.{never_done, entered-keeps, entered-open, both-opened, nil-zero, zero-nil, degree-length, in-degrees, fractions, Back, fine_back, over-back, written-down}

-- ---- whole numbers

-- a fraction in lowest terms is zero exactly if its numerator is
zero-num : (r : Ratio) → Lowest r → value r ≡ 0ℚ ↔ r.num ≡ pos 0
zero-num r l = (
  λ e. over-nil r.num r.den l.fraction.den-some e,
  λ e. nil-value r l.fraction (ap is_nil e),
)

pub whole-steps : (r : Ran ℕ Ratio) → (whole_of r).steps ≡ steps_of r
whole-steps (fine k r) = steps-if (eqb (nat_abs r.den) 1)
  where
    steps-if : (t : Bool) → (whole_if t r.num k).steps ≡ k
    steps-if true = refl
    steps-if false = refl
whole-steps (over k) = refl

-- a whole number that is answered is zero exactly if the fraction is
pub record Vanishes (P : Type 0) (w : Whole) : Type 0 where
  pub so : status_of w.outcome ≡ 0 → w.value ≡ pos 0 → P
  pub only : status_of w.outcome ≡ 0 → P → w.value ≡ pos 0

vanishes-if : (P : Type 0) (r : Ratio) → Lowest r → value r ≡ 0ℚ ↔ P → (t : Bool) (k : ℕ) → Vanishes P (whole_if t r.num k)
vanishes-if P r l h true k = record { so = λ s e. h.0 ((zero-num r l).1 e); only = λ s p. (zero-num r l).0 (h.1 p) }
vanishes-if P r l h false k = record { so = λ s. absurd (never_done CoeffOverflow s); only = λ s. absurd (never_done CoeffOverflow s) }

pub whole-vanishes : (P : Type 0) (r : Ran ℕ Ratio) → ((k : ℕ) (x : Ratio) → r ≡ fine k x → Lowest x) → ((k : ℕ) (x : Ratio) → r ≡ fine k x → value x ≡ 0ℚ ↔ P) → Vanishes P (whole_of r)
whole-vanishes P (fine k x) l h = vanishes-if P x (l k x refl) (h k x refl) (eqb (nat_abs x.den) 1) k
whole-vanishes P (over k) l h = record { so = λ s. absurd (never_done CoeffOverflow s); only = λ s. absurd (never_done CoeffOverflow s) }

-- a fraction in lowest terms over 1 or −1 is a whole number
one-above : (d : ℤ) → pos 0 <ℤ d → nat_abs d ≡ 1 → d ≡ pos 1
one-above (pos n) h e = ap pos e
one-above (negsuc n) h e = absurd h.lt

whole-num : (r : Ratio) → Lowest r → nat_abs r.den ≡ 1 → r ≡ whole_r r.num
whole-num r l e = ap (λ d. record { num = r.num; den = d }) (one-above r.den l.above e)

back-if : (r : Ratio) → Lowest r → (k : ℕ) (t : Bool) → eqb (nat_abs r.den) 1 ≡ t → Back whole-only (λ x. x ∷ []) (fine k r) (status_of (whole_if t r.num k).outcome) (whole_r (whole_if t r.num k).value ∷ [])
back-if r l k true e = fine_back whole-only (λ x. x ∷ []) k r 0 _ (λ s. ap (λ x. x ∷ []) (whole-num r l (eqb-true (nat_abs r.den) 1 e))) (λ a. refl)
back-if r l k false e = fine_back whole-only (λ x. x ∷ []) k r 2 _ (λ s. absurd (never_done CoeffOverflow s)) (λ a. absurd (eqb-false (nat_abs r.den) 1 e (a 0 (omega arith))))

-- the number handed back is the fraction that the work ends in
pub whole_back : (r : Ran ℕ Ratio) → ((k : ℕ) (x : Ratio) → r ≡ fine k x → Lowest x) → Back whole-only (λ x. x ∷ []) r (status_of (whole_of r).outcome) (whole_r (whole_of r).value ∷ [])
whole_back (fine k x) l = back-if x (l k x refl) k (eqb (nat_abs x.den) 1) refl
whole_back (over k) l = over-back whole-only (λ x. x ∷ []) k _

-- work that comes to a whole number answers it
pub whole-answers : (r : Ran ℕ Ratio) (v : ℤ) (k : ℕ) → r ≡ fine k (whole_r v) → Answers (whole_of r) v k
whole-answers r v k e = subst (λ x. Answers (whole_of x) v k) (sym e) (record { done = refl; number = refl; count = refl })

-- ---- common divisors

pub common-to : (a b : List Rat) → CommonFactor a b → R.CommonFactor a b
common-to a b c = record { factor = c.factor; degree = suc c.degree; has-degree = c.has-degree; some-degree = omega arith; divides-a = c.divides-a; divides-b = c.divides-b }

pub common-from : (a b : List Rat) → R.CommonFactor a b → CommonFactor a b
common-from a b c =
    let e : c.degree ≡ suc (c.degree - 1) = omega (arith, c.some-degree) in
    record { factor = c.factor; degree = c.degree - 1; has-degree = subst (HasDegree c.factor) e c.has-degree; divides-a = c.divides-a; divides-b = c.divides-b }

pub common-same : (P : Type 0) (a b : List Rat) → P ↔ R.CommonFactor a b → P ↔ CommonFactor a b
common-same P a b h = (λ p. common-from a b (h.0 p), λ c. h.1 (common-to a b c))

-- ---- the resultant

resultant-nil-left : (b : List Ratio) (k : ℕ) → resultant_of plain [] b k ≡ fine k (whole_r (pos 0))
unfolding resultant_of
resultant-nil-left b k = refl

resultant-nil-right : (a : List Ratio) (k : ℕ) → resultant_of plain a [] k ≡ fine k (whole_r (pos 0))
unfolding resultant_of
resultant-nil-right [] k = refl
resultant-nil-right (x ∷ a) k = refl

module _ (a b : Poly) where
  abbrev A : List Ratio
  A = terms_of a

  abbrev B : List Ratio
  B = terms_of b

  refused-resultant : (both (door_of a) (door_of b) ≡ Open → ⊥) → (why : Reason) → ResultantPromise a b (no_whole why 0)
  refused-resultant shut why = record {
    vanishes = λ ha hb s. absurd (never_done why s);
    only_then = λ ha hb s. absurd (never_done why s);
    price = λ n m d e. omega arith;
    of-zero-left = λ e. absurd (shut (entered-open a b e));
    of-zero-right = λ e. absurd (shut (entered-open a b e));
    chain = λ e. absurd (shut (entered-open a b e));
  }

  module _ (oa : Opened a) (ob : Opened b) where
    abbrev run : Ran ℕ Ratio
    run = resultant_of plain A B 0

    resultant-zero : (IsZero (reading a) → ⊥) → (IsZero (reading b) → ⊥) → Vanishes (CommonFactor (reading a) (reading b)) (whole_of run)
    resultant-zero ha hb =
        whole-vanishes (CommonFactor (reading a) (reading b)) run (λ k x. resultant-lowest A B 0 k x) (λ k x e.
        common-same (value x ≡ 0ℚ) (reading a) (reading b)
        (resultant-vanishes A B oa.canonical ob.canonical (λ z. ha (nil-zero A z)) (λ z. hb (nil-zero B z)) 0 k x e))

    resultant-costs : (n m : ℕ) → HasDegree (reading a) n → HasDegree (reading b) m → steps_of run ≤ resultant_price n m
    resultant-costs n m d d' =
        let la : length A ≡ suc n = degree-length A n oa.canonical d in
        let lb : length B ≡ suc m = degree-length B m ob.canonical d' in
        in-degrees resultant_price _ (length A) (length B) n m la lb (resultant-price A B 0 (omega arith) (omega arith))

    resultant-chain : Written-down whole-only A B (λ w. w ∷ []) (resultant_run a b) (steps_of run) (status_of (whole_of run).outcome) (whole_r (whole_of run).value ∷ [])
    resultant-chain =
        written-down whole-only A B value_of (λ w. w ∷ []) (λ x. x ∷ []) (λ w. refl) (resultant_run a b) run _ _ (resultant-tells A B (fractions A oa.canonical) (fractions B ob.canonical))
        (whole_back run (λ k x. resultant-lowest A B 0 k x))

    resultant-open : ResultantPromise a b (whole_of run)
    resultant-open = record {
      vanishes = λ ha hb. (resultant-zero ha hb).so;
      only_then = λ ha hb. (resultant-zero ha hb).only;
      price = λ n m d d'. rw (whole-steps run) (resultant-costs n m d d');
      of-zero-left = λ e z. whole-answers run (pos 0) 0 (rw (zero-nil A oa.canonical z) (resultant-nil-left B 0));
      of-zero-right = λ e z. whole-answers run (pos 0) 0 (rw (zero-nil B ob.canonical z) (resultant-nil-right A 0));
      chain = λ e. rw (whole-steps run) resultant-chain;
    }

pub resultant-promise : (a b : Poly) → ResultantPromise a b (resultant_for a b)
resultant-promise a b =
    entered-keeps (λ why. no_whole why 0) (ResultantPromise a b) (both (door_of a) (door_of b)) _
    (λ e. let (oa, ob) = both-opened a b e in resultant-open a b oa ob)
    (refused-resultant a b)

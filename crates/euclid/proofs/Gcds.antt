-- The promise of the gcd, said of its model: the textbook's gcd, canonical, at most the price; answer and number of steps are those of the written chain.
use Rattle.ratio.specs.Refusal.{status_of}
use mathlib.Core.Path.{◌≡◌, refl, sym, subst, ◌∙◌}
use mathlib.Core.List.{List, [], ◌∷◌}
use Prim.Native.Nat.{ℕ, suc, ◌+◌, ◌≤◌}
use native.Mathlib.Omega.{arith}
use lib.ListN.{length}
use Rattle.algebra.specs.Textbook.{HasDegree, IsZero, IsGcd}
use Rattle.ratio.specs.declared.Ratio.{Ratio}
use Rattle.ratio.specs.declared.Reason.{Reason}
use Rattle.terms.specs.declared.Poly.{Poly}
use Rattle.terms.specs.Answer.{refused_with, answer_of}
use Rattle.terms.specs.Machine.{Ran, fine, plain}
use Rattle.terms.specs.Meaning.{rats}
use Rattle.terms.specs.Poly.{terms_of}
use Rattle.terms.proofs.Few.{answer-steps}
use Rattle.terms.proofs.MeaningCanonical.{Canonical, empty-canonical}
use Rattle.terms.proofs.MeaningStep.{same_answer}
use Rattle.terms.proofs.StepsCount.{steps_of}
use Rattle.poly.specs.declared.Gate.TheVariants.{Open}
use Rattle.poly.specs.Door.{door_of, both}
use Rattle.poly.specs.Promise.{reading}
use Rattle.poly.proofs.Canonical.{Opened, open-nil}
use Rattle.remainders.specs.Gcd.{gcd_of}
use Rattle.remainders.specs.Price.{gcd_price}
use Rattle.remainders.proofs.ChainWritten.{values_of, gcd-tells}
use Rattle.remainders.proofs.MeaningDivision.{cons-some}
use Rattle.remainders.proofs.MeaningGcd.{gcd-means, gcd-canonical, gcd-of-zeros}
use Rattle.remainders.proofs.PriceGcd.{gcd-price, gcd-price-right-zero, gcd-price-left-zero}
use Rattle.euclid.specs.Answer.{gcd_for}
use Rattle.euclid.specs.Promise.{GcdPromise, every, Written-down, gcd_run}
use Rattle.euclid.proofs.Doors.{never_done, entered-keeps, entered-open, both-opened, nil-zero, zero-nil, degree-length, in-degrees, divisor-short, answer-canonical, Handed, answer-handed, fractions, answer_back, written-down}

gcd-zeros : (a b : List Ratio) (k : ℕ) → a ≡ [] → b ≡ [] → gcd_of plain a b k ≡ fine k []
gcd-zeros a b k p q = rw (p, q) (gcd-of-zeros k)

-- a gcd that is answered is canonical and no longer than an input
module _ (k k' : ℕ) (g : List Ratio) where
  gcd-short : (a b : List Ratio) → Canonical a → Canonical b → length a ≤ 32 → length b ≤ 32 → gcd_of plain a b k ≡ fine k' g → Canonical g × (length g ≤ 32)
  gcd-short [] [] ca cb la lb e = subst (λ l. Canonical l × (length l ≤ 32)) (same_answer k k' [] g (sym (gcd-of-zeros k) ∙ e)) (empty-canonical, omega arith)
  gcd-short [] (y ∷ b) ca cb la lb e =
      let some : [] ≡ [] → y ∷ b ≡ [] → ⊥ = λ p q. cons-some y b q in
      let c : Canonical g = gcd-canonical [] (y ∷ b) ca cb some k k' g e in
      (c, omega (arith, divisor-short g (y ∷ b) c cb (cons-some y b) (gcd-means [] (y ∷ b) ca cb some k k' g e).divides-b))
  gcd-short (x ∷ a) b ca cb la lb e =
      let some : x ∷ a ≡ [] → b ≡ [] → ⊥ = λ p q. cons-some x a p in
      let c : Canonical g = gcd-canonical (x ∷ a) b ca cb some k k' g e in
      (c, omega (arith, divisor-short g (x ∷ a) c ca (cons-some x a) (gcd-means (x ∷ a) b ca cb some k k' g e).divides-a))

module _ (a b : Poly) where
  abbrev A : List Ratio
  A = terms_of a

  abbrev B : List Ratio
  B = terms_of b

  refused-gcd : (both (door_of a) (door_of b) ≡ Open → ⊥) → (why : Reason) → GcdPromise a b (refused_with why 0)
  refused-gcd shut why = record {
    is = λ h s. absurd (never_done why s);
    of-zeros = λ p q s. absurd (never_done why s);
    canonical = open-nil;
    price = λ n m d e. omega arith;
    with-zero = λ n z d. omega arith;
    zero-with = λ n z d. omega arith;
    chain = λ e. absurd (shut (entered-open a b e));
  }

  module _ (oa : Opened a) (ob : Opened b) where
    abbrev run : Ran ℕ (List Ratio)
    run = gcd_of plain A B 0

    gcd-handed : Handed (λ l. (IsZero (reading a) → IsZero (reading b) → ⊥) → IsGcd (reading a) (reading b) (rats l)) (answer_of run)
    gcd-handed = answer-handed _ run (λ k g e.
        let (c, few) = gcd-short 0 k g A B oa.canonical ob.canonical oa.few ob.few e in
        record { is = λ h. gcd-means A B oa.canonical ob.canonical (λ p q. h (nil-zero A p) (nil-zero B q)) 0 k g e; canonical = c; few = few })

    zeros-handed : IsZero (reading a) → IsZero (reading b) → IsZero (reading (answer_of run).poly) × ((answer_of run).steps ≡ 0)
    zeros-handed p q = subst (λ r. IsZero (reading (answer_of r).poly) × ((answer_of r).steps ≡ 0)) (sym (gcd-zeros A B 0 (zero-nil A oa.canonical p) (zero-nil B ob.canonical q))) (
      nil-zero (terms_of (answer_of (fine 0 [])).poly) (answer-canonical 0 [] empty-canonical),
      refl,
    )

    gcd-costs : (n m : ℕ) → HasDegree (reading a) n → HasDegree (reading b) m → steps_of run ≤ gcd_price n m
    gcd-costs n m d d' =
        let la : length A ≡ suc n = degree-length A n oa.canonical d in
        let lb : length B ≡ suc m = degree-length B m ob.canonical d' in
        in-degrees gcd_price _ (length A) (length B) n m la lb (gcd-price A B 0 (omega arith) (omega arith))

    scaled-left : (n : ℕ) → IsZero (reading b) → HasDegree (reading a) n → steps_of run ≤ n + 1
    scaled-left n z d = rw (zero-nil B ob.canonical z) (omega (arith, gcd-price-right-zero A 0, degree-length A n oa.canonical d))

    scaled-right : (n : ℕ) → IsZero (reading a) → HasDegree (reading b) n → steps_of run ≤ n + 1
    scaled-right n z d = rw (zero-nil A oa.canonical z) (omega (arith, gcd-price-left-zero B 0, degree-length B n ob.canonical d))

    gcd-chain : Written-down every A B (λ l. l) (gcd_run a b) (steps_of run) (status_of (answer_of run).outcome) (terms_of (answer_of run).poly)
    gcd-chain =
        written-down every A B values_of (λ l. l) (λ l. l) (λ l. refl) (gcd_run a b) run _ _ (gcd-tells A B (fractions A oa.canonical) (fractions B ob.canonical))
        (answer_back run (λ k g e. (gcd-short 0 k g A B oa.canonical ob.canonical oa.few ob.few e).0))

    gcd-open : GcdPromise a b (answer_of run)
    gcd-open = record {
      is = λ h s. gcd-handed.is s h;
      of-zeros = λ p q s. zeros-handed p q;
      canonical = gcd-handed.canonical;
      price = λ n m d d'. rw (answer-steps run) (gcd-costs n m d d');
      with-zero = λ n z d. rw (answer-steps run) (scaled-left n z d);
      zero-with = λ n z d. rw (answer-steps run) (scaled-right n z d);
      chain = λ e. rw (answer-steps run) gcd-chain;
    }

pub gcd-promise : (a b : Poly) → GcdPromise a b (gcd_for a b)
gcd-promise a b =
    entered-keeps (λ why. refused_with why 0) (GcdPromise a b) (both (door_of a) (door_of b)) _
    (λ e. let (oa, ob) = both-opened a b e in gcd-open a b oa ob)
    (refused-gcd a b)

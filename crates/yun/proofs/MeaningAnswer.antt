-- An answered decomposition is one: monic factors whose powers multiply to the polynomial over its leading coefficient. A refused one is a step's refusal.
use Rattle.ratio.specs.Refusal.{no_refusal}
use Rattle.std.specs.Prelude.{Ok, Err}
use mathlib.Core.Path.{◌≡◌, refl, sym, ap, ap₂, subst, ◌∙◌}
use mathlib.Core.List.{List, [], ◌∷◌}
use Prim.Native.Nat.{ℕ, suc, ◌≤◌}
use native.Mathlib.Omega.{arith}
use lib.ListN.{length}
use Rattle.algebra.specs.Polynomial.{coeff, Equal, scaled}
use Rattle.algebra.specs.Textbook.{HasDegree}
use Rattle.algebra.proofs.Rational.{ℚ-ring, ℚ-domain, ◌*ℚ◌, val}
use Rattle.algebra.proofs.Poly.{con_p}
use Rattle.algebra.proofs.Constants.{con-mul-at}
use Rattle.algebra.proofs.Degree.{HasDeg, deg-unique}
use Rattle.algebra.proofs.PolyDomain.{deg-scaled}
use Rattle.algebra.proofs.Monic.{MonicP, monic-deg, monic-not-nil}
use Rattle.algebra.proofs.Lists.{◌*P◌, poly-empty, poly-at, poly-equal, poly-scaled}
use Rattle.algebra.proofs.ListWords.{degree-to, degree-from}
use Rattle.ratio.specs.declared.Ratio.{Ratio}
use Rattle.ratio.specs.declared.Reason.{Reason}
use Rattle.ratio.specs.declared.Reason.TheVariants.{CoeffOverflow}
use Rattle.terms.specs.Machine.{plain}
use Rattle.terms.specs.Meaning.{rats}
use Rattle.terms.specs.Poly.{terms_of}
use Rattle.terms.proofs.Meaning.{poly_r}
use Rattle.terms.proofs.MeaningCanonical.{Canonical, canonical-degree}
use Rattle.remainders.specs.Gcd.{monic}
use Rattle.remainders.proofs.CodeAnswer.{done_refused}
use Rattle.remainders.proofs.MeaningGcd.{MonicOf, monic-means, monic-back}
use Rattle.yun.specs.declared.Piece.{Piece}
use Rattle.yun.specs.declared.Decomposition.{Decomposition}
use Rattle.yun.specs.Got.{Got, got, none, then_got, list_from}
use Rattle.yun.specs.Yun.{split_of, or_whole, square_frees}
use Rattle.yun.specs.Answer.{pieces_of, found_all, decomposition_of}
use Rattle.yun.specs.Promise.{powers, bases, degrees, Every, Decomposes}
use Rattle.yun.proofs.CodeFound.{found-pieces}
use Rattle.yun.proofs.MeaningRound.{SquareFreeP}
use Rattle.yun.proofs.MeaningPieces.{Fine, powers_p, powers-poly, bases-poly, square-free-from, every-factor, every-proper, powers-degree, degrees-many, every-short}
use Rattle.yun.proofs.MeaningTurn.{list-worked, list_over, Complete, Found}
use Rattle.yun.proofs.MeaningYun.{split-found, all_found}

-- what was answered: the promise, and that each factor is in canonical form and no longer than f
pub record Decomposed (f : List Ratio) (l : List Piece) : Type 0 where
  pub promise : Decomposes (rats f) l
  pub fine : Every (Fine (length f)) l
  pub short : Every (λ p. length (terms_of p.poly) ≤ length f) l

-- both are answered, where the two together are
record ThenGot {X Y : Type 0} (g : Got X) (k : X → Got Y) (y : Y) : Type 0 where
  value : X
  first : g ≡ got value
  then : k value ≡ got y

then-got : {X Y : Type 0} (g : Got X) (k : X → Got Y) (y : Y) → then_got g k ≡ got y → ThenGot g k y
then-got (got x) k y e = record { value = x; first = refl; then = e }
then-got (none why) k y e = absurd (let z : ◌≡◌ {A = ℕ} 0 1 = cc in omega arith)

-- f is its leading coefficient times m
module _ (x : Ratio) (f : List Ratio) (c : Canonical (x ∷ f)) (m : List Ratio) (z : MonicOf (x ∷ f) m) where
  lead-times : poly_r (x ∷ f) ≡ con_p ℚ-ring z.lead *P poly_r m
  lead-times = monic-back (x ∷ f) m z

  same-degree : z.monic.degree ≡ length f
  same-degree = deg-unique ℚ-ring (poly_r (x ∷ f)) z.monic.degree (length f)
      (subst (λ p. HasDeg ℚ-ring p z.monic.degree) (sym lead-times) (deg-scaled ℚ-domain z.lead (poly_r m) z.monic.degree z.lead-ne (monic-deg ℚ-domain (poly_r m) z.monic)))
      (canonical-degree x f c)

  same_length : length m ≡ suc (length f)
  same_length = go m z.monic z.canonical same-degree
    where
      go : (m : List Ratio) (k : MonicP ℚ-ring (poly_r m)) → Canonical m → k.degree ≡ length f → length m ≡ suc (length f)
      go [] k c e = absurd (monic-not-nil ℚ-domain (poly_r []) k poly-empty)
      go (y ∷ m) k c e = ap suc (deg-unique ℚ-ring (poly_r (y ∷ m)) (length m) k.degree (canonical-degree y m c) (monic-deg ℚ-domain (poly_r (y ∷ m)) k) ∙ e)

  lead-at : (n : ℕ) → HasDegree (rats (x ∷ f)) n → val (coeff (rats (x ∷ f)) n) ≡ z.lead
  lead-at n d =
      let e : n ≡ z.monic.degree = deg-unique ℚ-ring (poly_r (x ∷ f)) n (length f) (degree-to (rats (x ∷ f)) n d) (canonical-degree x f c) ∙ sym same-degree in
      sym (poly-at (rats (x ∷ f)) n) ∙ ap (λ p. p.0 n) lead-times ∙ con-mul-at ℚ-ring z.lead (poly_r m) n
      ∙ ap (λ t. z.lead *ℚ t) (ap (poly_r m).0 e ∙ z.monic.leads) ∙ ℚ-ring.mul-one z.lead

  module _ (l : List Piece) (k : Complete (length (x ∷ f)) (poly_r m) l) where
    products : (n : ℕ) → HasDegree (rats (x ∷ f)) n → Equal (rats (x ∷ f)) (scaled (coeff (rats (x ∷ f)) n) (powers l))
    products n d = poly-equal (rats (x ∷ f)) (scaled (coeff (rats (x ∷ f)) n) (powers l))
        (lead-times ∙ ap₂ (λ u v. con_p ℚ-ring u *P v) (sym (lead-at n d)) (k.is ∙ sym (powers-poly l)) ∙ sym (poly-scaled (coeff (rats (x ∷ f)) n) (powers l)))

    sums : (n : ℕ) → HasDegree (rats (x ∷ f)) n → degrees l ≡ n
    sums n d =
        deg-unique ℚ-ring (powers_p l) (degrees l) z.monic.degree (powers-degree (length (x ∷ f)) l k.factors) (subst (λ p. HasDeg ℚ-ring p z.monic.degree) k.is (monic-deg ℚ-domain (poly_r m) z.monic))
        ∙ same-degree ∙ sym (deg-unique ℚ-ring (poly_r (x ∷ f)) n (length f) (degree-to (rats (x ∷ f)) n d) (canonical-degree x f c))

    more : (n : ℕ) → HasDegree (rats (x ∷ f)) (suc n) → 2 ≤ length (x ∷ f)
    more n d = let e : suc n ≡ length f = deg-unique ℚ-ring (poly_r (x ∷ f)) (suc n) (length f) (degree-to (rats (x ∷ f)) (suc n) d) (canonical-degree x f c) in omega arith

    complete-promise : Decomposed (x ∷ f) l
    complete-promise = record {
      promise = record {
        factors = every-factor (length (x ∷ f)) l k.factors;
        rising = k.rising;
        multiply = products;
        square-free = square-free-from (bases l) (subst SquareFreeP (sym (bases-poly l)) k.once);
        add-up = sums;
        proper = λ n d. every-proper (length (x ∷ f)) l (more n d) k.factors;
        few = λ n d. omega (arith, sums (suc n) d, degrees-many (length (x ∷ f)) l 0 (more n d) k.factors k.rising);
      };
      fine = k.factors;
      short = subst (λ n. Every (λ p. length (terms_of p.poly) ≤ suc n) l) (sums (length f) (degree-from (rats (x ∷ f)) (length f) (canonical-degree x f c))) (every-short (length (x ∷ f)) l 0 k.factors k.rising);
    }

-- f scaled
monic-of : (x : Ratio) (f : List Ratio) → Canonical (x ∷ f) → (m : List Ratio) → list_from (monic plain (x ∷ f) 0) ≡ got m → MonicOf (x ∷ f) m
monic-of x f c m e =
    let w = list-worked (monic plain (x ∷ f) 0) m e in
    let y : MonicOf (x ∷ f) w.list = monic-means x f c 0 w.steps w.list w.is in
    subst (MonicOf (x ∷ f)) (sym y.canonical.trimmed ∙ w.trimmed) y

pub decomposition-means : (f : List Ratio) → Canonical f → (f ≡ [] → ⊥) → (l : List Piece) → square_frees f ≡ got l → Decomposed f l
unfolding square_frees
decomposition-means [] c some l e = absurd (some refl)
decomposition-means (x ∷ f) c some l e =
    let a = then-got (list_from (monic plain (x ∷ f) 0)) _ l e in
    let z : MonicOf (x ∷ f) a.value = monic-of x f c a.value a.first in
    let b = then-got (split_of a.value) _ l a.then in
    let n : length a.value ≡ suc (length f) = same_length x f c a.value z in
    let h : 2 ≤ length (x ∷ f) → 2 ≤ length a.value = λ g. omega arith in
    let k : Complete (length (x ∷ f)) (poly_r a.value) (or_whole a.value b.value) = all_found (length (x ∷ f)) a.value z.canonical z.monic (omega arith) h b.value b.first in
    let same : or_whole a.value b.value ≡ l = cc in
    complete-promise x f c a.value z l (subst (Complete (length (x ∷ f)) (poly_r a.value)) same k)

-- ---- a refusal

then-over : {X Y : Type 0} (g : Got X) (k : X → Got Y) (why : Reason) → ((why : Reason) → g ≡ none why → why ≡ CoeffOverflow) → ((x : X) → g ≡ got x → k x ≡ none why → why ≡ CoeffOverflow) → then_got g k ≡ none why → why ≡ CoeffOverflow
then-over (got x) k why h j e = j x refl e
then-over (none w) k why h j e = let same : w ≡ why = cc in h why (ap none same)

pub decomposition-refuses : (f : List Ratio) → Canonical f → (why : Reason) → square_frees f ≡ none why → why ≡ CoeffOverflow
unfolding square_frees
decomposition-refuses [] c why e = absurd (let z : ◌≡◌ {A = ℕ} 0 1 = cc in omega arith)
decomposition-refuses (x ∷ f) c why e = then-over (list_from (monic plain (x ∷ f) 0)) _ why (list_over (monic plain (x ∷ f) 0)) (λ m p q.
    let z : MonicOf (x ∷ f) m = monic-of x f c m p in
    then-over (split_of m) _ why (λ w s. subst (Found 0 (poly_r m)) s (split-found 0 m z.canonical z.monic)) (λ l s t. absurd (let z : ◌≡◌ {A = ℕ} 0 1 = cc in omega arith)) q) e

-- ---- what is handed back

module _ (f : List Ratio) (c : Canonical f) (r : Decomposition) where
  answered-by : (s : Got (List Piece)) → square_frees f ≡ s → r ≡ decomposition_of s → (f ≡ [] → ⊥) → r.outcome ≡ no_refusal → Decomposed f (pieces_of r)
  answered-by (got l) p e some o = subst (Decomposed f) (sym (ap pieces_of e ∙ found-pieces l)) (decomposition-means f c some l p)
  answered-by (none why) p e some o = done_refused r.outcome why o (ap (λ (x : Decomposition). x.outcome) e)

  refused-by : (s : Got (List Piece)) → square_frees f ≡ s → r ≡ decomposition_of s → (why : Reason) → r.outcome ≡ Err why → (why ≡ CoeffOverflow) × (pieces_of r ≡ [])
  refused-by (got l) p e why o = done_refused r.outcome why (ap (λ (x : Decomposition). x.outcome) e) o
  refused-by (none w) p e why o =
      let same : w ≡ why = cc in
      (sym same ∙ decomposition-refuses f c w p, ap pieces_of e)

  module _ (e : r ≡ decomposition_of (square_frees f)) where
    pub answered-means : (f ≡ [] → ⊥) → r.outcome ≡ no_refusal → Decomposed f (pieces_of r)
    answered-means = answered-by (square_frees f) refl e

    pub refused-means : (why : Reason) → r.outcome ≡ Err why → (why ≡ CoeffOverflow) × (pieces_of r ≡ [])
    refused-means = refused-by (square_frees f) refl e

-- zero has no factors
pub zero-means : (r : Decomposition) → r ≡ decomposition_of (square_frees []) → r ≡ found_all []
unfolding square_frees
zero-means r e = e

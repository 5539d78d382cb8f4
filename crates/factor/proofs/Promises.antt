-- The promise of the factors: the powers of what was found multiply to the polynomial over its leading coefficient.
use Rattle.std.specs.Prelude.{Result, Ok, Err}
use mathlib.Core.Path.{◌≡◌, refl, sym, ap, ap₂, subst, ◌∙◌}
use mathlib.Core.List.{List, [], ◌∷◌}
use Prim.Native.Nat.{ℕ, suc, ◌≤◌}
use native.Mathlib.Omega.{arith}
use lib.ListN.{length}
use Rattle.algebra.specs.Rational.{zero_q}
use Rattle.algebra.specs.Polynomial.{coeff, Equal, scaled}
use Rattle.algebra.specs.Textbook.{HasDegree, IsZero}
use Rattle.algebra.proofs.Reflect.{ring!, reify}
use Rattle.algebra.proofs.Rational.{ℚ, ℚ-ring, ℚ-domain, 0ℚ, 1ℚ, val, val-zero, same-val}
use Rattle.algebra.proofs.Poly.{Poly-ring, con_p, nil_p}
use Rattle.algebra.proofs.Constants.{con-mul, con-mul-at}
use Rattle.algebra.proofs.Degree.{HasDeg, deg-con, deg-not-nil, deg-unique}
use Rattle.algebra.proofs.PolyDomain.{deg-scaled, P-cancel}
use Rattle.algebra.proofs.Lists.{ℚP, ◌*P◌, poly-at, poly-equal, equal-poly, poly-scaled, poly-empty}
use Rattle.algebra.proofs.ListWords.{degree-to, degree-from, zero-to, zero-from}
use Rattle.ratio.specs.Promise.{Lowest}
use Rattle.ratio.specs.Refusal.{number_of, ratio_of, Outcome, status_of, no_refusal}
use Rattle.ratio.specs.declared.Ratio.{Ratio}
use Rattle.ratio.specs.declared.Reason.{Reason}
use Rattle.ratio.specs.declared.Reason.TheVariants.{BadInput}
use Rattle.terms.specs.declared.Poly.{Poly}
use Rattle.terms.specs.Meaning.{rats}
use Rattle.terms.specs.Poly.{terms_of}
use Rattle.terms.proofs.Meaning.{poly_r}
use Rattle.terms.proofs.MeaningCanonical.{Canonical, canonical-degree, canonical-nil}
use Rattle.poly.specs.declared.Gate.TheVariants.{Open}
use Rattle.poly.specs.Door.{door_of, both}
use Rattle.poly.specs.Promise.{reading}
use Rattle.poly.proofs.Canonical.{Opened, opened, open-poly, both-open}
use Rattle.poly.proofs.Gives.{number-some}
use Rattle.euclid.proofs.Doors.{entered-keeps}
use Rattle.roots.specs.Answer.{budget_door}
use Rattle.roots.specs.Content.{content_for, primitive_of}
use Rattle.roots.specs.ContentPromise.{MultipleOf, PrimitivePromise}
use Rattle.roots.proofs.Contents.{content-promise}
use Rattle.roots.proofs.Primitives.{primitive-promise}
use Rattle.yun.specs.declared.Decomposition.{Decomposition}
use Rattle.yun.specs.declared.Piece.{Piece}
use Rattle.yun.specs.Answer.{refused_for, decomposition_of}
use Rattle.yun.specs.Got.{Got, got, none, then_got}
use Rattle.yun.specs.Promise.{factor, degree_of, powers, degrees, Every, Decomposes}
use Rattle.yun.specs.Yun.{square_frees}
use Rattle.yun.proofs.CodeFound.{found-pieces}
use Rattle.yun.proofs.MeaningAnswer.{Decomposed, decomposition-means}
use Rattle.yun.proofs.MeaningPieces.{powers_p, powers-poly, powers-none, every_map}
use Rattle.splitting.specs.Split.{split_all}
use Rattle.splitting.proofs.MeaningParts.{Part}
use Rattle.splitting.proofs.MeaningAll.{Refined, split-all-means, part-degree, parts-degree}
use Rattle.factor.specs.declared.Factorization.{Factorization}
use Rattle.factor.specs.Factors.{got_in, got_of, split_parts, factors_of, no_factors, factors_with, with_content, work_of, decomposition_for, factor_for}
use Rattle.factor.specs.Promise.{IsPart, Factors, FactorPromise, DecompositionPromise}
use Rattle.factor.proofs.Occurs.{Occurs, parts-occur}

-- ---- what was got

pub record ThenGot {X Y : Type 0} (g : Got X) (k : X → Got Y) (y : Y) : Type 0 where
  pub value : X
  pub first : g ≡ got value
  pub then : k value ≡ got y

pub then-got : {X Y : Type 0} (g : Got X) (k : X → Got Y) (y : Y) → then_got g k ≡ got y → ThenGot g k y
then-got (got x) k y e = record { value = x; first = refl; then = e }
then-got (none why) k y e = absurd (let z : ◌≡◌ {A = ℕ} 0 1 = cc in omega arith)

pub got-answer : (o : Outcome) (l m : List Ratio) → got_in o l ≡ got m → (o ≡ no_refusal) × (l ≡ m)
got-answer (Ok _) l m e = (refl, cc)
got-answer (Err why) l m e = absurd (let z : ◌≡◌ {A = ℕ} 0 1 = cc in omega arith)

no-status : (why : Reason) → number_of why ≡ 0 → ⊥
no-status why e = omega (arith, number-some why)

-- ---- a list of factors

part-is : (p : Piece) → Part p → IsPart p
part-is p h = record {
  canonical = subst (λ (q : Poly). door_of q ≡ Open) (sym h.made) (open-poly (terms_of p.poly) h.short h.canonical);
  has-degree = degree-from (factor p) (degree_of p) (part-degree (terms_of p.poly) h.canonical h.long);
  proper = omega (arith, h.long);
}

terms-some : (l : List Ratio) → (l ≡ [] → ⊥) → Canonical l → (n : ℕ) × HasDeg ℚ-ring (poly_r l) n × (length l ≡ suc n)
terms-some [] h c = absurd (h refl)
terms-some (x ∷ l) h c = (length l, canonical-degree x l c, refl)

-- ---- behind the door

module _ (p : Poly) (budget : ℕ) (o : Opened p) (l : List Piece) (e : split_parts p budget ≡ got l) where
  first : ThenGot (got_of (primitive_of p)) (λ q. then_got (square_frees q) (λ l. split_all l budget [])) l
  unfolding split_parts
  first = then-got (got_of (primitive_of p)) _ l e

  -- the primitive part
  q : List Ratio
  q = first.value

  part : PrimitivePromise p (primitive_of p)
  part = primitive-promise p

  answered : ((primitive_of p).outcome ≡ no_refusal) × (terms_of (primitive_of p).poly ≡ q)
  unfolding q
  answered = got-answer (primitive_of p).outcome (terms_of (primitive_of p).poly) q first.first

  status : status_of (primitive_of p).outcome ≡ 0
  status = ap status_of answered.0

  q-open : Opened (primitive_of p).poly
  q-open = opened (primitive_of p).poly part.canonical

  q-canonical : Canonical q
  q-canonical = subst Canonical answered.1 q-open.canonical

  q-short : length q ≤ 32
  q-short = subst (λ t. length t ≤ 32) answered.1 q-open.few

  second : ThenGot (square_frees q) (λ l. split_all l budget []) l
  unfolding q
  second = then-got (square_frees q) _ l first.then

  -- zero has no factors
  zero-list : IsZero (reading p) → l ≡ []
  unfolding square_frees split_all
  zero-list z =
      let r : q ≡ [] = canonical-nil q q-canonical (subst (λ t. poly_r t ≡ nil_p ℚ-ring) answered.1 (zero-to (reading (primitive_of p).poly) (part.of_zero z status))) in
      let s : got second.value ≡ got [] = sym second.first ∙ ap square_frees r in
      let t : second.value ≡ [] = cc in
      let u : split_all [] budget [] ≡ got l = ap (λ m. split_all m budget []) (sym t) ∙ second.then in
      cc

  module _ (some : IsZero (reading p) → ⊥) where
    multiple : MultipleOf (reading p) (reading (primitive_of p).poly)
    multiple = part.is some status

    k : ℚ
    k = val multiple.factor

    k-some : k ≡ 0ℚ → ⊥
    unfolding k
    k-some z = multiple.some (same-val multiple.factor zero_q (z ∙ sym val-zero))

    q-is : poly_r q ≡ con_p ℚ-ring k *P poly_r (terms_of p)
    unfolding k
    q-is = ap poly_r (sym answered.1) ∙ equal-poly (reading (primitive_of p).poly) (scaled multiple.factor (reading p)) multiple.is ∙ poly-scaled multiple.factor (reading p)

    module _ (n : ℕ) (d : HasDegree (reading p) n) where
      p-degree : HasDeg ℚ-ring (poly_r (terms_of p)) n
      p-degree = degree-to (reading p) n d

      q-degree : HasDeg ℚ-ring (poly_r q) n
      q-degree = subst (λ t. HasDeg ℚ-ring t n) (sym q-is) (deg-scaled ℚ-domain k (poly_r (terms_of p)) n k-some p-degree)

      q-some : q ≡ [] → ⊥
      q-some z = deg-not-nil ℚ-ring (poly_r q) n q-degree (ap poly_r z ∙ poly-empty)

      pieces : Decomposed q second.value
      pieces = decomposition-means q q-canonical q-some second.value second.first

      sum : degrees second.value ≡ n
      sum = pieces.promise.add-up n (degree-from (rats q) n q-degree)

      low : n ≤ 31
      low =
          let t = terms-some q q-some q-canonical in
          omega (arith, deg-unique ℚ-ring (poly_r q) n t.0 q-degree t.1, t.2, q-short)

      refined : Refined [] second.value l
      refined = split-all-means (length q) budget second.value pieces.fine pieces.promise.rising (omega (arith, sum, low)) l second.then

      same-product : powers_p l ≡ powers_p second.value
      same-product = refined.is ∙ ap (λ t. t *P powers_p second.value) powers-none ∙ (Poly-ring ℚ-ring).mul_comm (con_p ℚ-ring 1ℚ) (powers_p second.value) ∙ (Poly-ring ℚ-ring).mul-one (powers_p second.value)

      lead : ℚ
      lead = (poly_r (terms_of p)).0 n

      regroup : (a b c : ℚP) → (a *P b) *P c ≡ (b *P c) *P a
      regroup a b c = ring! (Poly-ring ℚ-ring) (a ∷ b ∷ c ∷ []) (search reify depth 30 fits 20000) tt

      q-product : poly_r q ≡ (con_p ℚ-ring lead *P powers_p l) *P con_p ℚ-ring k
      unfolding lead
      q-product =
          equal-poly (rats q) (scaled (coeff (rats q) n) (powers second.value)) (pieces.promise.multiply n (degree-from (rats q) n q-degree))
          ∙ poly-scaled (coeff (rats q) n) (powers second.value)
          ∙ ap₂ (λ u v. con_p ℚ-ring u *P v) (sym (poly-at (rats q) n) ∙ ap (λ (t : ℚP). t.0 n) q-is ∙ con-mul-at ℚ-ring k (poly_r (terms_of p)) n) (powers-poly second.value ∙ sym same-product)
          ∙ ap (λ t. t *P powers_p l) (con-mul ℚ-ring k lead)
          ∙ regroup (con_p ℚ-ring k) (con_p ℚ-ring lead) (powers_p l)

      p-product : poly_r (terms_of p) ≡ con_p ℚ-ring lead *P powers_p l
      p-product =
          P-cancel ℚ-domain (poly_r (terms_of p)) (con_p ℚ-ring lead *P powers_p l) (con_p ℚ-ring k) (deg-not-nil ℚ-ring (con_p ℚ-ring k) 0 (deg-con ℚ-ring k k-some))
          ((Poly-ring ℚ-ring).mul_comm (poly_r (terms_of p)) (con_p ℚ-ring k) ∙ sym q-is ∙ q-product)

      multiplies : Equal (reading p) (scaled (coeff (reading p) n) (powers l))
      unfolding lead
      multiplies = poly-equal (reading p) (scaled (coeff (reading p) n) (powers l))
          (p-product ∙ ap₂ (λ u v. con_p ℚ-ring u *P v) (poly-at (reading p) n) (sym (powers-poly l)) ∙ sym (poly-scaled (coeff (reading p) n) (powers l)))

      adds : degrees l ≡ n
      unfolding lead
      adds =
          deg-unique ℚ-ring (poly_r (terms_of p)) (degrees l) n
          (subst (λ t. HasDeg ℚ-ring t (degrees l)) (sym p-product) (deg-scaled ℚ-domain lead (powers_p l) (degrees l) p-degree.leads (parts-degree l refined.parts)))
          p-degree

      parts : Every IsPart l
      parts = every_map Part IsPart part-is l refined.parts

      occur : Occurs l
      occur = parts-occur budget second.value l pieces.promise.rising second.then

    degree-p : (n : ℕ) × HasDeg ℚ-ring (poly_r (terms_of p)) n × (length (terms_of p) ≡ suc n)
    degree-p = terms-some (terms_of p) (λ z. some (zero-from (reading p) (ap poly_r z ∙ poly-empty))) o.canonical

    pub factors-meant : Factors (reading p) l
    factors-meant = record {
      parts = parts degree-p.0 (degree-from (reading p) degree-p.0 degree-p.1);
      occur = occur degree-p.0 (degree-from (reading p) degree-p.0 degree-p.1);
      multiply = multiplies;
      add-up = adds;
    }

-- ---- at the door

refused-promise : (p : Poly) (why : Reason) → FactorPromise p (no_factors why)
refused-promise p why = record {
  factors = λ s n. absurd (no-status why s);
  of_zero = λ s z. refl;
  content = λ s. absurd (no-status why s);
  refused = λ h. (refl, refl);
}

module _ (p : Poly) (budget : ℕ) (o : Opened p) where
  list-promise : (c : Ratio) → content_for p ≡ Ok c → (g : Got (List Piece)) → split_parts p budget ≡ g → FactorPromise p (factors_with c (decomposition_of g).outcome (decomposition_of g))
  list-promise c f (got l) e = record {
    factors = λ s n. subst (Factors (reading p)) (sym (found-pieces l)) (factors-meant p budget o l e n);
    of_zero = λ s z. ap length (zero-list p budget o l e z);
    content = λ s. sym (ap ratio_of f);
    refused = λ h. absurd (h refl);
  }
  list-promise c f (none why) e = refused-promise p why

  work-promise : (s : Result Ratio Reason) → content_for p ≡ s → FactorPromise p (with_content s (factors_of p budget))
  work-promise (Ok c) f = list-promise c f (split_parts p budget) refl
  work-promise (Err why) f = refused-promise p BadInput

pub factor-promise : (p : Poly) (budget : ℕ) → FactorPromise p (factor_for p budget)
factor-promise p budget =
    entered-keeps no_factors (FactorPromise p) (both (door_of p) (budget_door budget)) (work_of p budget)
    (λ e. work-promise p budget (opened p (both-open (door_of p) (budget_door budget) e).0) (content_for p) refl)
    (λ h why. refused-promise p why)

pub factor-both : (p : Poly) (budget : ℕ) (r : Factorization) → r ≡ factor_for p budget → (r ≡ factor_for p budget) × FactorPromise p r
factor-both p budget r e = (e, subst (FactorPromise p) (sym e) (factor-promise p budget))

-- an answered one has a content in lowest terms
open-content : (p : Poly) (s : Result Ratio Reason) → content_for p ≡ s → (r : Factorization) → status_of r.outcome ≡ 0 → r.content ≡ ratio_of (content_for p) → door_of p ≡ Open → Lowest r.content
open-content p s f r h e d = subst Lowest (sym e) ((content-promise p).lowest ((content-promise p).answered d))

pub content-is-lowest : (p : Poly) (budget : ℕ) → status_of (factor_for p budget).outcome ≡ 0 → Lowest (factor_for p budget).content
content-is-lowest p budget = entered-keeps no_factors (λ r. status_of r.outcome ≡ 0 → Lowest r.content) (both (door_of p) (budget_door budget)) (work_of p budget)
    (λ e h.
    let d = (both-open (door_of p) (budget_door budget) e).0 in
    open-content p (content_for p) refl (work_of p budget) h ((work-promise p budget (opened p d) (content_for p) refl).content h) d)
    (λ n why h. absurd (no-status why h))

-- ---- the decomposition

module _ (f : Poly) where
  refused-decomposition : (why : Reason) → DecompositionPromise f (refused_for why)
  refused-decomposition why = record { decomposes = λ s n. absurd (no-status why s); of_zero = λ s z. refl; refused = λ h. refl }

  module _ (o : Opened f) where
    nil-list : IsZero (reading f) → terms_of f ≡ []
    nil-list z = canonical-nil (terms_of f) o.canonical (zero-to (reading f) z)

    work-decomposition : (g : Got (List Piece)) → square_frees (terms_of f) ≡ g → DecompositionPromise f (decomposition_of g)
    unfolding square_frees
    work-decomposition (got l) e = record {
      decomposes = λ s n. subst (Decomposes (reading f)) (sym (found-pieces l)) (decomposition-means (terms_of f) o.canonical (λ z. n (zero-from (reading f) (ap poly_r z ∙ poly-empty))) l e).promise;
      of_zero = λ s z. let t : got l ≡ got [] = sym e ∙ ap square_frees (nil-list z) in let u : l ≡ [] = cc in ap length u;
      refused = λ h. absurd (h refl);
    }
    work-decomposition (none why) e = refused-decomposition why

  decomposition-promise : DecompositionPromise f (decomposition_for f)
  decomposition-promise =
      entered-keeps refused_for (DecompositionPromise f) (door_of f) (decomposition_of (square_frees (terms_of f))) (λ e. work-decomposition (opened f e) (square_frees (terms_of f)) refl) (λ h why. refused-decomposition why)

  pub decomposition-both : (r : Decomposition) → r ≡ decomposition_for f → (r ≡ decomposition_for f) × DecompositionPromise f r
  decomposition-both r e = (e, subst (DecompositionPromise f) (sym e) decomposition-promise)

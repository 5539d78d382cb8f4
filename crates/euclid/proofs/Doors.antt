-- What the promises of module 4 share: the door before the work, degree and length of what came through it, and the written chain behind the answer and the number of steps.
use Rattle.ratio.specs.Refusal.{status_of, no_refusal}
use Rattle.std.specs.Prelude.{Err}
use mathlib.Core.Path.{◌≡◌, refl, sym, ap, ap₂, subst, ◌∙◌}
use mathlib.Core.List.{List, [], ◌∷◌, map}
use Prim.Native.Nat.{ℕ, suc, ◌+◌, ◌-◌, ◌≤◌}
use native.Mathlib.Omega.{arith}
use lib.ListN.{length}
use Rattle.algebra.specs.Textbook.{HasDegree, IsZero, Divides}
use Rattle.algebra.proofs.Rational.{ℚ-ring, ℚ-domain}
use Rattle.algebra.proofs.Degree.{deg-unique, deg-not-nil}
use Rattle.algebra.proofs.PolyDomain.{dvd-degree}
use Rattle.algebra.proofs.Lists.{poly-empty}
use Rattle.algebra.proofs.ListWords.{zero-to, zero-from, degree-to, divides-to}
use Rattle.ratio.specs.declared.Ratio.{Ratio}
use Rattle.ratio.specs.declared.Reason.{Reason}
use Rattle.ratio.specs.declared.Reason.TheVariants.{CoeffOverflow, TooLong, BadInput}
use Rattle.terms.specs.declared.Answer.{Answer}
use Rattle.terms.specs.declared.Poly.{Poly}
use Rattle.terms.specs.Answer.{answer_of}
use Rattle.terms.specs.Machine.{Ran, fine, over}
use Rattle.terms.specs.Meaning.{rats}
use Rattle.terms.specs.Poly.{terms_of}
use Rattle.terms.proofs.Meaning.{poly_r}
use Rattle.terms.proofs.MeaningAnswer.{answer-terms}
use Rattle.terms.proofs.MeaningCanonical.{Canonical, canonical-degree, canonical-nil}
use Rattle.terms.proofs.MeaningStep.{same_answer}
use Rattle.terms.proofs.StepsCount.{steps_of}
use Rattle.poly.specs.declared.Gate.{Gate}
use Rattle.poly.specs.declared.Gate.TheVariants.{Open, Long, Bad}
use Rattle.poly.specs.Door.{door_of, both, entered}
use Rattle.poly.specs.Promise.{reading}
use Rattle.poly.proofs.Canonical.{Opened, opened, both-open, open-poly, open-nil}
use Rattle.poly.proofs.Gives.{outcome-done}
use Rattle.remainders.specs.Chain.{Wire, Written}
use Rattle.remainders.proofs.ChainWritten.{forgotten, Ended, Tells, Fractions}
use Rattle.euclid.specs.Promise.{Entered, Faithfully, every, Written-down}

-- ---- a refusal

pub never_done : (why : Reason) → status_of {X = Unit {0}} (Err why) ≡ 0 → ⊥
never_done why e =
    let d : Err why ≡ no_refusal = outcome-done (Err why) e in
    let z : ◌≡◌ {A = ℕ} 0 1 = cc in
    omega arith

-- ---- the door

shut-long : Long ≡ Open → ⊥
shut-long e = let z : ◌≡◌ {A = ℕ} 0 1 = cc in omega arith

shut-bad : Bad ≡ Open → ⊥
shut-bad e = let z : ◌≡◌ {A = ℕ} 0 1 = cc in omega arith

-- what holds of the work behind an open door and of every refusal at a shut one holds
pub entered-keeps : {X : Type 0} (refuse : Reason → X) (P : X → Type 0) (d : Gate) (r : X) → (d ≡ Open → P r) → ((d ≡ Open → ⊥) → (why : Reason) → P (refuse why)) → P (entered refuse d r)
entered-keeps refuse P Open r h f = h refl
entered-keeps refuse P Long r h f = f shut-long TooLong
entered-keeps refuse P Bad r h f = f shut-bad BadInput

pub entered-open : (a b : Poly) → Entered a b → both (door_of a) (door_of b) ≡ Open
entered-open a b e = ap₂ both e.left e.right

pub both-opened : (a b : Poly) → both (door_of a) (door_of b) ≡ Open → Opened a × Opened b
both-opened a b e =
    let (p, q) = both-open (door_of a) (door_of b) e in
    (opened a p, opened b q)

-- ---- degree and length

pub nil-zero : (l : List Ratio) → l ≡ [] → IsZero (rats l)
nil-zero l e = zero-from (rats l) (ap poly_r e ∙ poly-empty)

pub zero-nil : (l : List Ratio) → Canonical l → IsZero (rats l) → l ≡ []
zero-nil l c z = canonical-nil l c (zero-to (rats l) z)

pub degree-length : (l : List Ratio) (n : ℕ) → Canonical l → HasDegree (rats l) n → length l ≡ suc n
degree-length [] n c d = absurd (deg-not-nil ℚ-ring (poly_r []) n (degree-to [] n d) poly-empty)
degree-length (a ∷ l) n c d = ap suc (deg-unique ℚ-ring (poly_r (a ∷ l)) (length l) n (canonical-degree a l c) (degree-to (rats (a ∷ l)) n d))

pub degree-few : (p : Poly) (n : ℕ) → door_of p ≡ Open → HasDegree (reading p) n → n ≤ 31
degree-few p n e d =
    let o = opened p e in
    omega (arith, degree-length (terms_of p) n o.canonical d, o.few)

-- a bound in lengths, said in degrees
pub in-degrees : (price : ℕ → ℕ → ℕ) (k x y n m : ℕ) → x ≡ suc n → y ≡ suc m → k ≤ 0 + price (x - 1) (y - 1) → k ≤ price n m
in-degrees price k x y n m p q h =
    let u : x - 1 ≡ n = omega arith in
    let v : y - 1 ≡ m = omega arith in
    omega (arith, rw (u, v) at h)

-- a divisor is no longer than what it divides
pub divisor-short : (d p : List Ratio) → Canonical d → Canonical p → (p ≡ [] → ⊥) → Divides (rats d) (rats p) → length d ≤ length p
divisor-short [] p cd cp some h = omega arith
divisor-short (x ∷ d) [] cd cp some h = absurd (some refl)
divisor-short (x ∷ d) (y ∷ p) cd cp some h =
    let z = dvd-degree ℚ-domain (poly_r (x ∷ d)) (poly_r (y ∷ p)) (length p) (divides-to (rats (x ∷ d)) (rats (y ∷ p)) h) (canonical-degree y p cp) in
    omega (arith, z.1.1, deg-unique ℚ-ring (poly_r (x ∷ d)) (length d) z.0 (canonical-degree x d cd) z.1.0)

-- ---- what is handed back

-- the coefficients of a canonical list that is answered are its own
pub answer-canonical : (k : ℕ) (l : List Ratio) → Canonical l → terms_of (answer_of (fine k l)).poly ≡ l
answer-canonical k l c = answer-terms k l ∙ c.trimmed

-- the answered list has P, and what is handed back, a refusal too, is canonical
pub record Handed (P : List Ratio → Type 0) (r : Answer) : Type 0 where
  pub is : status_of r.outcome ≡ 0 → P (terms_of r.poly)
  pub canonical : door_of r.poly ≡ Open

pub record Fits (P : List Ratio → Type 0) (l : List Ratio) : Type 0 where
  pub is : P l
  pub canonical : Canonical l
  pub few : length l ≤ 32

pub answer-handed : (P : List Ratio → Type 0) (r : Ran ℕ (List Ratio)) → ((k : ℕ) (l : List Ratio) → r ≡ fine k l → Fits P l) → Handed P (answer_of r)
answer-handed P (fine k l) h =
    let f = h k l refl in
    record { is = λ s. subst P (sym (answer-canonical k l f.canonical)) f.is; canonical = rw f.canonical.trimmed (open-poly l f.few f.canonical) }
answer-handed P (over k) h = record { is = λ s. absurd (never_done CoeffOverflow s); canonical = open-nil }

-- ---- the chain

pub fractions : (l : List Ratio) → Canonical l → Fractions l
fractions l c i h = (c.lowest i).fraction

ended-faithfully : {X : Type 0} (a b : List Ratio) (g : X → List Wire) (run : Ran (List Written) X) → Ended a b g run → Faithfully a b g run
ended-faithfully a b g (fine chain x) h = h
ended-faithfully a b g (over chain) h = h

-- what is handed back of the plain work r: the numbers of its answer, or 2 where it was stopped
module _ {Y : Type 0} (allowed : List Ratio → Type 0) (numbers : Y → List Ratio) where
  pub record Back (r : Ran ℕ Y) (status : ℕ) (answer : List Ratio) : Type 0 where
    pub is : status ≡ 0 → (k : ℕ) (y : Y) → r ≡ fine k y → numbers y ≡ answer
    pub answered : (k : ℕ) (y : Y) → r ≡ fine k y → allowed (numbers y) → status ≡ 0
    pub stopped : (k : ℕ) → r ≡ over k → status ≡ 2

  -- of an answer that is the numbers of its run
  pub fine_back : (k : ℕ) (y : Y) (status : ℕ) (answer : List Ratio) → (status ≡ 0 → numbers y ≡ answer) → (allowed (numbers y) → status ≡ 0) → Back (fine k y) status answer
  fine_back k y status answer h g = record {
    is = λ s k' z e. ap numbers (sym (same_answer k k' y z e)) ∙ h s;
    answered = λ k' z e a. g (subst (λ u. allowed (numbers u)) (sym (same_answer k k' y z e)) a);
    stopped = λ k' e. absurd (let z : ◌≡◌ {A = ℕ} 0 1 = cc in omega arith);
  }

  pub over-back : (k : ℕ) (answer : List Ratio) → Back (over k) 2 answer
  over-back k answer = record {
    is = λ s. absurd (never_done CoeffOverflow s);
    answered = λ k' y e a. absurd (let z : ◌≡◌ {A = ℕ} 0 1 = cc in omega arith);
    stopped = λ k' e. refl;
  }

pub answer_back : (r : Ran ℕ (List Ratio)) → ((k : ℕ) (l : List Ratio) → r ≡ fine k l → Canonical l) → Back every (λ l. l) r (status_of (answer_of r).outcome) (terms_of (answer_of r).poly)
answer_back (fine k l) c = fine_back every (λ l. l) k l 0 _ (λ s. sym (answer-canonical k l (c k l refl))) (λ a. refl)
answer_back (over k) c = over-back every (λ l. l) k _

-- what the work tells of its chain, and what is handed back of it, is what the promise says
module _ {X Y : Type 0} (allowed : List Ratio → Type 0) (a b : List Ratio) (f : X → Y) (g : X → List Wire) (numbers : Y → List Ratio) (same : (x : X) → map (λ w. w.value) (g x) ≡ numbers (f x)) where
  pub written-down : (run : Ran (List Written) X) (r : Ran ℕ Y) (status : ℕ) (answer : List Ratio) → Tells a b f g run r → Back allowed numbers r status answer → Written-down allowed a b g run (steps_of r) status answer
  written-down run r status answer t back = record {
    counted = t.counter;
    faithful = ended-faithfully a b g run t.ended;
    same_numbers = λ s chain x e. same x ∙ back.is s (length chain) (f x) (sym t.erased ∙ ap (forgotten f) e);
    answered = λ chain x e h. back.answered (length chain) (f x) (sym t.erased ∙ ap (forgotten f) e) (subst allowed (same x) h);
    stopped = λ chain e. back.stopped (length chain) (sym t.erased ∙ ap (forgotten f) e);
  }

-- An answered resultant is zero exactly if the two polynomials have a common divisor that is no constant.
use mathlib.Core.Path.{◌≡◌, refl, sym, ap, subst, ◌∙◌}
use mathlib.Core.Bool.{Bool, true, false}
use mathlib.Core.Logic.{◌≢◌, ◌↔◌}
use mathlib.Core.List.{List, [], ◌∷◌}
use Prim.Native.Nat.{ℕ, zero, suc, ◌-◌, ◌*◌, ◌%◌, ◌≤◌}
use native.Mathlib.Omega.{arith}
use lib.Dec.{ltb, eqb}
use lib.IntN.{pos, nat_abs}
use lib.ListN.{length, get_or}
use Rattle.algebra.specs.Rational.{Rat}
use Rattle.algebra.specs.Textbook.{HasDegree, Divides}
use Rattle.algebra.proofs.Ring.{mul-ne, nil-mul, mul-nil}
use Rattle.algebra.proofs.Rational.{ℚ-ring, ℚ-domain, ◌*ℚ◌, 0ℚ, val-nil}
use Rattle.algebra.proofs.Poly.{nil_p, Poly-ring}
use Rattle.algebra.proofs.Divides.{Dvd, dvd_refl, dvd-rest, dvd-whole}
use Rattle.algebra.proofs.Degree.{HasDeg, deg-unique}
use Rattle.algebra.proofs.PolyDomain.{dvd-degree}
use Rattle.algebra.proofs.Lists.{ℚP, ◌+P◌, ◌*P◌, poly, poly-empty, list_of, poly-list_of}
use Rattle.algebra.proofs.ListWords.{degree-to, degree-from, divides-to, divides-from}
use Rattle.ratio.specs.Promise.{rat, Lowest}
use Rattle.ratio.specs.Refusal.{zero_r}
use Rattle.ratio.specs.declared.Ratio.{Ratio}
use Rattle.ratio.proofs.Steps.{value, zero-value, zero-lowest, one-lowest}
use Rattle.terms.specs.Machine.{times, Ran, fine, whole_r, plain}
use Rattle.terms.specs.Meaning.{rats}
use Rattle.terms.proofs.Meaning.{poly_r}
use Rattle.terms.proofs.MeaningStep.{both-answered, same_answer, times-value, made-lowest}
use Rattle.terms.proofs.MeaningCanonical.{Canonical, top-value, canonical-degree}
use Rattle.remainders.specs.Divide.{divided, lead}
use Rattle.remainders.specs.Resultant.{sign_if, degree_of, unit, powered, signed, onward, ordered, swapped_if, resultant_of}
use Rattle.remainders.proofs.MeaningDivision.{cons-some, Divided, divided-poly, divided-means}

-- ---- common divisors

-- a common divisor that is no constant
record Shared (p q : ℚP) : Type 0 where
  factor : ℚP
  degree : ℕ
  has-degree : HasDeg ℚ-ring factor degree
  some-degree : 1 ≤ degree
  divides-p : Dvd (Poly-ring ℚ-ring) factor p
  divides-q : Dvd (Poly-ring ℚ-ring) factor q

shared-swap : (p q : ℚP) → Shared p q → Shared q p
shared-swap p q s = record { factor = s.factor; degree = s.degree; has-degree = s.has-degree; some-degree = s.some-degree; divides-p = s.divides-q; divides-q = s.divides-p }

-- p = q t + r: p and q share what q and r share
module _ (p q t r : ℚP) (e : p ≡ q *P t +P r) where
  shared-onward : Shared p q → Shared q r
  shared-onward s = record {
    factor = s.factor;
    degree = s.degree;
    has-degree = s.has-degree;
    some-degree = s.some-degree;
    divides-p = s.divides-q;
    divides-q = dvd-rest (Poly-ring ℚ-ring) s.factor p q t r e s.divides-q s.divides-p;
  }

  shared_back : Shared q r → Shared p q
  shared_back s = record {
    factor = s.factor;
    degree = s.degree;
    has-degree = s.has-degree;
    some-degree = s.some-degree;
    divides-p = dvd-whole (Poly-ring ℚ-ring) s.factor p q t r e s.divides-p s.divides-q;
    divides-q = s.divides-p;
  }

-- nothing but constants divides a constant
constant-shares : (p q : ℚP) → HasDeg ℚ-ring q 0 → Shared p q → ⊥
constant-shares p q d s =
    let z = dvd-degree ℚ-domain s.factor q 0 s.divides-q d in
    omega (arith, s.some-degree, z.1.1, deg-unique ℚ-ring s.factor s.degree z.0 s.has-degree z.1.0)

-- ---- numbers that are not zero

one-some : value (whole_r (pos 1)) ≢ 0ℚ
one-some e = let z : ◌≡◌ {A = ℕ} 1 0 = ap nat_abs (val-nil (rat (whole_r (pos 1))) e) in omega arith

pub sign-some : (t : Bool) → value (whole_r (sign_if t)) ≢ 0ℚ
sign-some true e = one-some e
sign-some false e = let z : ◌≡◌ {A = ℕ} 1 0 = ap nat_abs (val-nil (rat (whole_r (sign_if false))) e) in omega arith

powered-some : (c : Ratio) (k : ℕ) (acc : Ratio) (n n' : ℕ) (r : Ratio) → value c ≢ 0ℚ → value acc ≢ 0ℚ → powered plain c k acc n ≡ fine n' r → value r ≢ 0ℚ
unfolding powered
powered-some c zero acc n n' r hc h e = subst (λ z. value z ≢ 0ℚ) (same_answer n n' acc r e) h
powered-some c (suc k) acc n n' r hc h e =
    let m = both-answered (plain.make times acc c n) _ n' r e in
    powered-some c k m.got m.log n' r hc (λ z. mul-ne ℚ-domain (value acc) (value c) h hc (sym (times-value acc c n m.log m.got m.first) ∙ z)) m.then

-- a factor that is not zero changes nothing
pub times_zero : (a b r : Ratio) → value a ≢ 0ℚ → value r ≡ value a *ℚ value b → value r ≡ 0ℚ ↔ value b ≡ 0ℚ
times_zero a b r h e = (
  λ z. ℚ-domain.cancel (value b) 0ℚ (value a) h (ℚ-ring.mul_comm (value b) (value a) ∙ sym e ∙ z ∙ sym (nil-mul ℚ-ring (value a))),
  λ z. e ∙ ap (λ x. value a *ℚ x) z ∙ mul-nil ℚ-ring (value a),
)

lead-value : (a : Ratio) (l : List Ratio) → Canonical (a ∷ l) → value (lead plain (a ∷ l)) ≢ 0ℚ
lead-value a l c =
    let top : length l ≡ length (a ∷ l) - 1 = omega arith in
    subst (λ i. value (get_or (a ∷ l) i zero_r) ≢ 0ℚ) top (top-value a l c)

-- ---- the recursion

abbrev Vanishes : List Ratio → List Ratio → Ratio → Type 0
Vanishes a b r = value r ≡ 0ℚ ↔ Shared (poly_r a) (poly_r b)

never : (a b : List Ratio) (r : Ratio) → value r ≢ 0ℚ → (Shared (poly_r a) (poly_r b) → ⊥) → Vanishes a b r
never a b r h k = (λ e. absurd (h e), λ s. absurd (k s))

vanishes-swap : (a b : List Ratio) (r : Ratio) → Vanishes a b r → Vanishes b a r
vanishes-swap a b r h = (λ e. shared-swap (poly_r a) (poly_r b) (h.0 e), λ s. h.1 (shared-swap (poly_r b) (poly_r a) s))

-- against a constant
constant-means : (a : List Ratio) (y : Ratio) → Canonical (y ∷ []) → (k n n' : ℕ) (r : Ratio) → powered plain y k (unit plain) n ≡ fine n' r → Vanishes a (y ∷ []) r
constant-means a y c k n n' r e =
    let d : HasDeg ℚ-ring (poly_r (y ∷ [])) 0 = canonical-degree y [] c in
    never a (y ∷ []) r (powered-some y k (unit plain) n n' r (lead-value y [] c) one-some e) (constant-shares (poly_r a) (poly_r (y ∷ [])) d)

-- a zero rest: b itself is common
divisor-shares : (a b : List Ratio) (n : ℕ) → HasDeg ℚ-ring (poly_r b) n → 1 ≤ n → (t : ℚP) → poly_r a ≡ poly_r b *P t +P poly_r [] → Shared (poly_r a) (poly_r b)
divisor-shares a b n d h t e = record {
  factor = poly_r b;
  degree = n;
  has-degree = d;
  some-degree = h;
  divides-p = dvd-whole (Poly-ring ℚ-ring) (poly_r b) (poly_r a) (poly_r b) t (poly_r []) e (dvd_refl (Poly-ring ℚ-ring) (poly_r b)) (nil_p ℚ-ring, poly-empty ∙ sym (nil-mul (Poly-ring ℚ-ring) (poly_r b)));
  divides-q = dvd_refl (Poly-ring ℚ-ring) (poly_r b);
}

-- a rest that is not zero: sign, leading power and the inner resultant
onward-vanishes : (a b rest : List Ratio) (t : ℚP) → poly_r a ≡ poly_r b *P t +P poly_r rest → (g p w sub r : Ratio) → value g ≢ 0ℚ → value p ≢ 0ℚ
    → value w ≡ value g *ℚ value p → value r ≡ value w *ℚ value sub → Vanishes b rest sub → Vanishes a b r
onward-vanishes a b rest t e g p w sub r hg hp ew er v =
    let z = times_zero w sub r (λ o. mul-ne ℚ-domain (value g) (value p) hg hp (sym ew ∙ o)) er in (
      λ o. shared_back (poly_r a) (poly_r b) t (poly_r rest) e (v.0 (z.0 o)),
      λ s. z.1 (v.1 (shared-onward (poly_r a) (poly_r b) t (poly_r rest) e s)),
    )

module _ (a : List Ratio) (y : Ratio) (ys : List Ratio) (c : Canonical (y ∷ ys)) (long : 1 ≤ length ys) (t : ℚP) where
  abbrev b : List Ratio
  b = y ∷ ys

  onward-means : (inner : ℕ → Ran ℕ Ratio) (rest : List Ratio) → poly_r a ≡ poly_r b *P t +P poly_r rest → ((rest ≡ [] → ⊥) → (n n' : ℕ) (r : Ratio) → inner n ≡ fine n' r → Vanishes b rest r)
      → (n n' : ℕ) (r : Ratio) → onward plain a b inner rest n ≡ fine n' r → Vanishes a b r
  onward-means inner [] e h n n' r f = (
    λ z. divisor-shares a b (length ys) (canonical-degree y ys c) long t e,
    λ s. ap value (sym (same_answer n n' zero_r r f)) ∙ zero-value,
  )
  onward-means inner (x ∷ xs) e h n n' r f =
      let p = both-answered (powered plain (lead plain b) (length a - length (x ∷ xs)) (unit plain) n) _ n' r f in
      let s = both-answered (inner p.log) _ n' r p.then in
      let u = both-answered (plain.make times (signed plain (degree_of a * degree_of b)) p.got s.log) _ n' r s.then in
      let v : Vanishes b (x ∷ xs) s.got = h (cons-some x xs) p.log s.log s.got s.first in
      onward-vanishes a b (x ∷ xs) t e (signed plain (degree_of a * degree_of b)) p.got u.got s.got r (sign-some (eqb (degree_of a * degree_of b % 2) 0))
      (powered-some (lead plain b) (length a - length (x ∷ xs)) (unit plain) n p.log p.got (lead-value y ys c) one-some p.first)
      (times-value (signed plain (degree_of a * degree_of b)) p.got s.log u.log u.got u.first) (times-value u.got s.got u.log n' r u.then) v

ordered-means : (f : ℕ) (a b : List Ratio) → Canonical a → Canonical b → (b ≡ [] → ⊥) → length b ≤ f → (n n' : ℕ) (r : Ratio) → ordered plain f a b n ≡ fine n' r → Vanishes a b r
unfolding ordered
ordered-means zero a [] ca cb h l n n' r e = absurd (h refl)
ordered-means zero a (y ∷ []) ca cb h l n n' r e = absurd (omega arith)
ordered-means zero a (y ∷ z ∷ b) ca cb h l n n' r e = absurd (omega arith)
ordered-means (suc f) a [] ca cb h l n n' r e = absurd (h refl)
ordered-means (suc f) a (y ∷ []) ca cb h l n n' r e = constant-means a y cb (degree_of a) n n' r e
ordered-means (suc f) a (y ∷ z ∷ b) ca cb h l n n' r e =
    let s = both-answered (divided plain a (y ∷ z ∷ b) n) _ n' r e in
    let d : Divided a (y ∷ z ∷ b) s.got = divided-means a (y ∷ z ∷ b) ca cb (cons-some y (z ∷ b)) n s.log s.got s.first in
    onward-means a y (z ∷ b) cb (omega arith) (poly_r s.got.quotient) (λ k. ordered plain f (y ∷ z ∷ b) s.got.rest k) s.got.rest (divided-poly a (y ∷ z ∷ b) s.got d)
    (λ o. ordered-means f (y ∷ z ∷ b) s.got.rest cb d.rest-canonical o (omega (arith, d.shorter)))
    s.log n' r s.then

swapped-means : (t : Bool) (a b : List Ratio) → Canonical a → Canonical b → (a ≡ [] → ⊥) → (b ≡ [] → ⊥) → (n n' : ℕ) (r : Ratio) → swapped_if plain t a b n ≡ fine n' r → Vanishes a b r
swapped-means true a b ca cb ha hb n n' r e =
    let s = both-answered (ordered plain (length a) b a n) _ n' r e in
    let g : Ratio = signed plain (degree_of a * degree_of b) in
    let v : Vanishes a b s.got = vanishes-swap b a s.got (ordered-means (length a) b a cb ca ha (omega arith) n s.log s.got s.first) in
    let z = times_zero g s.got r (sign-some (eqb (degree_of a * degree_of b % 2) 0)) (times-value s.got g s.log n' r s.then ∙ ℚ-ring.mul_comm (value s.got) (value g)) in
    (λ o. v.0 (z.0 o), λ s. z.1 (v.1 s))
swapped-means false a b ca cb ha hb n n' r e = ordered-means (length b) a b ca cb hb (omega arith) n n' r e

resultant-shares : (a b : List Ratio) → Canonical a → Canonical b → (a ≡ [] → ⊥) → (b ≡ [] → ⊥) → (n n' : ℕ) (r : Ratio) → resultant_of plain a b n ≡ fine n' r → Vanishes a b r
unfolding resultant_of
resultant-shares [] b ca cb ha hb n n' r e = absurd (ha refl)
resultant-shares (x ∷ a) [] ca cb ha hb n n' r e = absurd (hb refl)
resultant-shares (x ∷ []) (y ∷ b) ca cb ha hb n n' r e = vanishes-swap (y ∷ b) (x ∷ []) r (constant-means (y ∷ b) x ca (length b) n n' r e)
resultant-shares (x ∷ x' ∷ a) (y ∷ []) ca cb ha hb n n' r e = constant-means (x ∷ x' ∷ a) y cb (suc (length a)) n n' r e
resultant-shares (x ∷ x' ∷ a) (y ∷ y' ∷ b) ca cb ha hb n n' r e = swapped-means (ltb (length (x ∷ x' ∷ a)) (length (y ∷ y' ∷ b))) (x ∷ x' ∷ a) (y ∷ y' ∷ b) ca cb ha hb n n' r e

-- ---- in the textbook's words

-- a common divisor of degree at least 1
pub record CommonFactor (a b : List Rat) : Type 0 where
  pub factor : List Rat
  pub degree : ℕ
  pub has-degree : HasDegree factor degree
  pub some-degree : 1 ≤ degree
  pub divides-a : Divides factor a
  pub divides-b : Divides factor b

module _ (a b : List Rat) where
  common-to : CommonFactor a b → Shared (poly a) (poly b)
  common-to c = record {
    factor = poly c.factor;
    degree = c.degree;
    has-degree = degree-to c.factor c.degree c.has-degree;
    some-degree = c.some-degree;
    divides-p = divides-to c.factor a c.divides-a;
    divides-q = divides-to c.factor b c.divides-b;
  }

  common-from : Shared (poly a) (poly b) → CommonFactor a b
  common-from s =
      let d : List Rat = list_of s.factor in
      let e : s.factor ≡ poly d = sym (poly-list_of s.factor) in
      record {
        factor = d;
        degree = s.degree;
        has-degree = degree-from d s.degree (subst (λ z. HasDeg ℚ-ring z s.degree) e s.has-degree);
        some-degree = s.some-degree;
        divides-a = divides-from d a (subst (λ z. Dvd (Poly-ring ℚ-ring) z (poly a)) e s.divides-p);
        divides-b = divides-from d b (subst (λ z. Dvd (Poly-ring ℚ-ring) z (poly b)) e s.divides-q);
      }

module _ (a b : List Ratio) (ca : Canonical a) (cb : Canonical b) (some-a : a ≡ [] → ⊥) (some-b : b ≡ [] → ⊥) (k k' : ℕ) (r : Ratio) (e : resultant_of plain a b k ≡ fine k' r) where
  pub resultant-vanishes : value r ≡ 0ℚ ↔ CommonFactor (rats a) (rats b)
  resultant-vanishes =
      let v = resultant-shares a b ca cb some-a some-b k k' r e in
      (λ z. common-from (rats a) (rats b) (v.0 z), λ c. v.1 (common-to (rats a) (rats b) c))

-- ---- the answer is in lowest terms

powered-lowest : (c : Ratio) (k : ℕ) (acc : Ratio) (n n' : ℕ) (r : Ratio) → Lowest acc → powered plain c k acc n ≡ fine n' r → Lowest r
unfolding powered
powered-lowest c zero acc n n' r h e = subst Lowest (same_answer n n' acc r e) h
powered-lowest c (suc k) acc n n' r h e =
    let m = both-answered (plain.make times acc c n) _ n' r e in
    powered-lowest c k m.got m.log n' r (made-lowest acc c n m.log m.got times m.first) m.then

onward-lowest : (a b : List Ratio) (inner : ℕ → Ran ℕ Ratio) (rest : List Ratio) (n n' : ℕ) (r : Ratio) → onward plain a b inner rest n ≡ fine n' r → Lowest r
onward-lowest a b inner [] n n' r e = subst Lowest (same_answer n n' zero_r r e) zero-lowest
onward-lowest a b inner (x ∷ xs) n n' r e =
    let p = both-answered (powered plain (lead plain b) (length a - length (x ∷ xs)) (unit plain) n) _ n' r e in
    let s = both-answered (inner p.log) _ n' r p.then in
    let u = both-answered (plain.make times (signed plain (degree_of a * degree_of b)) p.got s.log) _ n' r s.then in
    made-lowest u.got s.got u.log n' r times u.then

ordered-lowest : (f : ℕ) (a b : List Ratio) (n n' : ℕ) (r : Ratio) → ordered plain f a b n ≡ fine n' r → Lowest r
unfolding ordered
ordered-lowest zero a [] n n' r e = subst Lowest (same_answer n n' zero_r r e) zero-lowest
ordered-lowest zero a (y ∷ []) n n' r e = powered-lowest y (degree_of a) (unit plain) n n' r one-lowest e
ordered-lowest zero a (y ∷ z ∷ b) n n' r e = subst Lowest (same_answer n n' zero_r r e) zero-lowest
ordered-lowest (suc f) a [] n n' r e = subst Lowest (same_answer n n' zero_r r e) zero-lowest
ordered-lowest (suc f) a (y ∷ []) n n' r e = powered-lowest y (degree_of a) (unit plain) n n' r one-lowest e
ordered-lowest (suc f) a (y ∷ z ∷ b) n n' r e =
    let s = both-answered (divided plain a (y ∷ z ∷ b) n) _ n' r e in
    onward-lowest a (y ∷ z ∷ b) (λ k. ordered plain f (y ∷ z ∷ b) s.got.rest k) s.got.rest s.log n' r s.then

swapped-lowest : (t : Bool) (a b : List Ratio) (n n' : ℕ) (r : Ratio) → swapped_if plain t a b n ≡ fine n' r → Lowest r
swapped-lowest true a b n n' r e =
    let s = both-answered (ordered plain (length a) b a n) _ n' r e in
    made-lowest s.got (signed plain (degree_of a * degree_of b)) s.log n' r times s.then
swapped-lowest false a b n n' r e = ordered-lowest (length b) a b n n' r e

pub resultant-lowest : (a b : List Ratio) (k k' : ℕ) (r : Ratio) → resultant_of plain a b k ≡ fine k' r → Lowest r
unfolding resultant_of
resultant-lowest [] b k k' r e = subst Lowest (same_answer k k' zero_r r e) zero-lowest
resultant-lowest (x ∷ a) [] k k' r e = subst Lowest (same_answer k k' zero_r r e) zero-lowest
resultant-lowest (x ∷ []) (y ∷ b) k k' r e = powered-lowest x (length b) (unit plain) k k' r one-lowest e
resultant-lowest (x ∷ x' ∷ a) (y ∷ []) k k' r e = powered-lowest y (suc (length a)) (unit plain) k k' r one-lowest e
resultant-lowest (x ∷ x' ∷ a) (y ∷ y' ∷ b) k k' r e = swapped-lowest (ltb (length (x ∷ x' ∷ a)) (length (y ∷ y' ∷ b))) (x ∷ x' ∷ a) (y ∷ y' ∷ b) k k' r e

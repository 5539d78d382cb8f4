-- An answered division is the textbook's: a = q b + r with r of lower degree than b.
use Rattle.std.specs.Prelude.{Ok}
use mathlib.Core.Path.{◌≡◌, refl, sym, ap, ap₂, subst, ◌∙◌}
use mathlib.Core.Bool.{Bool, true, false}
use mathlib.Core.List.{List, [], ◌∷◌}
use Prim.Native.Nat.{ℕ, zero, suc, ◌+◌, ◌-◌, ◌≤◌, ◌<◌}
use native.Mathlib.Omega.{arith}
use native.Mathlib.Decide.{ℕ_discrete, dec_le}
use borrow.Author.Tests.{ltb-true, ltb-false}
use lib.Dec.{ltb}
use lib.ListN.{length, get_or, take, length-take}
use lib.Seq.{get_or-take}
use Rattle.algebra.specs.Textbook.{IsDivision}
use Rattle.algebra.proofs.Ring.{pow, pow-zero, pow-suc, nil-mul, by1, by2}
use Rattle.algebra.proofs.Reflect.{ring!, reify}
use Rattle.algebra.proofs.Rational.{ℚ, ℚ-ring, ℚ-domain, ℚ-field, ◌+ℚ◌, ◌*ℚ◌, -ℚ◌, 0ℚ, 1ℚ, invℚ}
use Rattle.algebra.proofs.Series.{Below}
use Rattle.algebra.proofs.Poly.{nil_p, neg_p, con_p, Poly-ring, poly-ext, add_at, neg-at}
use Rattle.algebra.proofs.Monomials.{X, mon_p, mon-is, mon-mul-at}
use Rattle.algebra.proofs.Degree.{HasDeg}
use Rattle.algebra.proofs.Divides.{Dvd}
use Rattle.algebra.proofs.PolyDomain.{short-multiple}
use Rattle.algebra.proofs.Lists.{ℚP, ◌+P◌, ◌*P◌, poly-cons, poly-empty}
use Rattle.algebra.proofs.ListWords.{division-to, division-from, lower-from}
use Rattle.ratio.specs.Promise.{rat, Lowest}
use Rattle.ratio.specs.Refusal.{zero_r, ratio_of}
use Rattle.ratio.specs.Step.{is_nil, inv_of, lowest}
use Rattle.ratio.specs.declared.Ratio.{Ratio}
use Rattle.ratio.proofs.Fractions.{nil-some}
use Rattle.ratio.proofs.Steps.{value, inv-value, inv-is}
use Rattle.terms.specs.Machine.{minus, times, fine, plain}
use Rattle.terms.specs.Meaning.{rats}
use Rattle.terms.specs.Poly.{trim}
use Rattle.terms.specs.Work.{rowed}
use Rattle.terms.proofs.Meaning.{poly_r, poly_r-at, poly_r-below, poly_r-trim}
use Rattle.terms.proofs.MeaningStep.{both-answered, same_answer, times-value, made-lowest}
use Rattle.terms.proofs.MeaningProduct.{rowed-length, rowed-means}
use Rattle.terms.proofs.MeaningLowest.{AllLowest, cons-lowest, take-lowest, rowed-lowest}
use Rattle.terms.proofs.MeaningCanonical.{Canonical, trim-canonical, empty-canonical, top-some, canonical-degree, canonical-nil}
use Rattle.remainders.specs.Divide.{Split, split, quotients, divided_if, divided, lead}
use Rattle.terms.proofs.Lists.{trim-short}

-- one term of the quotient takes the highest coefficient away
one-term : (p b : ℚP) (k m : ℕ) → HasDeg ℚ-ring b m → Below ℚ-ring (suc (k + m)) p.0
    → Below ℚ-ring (k + m) (p +P neg_p ℚ-ring (mon_p ℚ-ring (p.0 (k + m) *ℚ invℚ (b.0 m)) k *P b)).0
one-term p b k m d h i l = add_at ℚ-ring p _ i ∙ ap (λ z. p.0 i +ℚ z) (neg-at ℚ-ring _ i) ∙ go (ℕ_discrete i (k + m))
  where
    c : ℚ
    c = p.0 (k + m) *ℚ invℚ (b.0 m)

    at : (j : ℕ) → i ≡ k + j → (mon_p ℚ-ring c k *P b).0 i ≡ c *ℚ b.0 j
    at j e = ap (λ z. (mon_p ℚ-ring c k *P b).0 z) e ∙ mon-mul-at ℚ-ring c k b j

    go : Dec (i ≡ k + m) → p.0 i +ℚ -ℚ (mon_p ℚ-ring c k *P b).0 i ≡ 0ℚ
    go (yes e) =
        ap (λ z. p.0 i +ℚ -ℚ z) (at m e)
        ∙ by2 ℚ-ring 1ℚ (ap p.0 e) (-ℚ p.0 (k + m)) (ℚ-field.mul-inv (b.0 m) d.leads)
        (ring! ℚ-ring (p.0 i ∷ p.0 (k + m) ∷ b.0 m ∷ invℚ (b.0 m) ∷ []) (search reify depth 30 fits 20000) tt)
    go (no f) =
        ap (λ z. p.0 i +ℚ -ℚ z) (at (i - k) (omega arith))
        ∙ by2 ℚ-ring 1ℚ (h i (omega arith)) (-ℚ c) (d.ends (i - k) (omega arith)) (ring! ℚ-ring (p.0 i ∷ c ∷ b.0 (i - k) ∷ []) (search reify depth 30 fits 20000) tt)

-- the inverse of a fraction that is not zero
pub inverse-value : (r : Ratio) → Lowest r → is_nil r.num ≡ false → value (ratio_of (inv_of r)) ≡ invℚ (value r)
inverse-value r l e =
    let i : inv_of r ≡ Ok (lowest r.den r.num) = inv-is r l.fraction (nil-some r.num e) in
    ap (λ s. value (ratio_of s)) i ∙ inv-value r _ i

-- from k quotient terms left to none: nothing but the rest is left below the divisor's degree
record Quotients (b rem : List Ratio) (k : ℕ) (quot : List Ratio) (s : Split Ratio) : Type 0 where
  is : poly_r s.quotient *P poly_r b +P poly_r s.rest ≡ pow (Poly-ring ℚ-ring) (X ℚ-ring) k *P poly_r quot *P poly_r b +P poly_r rem
  small : Below ℚ-ring (length b - 1) (poly_r s.rest).0
  low-quotient : AllLowest s.quotient
  low-rest : AllLowest s.rest

-- t xᵏ comes over from the rest to the quotient
term-over : (b rem rem' : ℚP) (t : Ratio) (quot : List Ratio) (k : ℕ) → rem' ≡ rem +P neg_p ℚ-ring (mon_p ℚ-ring (value t) k *P b)
    → pow (Poly-ring ℚ-ring) (X ℚ-ring) k *P poly_r (t ∷ quot) *P b +P rem' ≡ pow (Poly-ring ℚ-ring) (X ℚ-ring) (suc k) *P poly_r quot *P b +P rem
term-over b rem rem' t quot k e =
    ap₂ (λ l r. pow (Poly-ring ℚ-ring) (X ℚ-ring) k *P l *P b +P r) (poly-cons (rat t) (rats quot)) e
    ∙ by2 (Poly-ring ℚ-ring) (neg_p ℚ-ring b) (mon-is ℚ-ring (value t) k) (neg_p ℚ-ring (poly_r quot *P b)) (pow-suc (Poly-ring ℚ-ring) (X ℚ-ring) k)
    (ring! (Poly-ring ℚ-ring) (b ∷ rem ∷ X ℚ-ring ∷ poly_r quot ∷ con_p ℚ-ring (value t) ∷ mon_p ℚ-ring (value t) k ∷ pow (Poly-ring ℚ-ring) (X ℚ-ring) k ∷ pow (Poly-ring ℚ-ring) (X ℚ-ring) (suc k) ∷ []) (search reify depth 30 fits 20000) tt)

-- what is left below the divisor's degree is all that is left
take-poly : (m : ℕ) (l : List Ratio) → Below ℚ-ring m (poly_r l).0 → poly_r (take m l) ≡ poly_r l
take-poly m l h = poly-ext ℚ-ring (poly_r (take m l)) (poly_r l) (λ i. go i (dec_le m i))
  where
    go : (i : ℕ) → Dec (m ≤ i) → (poly_r (take m l)).0 i ≡ (poly_r l).0 i
    go i (yes g) = poly_r-below (take m l) i (omega (arith, length-take m l)) ∙ sym (h i g)
    go i (no g) = poly_r-at (take m l) i ∙ ap value (get_or-take m l i zero_r (omega arith)) ∙ sym (poly_r-at l i)

-- what a division of a by b answers
pub record Divided (a b : List Ratio) (s : Split Ratio) : Type 0 where
  pub is : IsDivision (rats a) (rats b) (rats s.quotient) (rats s.rest)
  pub quotient-canonical : Canonical s.quotient
  pub rest-canonical : Canonical s.rest
  pub shorter : length s.rest < length b

pub divided-poly : (a b : List Ratio) (s : Split Ratio) → Divided a b s → poly_r a ≡ poly_r b *P poly_r s.quotient +P poly_r s.rest
divided-poly a b s d =
    division-to (rats a) (rats b) (rats s.quotient) (rats s.rest) d.is ∙ ap (λ t. t +P poly_r s.rest) ((Poly-ring ℚ-ring).mul_comm (poly_r s.quotient) (poly_r b))

module _ (y : Ratio) (ys : List Ratio) (c : Canonical (y ∷ ys)) where
  abbrev b : List Ratio
  b = y ∷ ys

  abbrev m : ℕ
  m = length ys

  top : length b - 1 ≡ m
  top = omega arith

  pub inverse-lead : value (ratio_of (inv_of (lead plain b))) ≡ invℚ ((poly_r b).0 m)
  inverse-lead = ap (λ j. value (ratio_of (inv_of (get_or b j zero_r)))) top ∙ inverse-value (get_or b m zero_r) (c.lowest m) (top-some y ys c) ∙ ap invℚ (sym (poly_r-at b m))

  -- the term for xᵏ, and what it leaves
  module _ (rem : List Ratio) (k n n₁ n₂ : ℕ) (t : Ratio) (rem' : List Ratio) (small : Below ℚ-ring (suc (k + m)) (poly_r rem).0) (fits : suc (k + m) ≤ length rem)
      (e₁ : plain.make times (get_or rem (k + (length b - 1)) zero_r) (ratio_of (inv_of (lead plain b))) n ≡ fine n₁ t) (e₂ : rowed plain minus rem k t b n₁ ≡ fine n₂ rem') where
    row_is : poly_r rem' ≡ poly_r rem +P neg_p ℚ-ring (mon_p ℚ-ring (value t) k *P poly_r b)
    row_is = rowed-means true b rem k t n₁ n₂ rem' (omega arith) e₂

    term-below : Below ℚ-ring (k + m) (poly_r rem').0
    term-below =
        let p : value t ≡ (poly_r rem).0 (k + m) *ℚ invℚ ((poly_r b).0 m) =
        times-value _ _ n n₁ t e₁ ∙ ap₂ ◌*ℚ◌ (ap (λ j. value (get_or rem (k + j) zero_r)) top ∙ sym (poly_r-at rem (k + m))) inverse-lead in
        subst (λ z. Below ℚ-ring (k + m) z.0) (sym (row_is ∙ ap (λ z. poly_r rem +P neg_p ℚ-ring (mon_p ℚ-ring z k *P poly_r b)) p))
        (one-term (poly_r rem) (poly_r b) k m (canonical-degree y ys c) small)

    one_more : (quot : List Ratio) (s : Split Ratio) → Quotients b rem' k (t ∷ quot) s → Quotients b rem (suc k) quot s
    one_more quot s z = record {
      is = z.is ∙ term-over (poly_r b) (poly_r rem) (poly_r rem') t quot k row_is;
      small = z.small;
      low-quotient = z.low-quotient;
      low-rest = z.low-rest;
    }

  quotients-means : (rem : List Ratio) (k : ℕ) (quot : List Ratio) (n n' : ℕ) (s : Split Ratio) → k + m ≤ length rem → Below ℚ-ring (k + m) (poly_r rem).0 → AllLowest rem → AllLowest quot
      → quotients plain rem b k quot n ≡ fine n' s → Quotients b rem k quot s
  unfolding quotients
  quotients-means rem zero quot n n' s h small low lowq e = subst (λ z. Quotients b rem 0 quot z) (same_answer n n' (split quot rem) s e) (record {
    is = ap (λ z. z *P poly_r b +P poly_r rem) (sym (by1 (Poly-ring ℚ-ring) (poly_r quot) (pow-zero (Poly-ring ℚ-ring) (X ℚ-ring))
        (ring! (Poly-ring ℚ-ring) (poly_r quot ∷ pow (Poly-ring ℚ-ring) (X ℚ-ring) 0 ∷ []) (search reify depth 30 fits 20000) tt)));
    small = λ i l. small i (omega arith);
    low-quotient = lowq;
    low-rest = low;
  })
  quotients-means rem (suc k) quot n n' s h small low lowq e =
      let t = both-answered (plain.make times (get_or rem (k + (length b - 1)) zero_r) (ratio_of (inv_of (lead plain b))) n) _ n' s e in
      let r = both-answered (rowed plain minus rem k t.got b t.log) _ n' s t.then in
      let fits : suc (k + m) ≤ length rem = omega arith in
      let below : Below ℚ-ring (suc (k + m)) (poly_r rem).0 = λ i l. small i (omega arith) in
      one_more rem k n t.log r.log t.got r.got below fits t.first r.first quot s
      (quotients-means r.got k (t.got ∷ quot) r.log n' s (omega (arith, rowed-length true b rem k t.got t.log r.log r.got r.first))
      (term-below rem k n t.log r.log t.got r.got below fits t.first r.first)
      (rowed-lowest minus b rem k t.got t.log r.log r.got low r.first) (cons-lowest t.got quot (made-lowest _ _ n t.log t.got times t.first) lowq) r.then)

  rest-poly : (l : List Ratio) → Below ℚ-ring (length b - 1) (poly_r l).0 → poly_r (trim (take (length b - 1) l)) ≡ poly_r l
  rest-poly l h = poly_r-trim (take (length b - 1) l) ∙ take-poly (length b - 1) l h

  finished-means : (a : List Ratio) (k : ℕ) (s : Split Ratio) → Quotients b a k [] s → Divided a b (split (trim s.quotient) (trim (take (length b - 1) s.rest)))
  finished-means a k s z = record {
    is = division-from (rats a) (rats b) (rats (trim s.quotient)) (rats (trim (take (length b - 1) s.rest)))
        (by2 (Poly-ring ℚ-ring) (neg_p ℚ-ring (con_p ℚ-ring 1ℚ)) z.is (neg_p ℚ-ring (pow (Poly-ring ℚ-ring) (X ℚ-ring) k *P poly_r b)) poly-empty
        (ring! (Poly-ring ℚ-ring) (poly_r a ∷ poly_r b ∷ poly_r [] ∷ poly_r s.quotient ∷ poly_r s.rest ∷ pow (Poly-ring ℚ-ring) (X ℚ-ring) k ∷ []) (search reify depth 30 fits 20000) tt)
        ∙ sym (ap₂ (λ q r. q *P poly_r b +P r) (poly_r-trim s.quotient) (rest-poly s.rest z.small)))
        (lower-from (rats (trim (take (length b - 1) s.rest))) (rats b) m (canonical-degree y ys c)
        (λ i h. ap (λ p. p.0 i) (rest-poly s.rest z.small) ∙ z.small i (omega arith)));
    quotient-canonical = trim-canonical s.quotient z.low-quotient;
    rest-canonical = trim-canonical (take (length b - 1) s.rest) (take-lowest (length b - 1) s.rest z.low-rest);
    shorter = omega (arith, trim-short (take (length b - 1) s.rest), length-take (length b - 1) s.rest);
  }

  lower-dividend : (a : List Ratio) → Canonical a → length a < length b → Divided a b (split [] a)
  lower-dividend a c' h = record {
    is = division-from (rats a) (rats b) [] (rats a)
        (sym (ap (λ q. q *P poly_r b +P poly_r a) poly-empty ∙ ring! (Poly-ring ℚ-ring) (poly_r a ∷ poly_r b ∷ []) (search reify depth 30 fits 20000) tt))
        (lower-from (rats a) (rats b) m (canonical-degree y ys c) (λ i l. poly_r-below a i (omega arith)));
    quotient-canonical = empty-canonical;
    rest-canonical = c';
    shorter = h;
  }

  divided-by : (a : List Ratio) → Canonical a → (n n' : ℕ) (s : Split Ratio) → divided plain a b n ≡ fine n' s → Divided a b s
  unfolding divided
  divided-by a c' n n' s e = go (ltb (length a) (length b)) refl e
    where
      go : (t : Bool) → ltb (length a) (length b) ≡ t → divided_if plain t a b n ≡ fine n' s → Divided a b s
      go true l e = subst (λ z. Divided a b z) (ap (split []) (sym c'.trimmed) ∙ same_answer n n' (split [] (trim a)) s e) (lower-dividend a c' (ltb-true _ _ l))
      go false l e =
          let k : ℕ = length a - length b + 1 in
          let z = both-answered (quotients plain a b k [] n) _ n' s e in
          subst (λ z. Divided a b z) (same_answer _ n' _ s z.then)
          (finished-means a k z.got
          (quotients-means a k [] n z.log z.got (omega (arith, ltb-false)) (λ i h. poly_r-below a i (omega (arith, ltb-false))) c'.lowest empty-canonical.lowest z.first))

pub cons-some : {A : Type 0} (x : A) (l : List A) → x ∷ l ≡ [] → ⊥
cons-some x l e = let z : ◌≡◌ {A = ℕ} 0 1 = cc in omega arith

pub divided-means : (a b : List Ratio) → Canonical a → Canonical b → (b ≡ [] → ⊥) → (k k' : ℕ) (s : Split Ratio) → divided plain a b k ≡ fine k' s → Divided a b s
divided-means a [] ca cb some k k' s e = absurd (some refl)
divided-means a (y ∷ ys) ca cb some k k' s e = divided-by y ys cb a ca k k' s e

-- where b divides a, nothing remains
pub divided-exact : (a b : List Ratio) (s : Split Ratio) → Canonical b → (b ≡ [] → ⊥) → Divided a b s → Dvd (Poly-ring ℚ-ring) (poly_r b) (poly_r a) → s.rest ≡ []
divided-exact a [] s cb some d z = absurd (some refl)
divided-exact a (y ∷ ys) s cb some d (k, e) =
    let q : ℚP = poly_r s.quotient in
    let r : ℚP = poly_r s.rest in
    let b : ℚP = poly_r (y ∷ ys) in
    let n : length s.rest ≤ length ys = omega (arith, d.shorter) in
    let left : (k +P neg_p ℚ-ring q) *P b ≡ r = by2 (Poly-ring ℚ-ring) (con_p ℚ-ring 1ℚ) (divided-poly a (y ∷ ys) s d) (neg_p ℚ-ring (con_p ℚ-ring 1ℚ)) e
    (ring! (Poly-ring ℚ-ring) (k ∷ q ∷ r ∷ b ∷ poly_r a ∷ []) (search reify depth 30 fits 20000) tt) in
    let none : k +P neg_p ℚ-ring q ≡ nil_p ℚ-ring = short-multiple ℚ-domain (k +P neg_p ℚ-ring q) b (length ys) (canonical-degree y ys cb)
    (subst (λ z. Below ℚ-ring (length ys) z.0) (sym left) (λ i h. poly_r-below s.rest i (omega arith))) in
    canonical-nil s.rest d.rest-canonical (sym left ∙ ap (λ z. z *P b) none ∙ nil-mul (Poly-ring ℚ-ring) b)

-- The field of fractions of an integral domain: pairs up to cross products, as a set quotient.
use mathlib.Core.Path.{◌≡◌, refl, sym, ◌∙◌}
use mathlib.Core.Logic.{◌≢◌}
use mathlib.Core.List.{[], ◌∷◌}
use std.Quotient.{◌/◌, cls, eq/, /_set, /_rec₂, /_elim_prop, /_elim_prop₂, /_elim_prop₃, /_map, IsEquivRel, effective, /_discrete}
use Rattle.algebra.proofs.Ring.{CRing, Domain, Field, by1, by2, mul-ne, inv-prop, inv_unique}
use mathlib.Core.HLevel.{Π_prop}
use Rattle.algebra.proofs.Reflect.{ring!, reify}

-- std's `/-map₂` does not unfold outside its module: the same, once more
map₂ : {A : Type 0} {S : A → A → Type 0} (f : A → A → A) → ((a a' b : A) → S a a' → S (f a b) (f a' b)) → ((a b b' : A) → S b b' → S (f a b) (f a b')) → A / S → A / S → A / S
unfolding /_rec₂
map₂ f l r = /_rec₂ /_set (λ a b. cls (f a b)) (λ a a' b h. eq/ (f a b) (f a' b) (l a a' b h)) (λ a b b' h. eq/ (f a b) (f a b') (r a b b' h))

module _ {A : Type 0} (D : Domain A) where
  abbrev R : CRing A
  R = D.ring

  open R use {add as ◌+◌, mul as ◌*◌, neg as -◌, nil as 𝟘, one as 𝟙, is_set, mul_comm}

  infixl 60 ◌+◌
  infixl 70 ◌*◌
  infix 75 -◌
  abbrev pub Pair : Type 0
  Pair = (n : A) × (d : A) × (d ≢ 𝟘)

  infix 40 ◌~◌
  unfoldable pub ◌~◌ : Pair → Pair → Type 0
  x ~ y = x.0 * y.1 ≡ y.0 * x.1

  pub Frac : Type 0
  Frac = Pair / ◌~◌

  ~_prop : (x y : Pair) → IsProp (x ~ y)
  unfolding ◌~◌
  ~_prop x y = is_set _ _

  ~-trans : (x y z : Pair) → x ~ y → y ~ z → x ~ z
  unfolding ◌~◌
  ~-trans x y z r s = D.cancel (x.0 * z.1) (z.0 * x.1) y.1 y.2
      (by2 R z.1 r x.1 s (ring! R (x.0 ∷ x.1 ∷ y.0 ∷ y.1 ∷ z.0 ∷ z.1 ∷ []) (search reify depth 30 fits 20000) tt))

  ~-equiv : IsEquivRel ◌~◌
  unfolding ◌~◌
  ~-equiv = record { reflexive = λ x. refl; symmetric = λ x y r. sym r; transitive = ~-trans }

  abbrev add_p : Pair → Pair → Pair
  add_p x y = (x.0 * y.1 + y.0 * x.1, x.1 * y.1, mul-ne D x.1 y.1 x.2 y.2)

  abbrev mul_p : Pair → Pair → Pair
  mul_p x y = (x.0 * y.0, x.1 * y.1, mul-ne D x.1 y.1 x.2 y.2)

  abbrev neg_p : Pair → Pair
  neg_p x = (- x.0, x.1, x.2)

  add-l : (x x' y : Pair) → x ~ x' → add_p x y ~ add_p x' y
  unfolding ◌~◌
  add-l x x' y r = by1 R (y.1 * y.1) r (ring! R (x.0 ∷ x.1 ∷ x'.0 ∷ x'.1 ∷ y.0 ∷ y.1 ∷ []) (search reify depth 30 fits 20000) tt)

  add_r : (x y y' : Pair) → y ~ y' → add_p x y ~ add_p x y'
  unfolding ◌~◌
  add_r x y y' r = by1 R (x.1 * x.1) r (ring! R (x.0 ∷ x.1 ∷ y'.0 ∷ y'.1 ∷ y.0 ∷ y.1 ∷ []) (search reify depth 30 fits 20000) tt)

  mul-l : (x x' y : Pair) → x ~ x' → mul_p x y ~ mul_p x' y
  unfolding ◌~◌
  mul-l x x' y r = by1 R (y.0 * y.1) r (ring! R (x.0 ∷ x.1 ∷ x'.0 ∷ x'.1 ∷ y.0 ∷ y.1 ∷ []) (search reify depth 30 fits 20000) tt)

  mul-r : (x y y' : Pair) → y ~ y' → mul_p x y ~ mul_p x y'
  unfolding ◌~◌
  mul-r x y y' r = by1 R (x.0 * x.1) r (ring! R (x.0 ∷ x.1 ∷ y'.0 ∷ y'.1 ∷ y.0 ∷ y.1 ∷ []) (search reify depth 30 fits 20000) tt)

  neg-r : (x x' : Pair) → x ~ x' → neg_p x ~ neg_p x'
  unfolding ◌~◌
  neg-r x x' r = by1 R (- 𝟙) r (ring! R (x.0 ∷ x.1 ∷ x'.0 ∷ x'.1 ∷ []) (search reify depth 30 fits 20000) tt)

  pub add_f : Frac → Frac → Frac
  unfolding Frac ◌~◌ map₂
  add_f = map₂ add_p add-l add_r

  pub mul_f : Frac → Frac → Frac
  unfolding Frac ◌~◌ map₂
  mul_f = map₂ mul_p mul-l mul-r

  pub neg_f : Frac → Frac
  unfolding Frac ◌~◌ /_map
  neg_f = /_map neg_p neg-r

  pub fr : (n d : A) → d ≢ 𝟘 → Frac
  unfolding Frac
  fr n d h = cls (n, d, h)

  pub fr-eq : (n d n' d' : A) (h : d ≢ 𝟘) (h' : d' ≢ 𝟘) → n * d' ≡ n' * d → fr n d h ≡ fr n' d' h'
  unfolding Frac fr ◌~◌
  fr-eq n d n' d' h h' e = eq/ (n, d, h) (n', d', h') e

  pub fr-inj : (n d n' d' : A) (h : d ≢ 𝟘) (h' : d' ≢ 𝟘) → fr n d h ≡ fr n' d' h' → n * d' ≡ n' * d
  unfolding Frac fr ◌~◌
  fr-inj n d n' d' h h' e = effective ~_prop ~-equiv (n, d, h) (n', d', h') e

  pub Frac-set : IsSet Frac
  unfolding Frac
  Frac-set = /_set

  pub Frac-discrete : Discrete Frac
  unfolding Frac ◌~◌
  Frac-discrete = /_discrete ~_prop ~-equiv (λ x y. D.discrete _ _)

  pub nil_f : Frac
  nil_f = fr 𝟘 𝟙 D.proper

  pub one_f : Frac
  one_f = fr 𝟙 𝟙 D.proper

  pub add_f-assoc : (x y z : Frac) → add_f (add_f x y) z ≡ add_f x (add_f y z)
  unfolding Frac ◌~◌ add_f map₂
  add_f-assoc = /_elim_prop₃ (λ x y z. add_f (add_f x y) z ≡ add_f x (add_f y z)) (λ x y z. /_set _ _)
      (λ x y z. eq/ (add_p (add_p x y) z) (add_p x (add_p y z)) (ring! R (x.0 ∷ x.1 ∷ y.0 ∷ y.1 ∷ z.0 ∷ z.1 ∷ []) (search reify depth 30 fits 20000) tt))

  pub add_f-comm : (x y : Frac) → add_f x y ≡ add_f y x
  unfolding Frac ◌~◌ add_f map₂
  add_f-comm = /_elim_prop₂ (λ x y. add_f x y ≡ add_f y x) (λ x y. /_set _ _)
      (λ x y. eq/ (add_p x y) (add_p y x) (ring! R (x.0 ∷ x.1 ∷ y.0 ∷ y.1 ∷ []) (search reify depth 30 fits 20000) tt))

  pub add_f-nil : (x : Frac) → add_f x nil_f ≡ x
  unfolding Frac ◌~◌ add_f map₂ nil_f fr
  add_f-nil = /_elim_prop (λ x. add_f x nil_f ≡ x) (λ x. /_set _ _)
      (λ x. eq/ (add_p x (𝟘, 𝟙, D.proper)) x (ring! R (x.0 ∷ x.1 ∷ []) (search reify depth 30 fits 20000) tt))

  pub add_f-neg : (x : Frac) → add_f x (neg_f x) ≡ nil_f
  unfolding Frac ◌~◌ add_f neg_f map₂ /_map nil_f fr
  add_f-neg = /_elim_prop (λ x. add_f x (neg_f x) ≡ nil_f) (λ x. /_set _ _)
      (λ x. eq/ (add_p x (neg_p x)) (𝟘, 𝟙, D.proper) (ring! R (x.0 ∷ x.1 ∷ []) (search reify depth 30 fits 20000) tt))

  pub mul_f-assoc : (x y z : Frac) → mul_f (mul_f x y) z ≡ mul_f x (mul_f y z)
  unfolding Frac ◌~◌ mul_f map₂
  mul_f-assoc = /_elim_prop₃ (λ x y z. mul_f (mul_f x y) z ≡ mul_f x (mul_f y z)) (λ x y z. /_set _ _)
      (λ x y z. eq/ (mul_p (mul_p x y) z) (mul_p x (mul_p y z)) (ring! R (x.0 ∷ x.1 ∷ y.0 ∷ y.1 ∷ z.0 ∷ z.1 ∷ []) (search reify depth 30 fits 20000) tt))

  pub mul_f-comm : (x y : Frac) → mul_f x y ≡ mul_f y x
  unfolding Frac ◌~◌ mul_f map₂
  mul_f-comm = /_elim_prop₂ (λ x y. mul_f x y ≡ mul_f y x) (λ x y. /_set _ _)
      (λ x y. eq/ (mul_p x y) (mul_p y x) (ring! R (x.0 ∷ x.1 ∷ y.0 ∷ y.1 ∷ []) (search reify depth 30 fits 20000) tt))

  pub mul_f-one : (x : Frac) → mul_f x one_f ≡ x
  unfolding Frac ◌~◌ mul_f map₂ one_f fr
  mul_f-one = /_elim_prop (λ x. mul_f x one_f ≡ x) (λ x. /_set _ _)
      (λ x. eq/ (mul_p x (𝟙, 𝟙, D.proper)) x (ring! R (x.0 ∷ x.1 ∷ []) (search reify depth 30 fits 20000) tt))

  pub F-distl : (x y z : Frac) → mul_f x (add_f y z) ≡ add_f (mul_f x y) (mul_f x z)
  unfolding Frac ◌~◌ mul_f add_f map₂
  F-distl = /_elim_prop₃ (λ x y z. mul_f x (add_f y z) ≡ add_f (mul_f x y) (mul_f x z)) (λ x y z. /_set _ _)
      (λ x y z. eq/ (mul_p x (add_p y z)) (add_p (mul_p x y) (mul_p x z)) (ring! R (x.0 ∷ x.1 ∷ y.0 ∷ y.1 ∷ z.0 ∷ z.1 ∷ []) (search reify depth 30 fits 20000) tt))

  abbrev pub Frac-ring : CRing Frac
  Frac-ring = record {
    is_set = Frac-set;
    add = add_f;
    mul = mul_f;
    neg = neg_f;
    nil = nil_f;
    one = one_f;
    add_assoc = add_f-assoc;
    add_comm = add_f-comm;
    add-nil = add_f-nil;
    add-neg = add_f-neg;
    mul_assoc = mul_f-assoc;
    mul_comm = mul_f-comm;
    mul-one = mul_f-one;
    distl = F-distl;
  }

  -- the operations at fractions
  pub fr-add : (n d n' d' : A) (h : d ≢ 𝟘) (h' : d' ≢ 𝟘) → add_f (fr n d h) (fr n' d' h') ≡ fr (n * d' + n' * d) (d * d') (mul-ne D d d' h h')
  unfolding Frac ◌~◌ add_f map₂ fr
  fr-add n d n' d' h h' = refl

  pub fr-mul : (n d n' d' : A) (h : d ≢ 𝟘) (h' : d' ≢ 𝟘) → mul_f (fr n d h) (fr n' d' h') ≡ fr (n * n') (d * d') (mul-ne D d d' h h')
  unfolding Frac ◌~◌ mul_f map₂ fr
  fr-mul n d n' d' h h' = refl

  pub fr-neg : (n d : A) (h : d ≢ 𝟘) → neg_f (fr n d h) ≡ fr (- n) d h
  unfolding Frac ◌~◌ neg_f /_map fr
  fr-neg n d h = refl

  pub fr-ind : (P : Frac → Type 0) → ((x : Frac) → IsProp (P x)) → ((n d : A) (h : d ≢ 𝟘) → P (fr n d h)) → (x : Frac) → P x
  unfolding Frac fr
  fr-ind P pr f = /_elim_prop P pr (λ x. f x.0 x.1 x.2)

  -- when a fraction is 0, and when 1
  pub fr-nil : (n d : A) (h : d ≢ 𝟘) → n ≡ 𝟘 → fr n d h ≡ nil_f
  unfolding nil_f
  fr-nil n d h e = fr-eq n d 𝟘 𝟙 h D.proper (by1 R 𝟙 e (ring! R (n ∷ d ∷ []) (search reify depth 30 fits 20000) tt))

  pub nil-fr : (n d : A) (h : d ≢ 𝟘) → fr n d h ≡ nil_f → n ≡ 𝟘
  unfolding nil_f
  nil-fr n d h e = by1 R 𝟙 (fr-inj n d 𝟘 𝟙 h D.proper e) (ring! R (n ∷ d ∷ []) (search reify depth 30 fits 20000) tt)

  pub fr-one : (n d : A) (h : d ≢ 𝟘) → n ≡ d → fr n d h ≡ one_f
  unfolding one_f
  fr-one n d h e = fr-eq n d 𝟙 𝟙 h D.proper (by1 R 𝟙 e (ring! R (n ∷ d ∷ []) (search reify depth 30 fits 20000) tt))

  fr-turn : (n d : A) (h : d ≢ 𝟘) (k : n ≢ 𝟘) → mul_f (fr n d h) (fr d n k) ≡ one_f
  fr-turn n d h k = fr-mul n d d n h k ∙ fr-one (n * d) (d * n) (mul-ne D d n h k) (mul_comm n d)

  pub inverse : (x : Frac) → x ≢ nil_f → (y : Frac) × (mul_f x y ≡ one_f)
  inverse = fr-ind (λ x. x ≢ nil_f → (y : Frac) × (mul_f x y ≡ one_f)) (λ x. Π_prop (λ _. inv-prop Frac-ring x))
      (λ n d h ne. let k : n ≢ 𝟘 = λ e. ne (fr-nil n d h e) in (fr d n k, fr-turn n d h k))

  inv-dec : (x : Frac) → Dec (x ≡ nil_f) → Frac
  inv-dec x (yes e) = nil_f
  inv-dec x (no h) = (inverse x h).0

  inv-dec-is : (x : Frac) (d : Dec (x ≡ nil_f)) → x ≢ nil_f → mul_f x (inv-dec x d) ≡ one_f
  unfolding inv-dec
  inv-dec-is x (yes e) h = absurd (h e)
  inv-dec-is x (no k) h = (inverse x k).1

  pub inv_f : Frac → Frac
  inv_f x = inv-dec x (Frac-discrete x nil_f)

  pub mul_f-inv : (x : Frac) → x ≢ nil_f → mul_f x (inv_f x) ≡ one_f
  unfolding inv_f
  mul_f-inv x h = inv-dec-is x (Frac-discrete x nil_f) h

  pub fr-inv : (n d : A) (h : d ≢ 𝟘) (k : n ≢ 𝟘) → inv_f (fr n d h) ≡ fr d n k
  fr-inv n d h k = inv_unique Frac-ring (fr n d h) (inv_f (fr n d h)) (fr d n k) (mul_f-inv (fr n d h) (λ e. k (nil-fr n d h e))) (fr-turn n d h k)

  pub proper_f : one_f ≢ nil_f
  unfolding one_f nil_f
  proper_f e = D.proper (by1 R 𝟙 (fr-inj 𝟙 𝟙 𝟘 𝟙 D.proper D.proper e) (ring! R [] (search reify depth 30 fits 20000) tt))

  abbrev pub Frac-field : Field Frac
  Frac-field = record { ring = Frac-ring; proper = proper_f; inv = inv_f; mul-inv = mul_f-inv; discrete = Frac-discrete }

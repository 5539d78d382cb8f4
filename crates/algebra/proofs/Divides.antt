-- Divisibility in a commutative ring, and elements without a common divisor: some combination of the two is 1.
use mathlib.Core.Path.{◌≡◌, refl, sym, ◌∙◌}
use mathlib.Core.Logic.{◌≢◌}
use mathlib.Core.List.{[], ◌∷◌}
use Prim.Native.Nat.{ℕ, zero, suc}
use Rattle.algebra.proofs.Ring.{CRing, Domain, pow, by1, by2, one-mul, nil-mul}
use Rattle.algebra.proofs.Reflect.{ring!, reify}

module _ {A : Type 0} (R : CRing A) where
  open R use {add as ◌+◌, mul as ◌*◌, neg as -◌, nil as 𝟘, one as 𝟙}

  infixl 60 ◌+◌
  infixl 70 ◌*◌
  infix 75 -◌
  -- a divides b: b = k a for some k
  abbrev pub Dvd : A → A → Type 0
  Dvd a b = (k : A) × (b ≡ k * a)

  pub dvd_refl : (a : A) → Dvd a a
  dvd_refl a = (𝟙, sym (one-mul R a))

  pub dvd-nil : (a : A) → Dvd a 𝟘
  dvd-nil a = (𝟘, sym (nil-mul R a))

  pub one-dvd : (a : A) → Dvd 𝟙 a
  one-dvd a = (a, sym (R.mul-one a))

  pub dvd-left : (a c : A) → Dvd a (a * c)
  dvd-left a c = (c, R.mul_comm a c)

  pub dvd-right : (a c : A) → Dvd a (c * a)
  dvd-right a c = (c, refl)

  pub dvd_trans : (a b c : A) → Dvd a b → Dvd b c → Dvd a c
  dvd_trans a b c (k, e) (l, f) = (l * k, by2 R l e 𝟙 f (ring! R (a ∷ b ∷ c ∷ k ∷ l ∷ []) (search reify depth 30 fits 20000) tt))

  pub dvd-add : (a b c : A) → Dvd a b → Dvd a c → Dvd a (b + c)
  dvd-add a b c (k, e) (l, f) = (k + l, by2 R 𝟙 e 𝟙 f (ring! R (a ∷ b ∷ c ∷ k ∷ l ∷ []) (search reify depth 30 fits 20000) tt))

  pub dvd-neg : (a b : A) → Dvd a b → Dvd a (- b)
  dvd-neg a b (k, e) = (- k, by1 R (- 𝟙) e (ring! R (a ∷ b ∷ k ∷ []) (search reify depth 30 fits 20000) tt))

  pub neg-dvd : (a b : A) → Dvd a b → Dvd (- a) b
  neg-dvd a b (k, e) = (- k, by1 R 𝟙 e (ring! R (a ∷ b ∷ k ∷ []) (search reify depth 30 fits 20000) tt))

  pub dvd-sub : (a b c : A) → Dvd a b → Dvd a c → Dvd a (b + - c)
  dvd-sub a b c d e = dvd-add a b (- c) d (dvd-neg a c e)

  pub dvd-mul-l : (a b c : A) → Dvd a b → Dvd a (c * b)
  dvd-mul-l a b c d = dvd_trans a b (c * b) d (dvd-right b c)

  pub dvd-mul-r : (a b c : A) → Dvd a b → Dvd a (b * c)
  dvd-mul-r a b c d = dvd_trans a b (b * c) d (dvd-left b c)

  pub dvd-mul : (a b c d : A) → Dvd a b → Dvd c d → Dvd (a * c) (b * d)
  dvd-mul a b c d (k, e) (l, f) = (k * l, by2 R d e (k * a) f (ring! R (a ∷ b ∷ c ∷ d ∷ k ∷ l ∷ []) (search reify depth 30 fits 20000) tt))

  pub dvd-pow : (a b : A) (n : ℕ) → Dvd a b → Dvd (pow R a n) (pow R b n)
  unfolding pow
  dvd-pow a b zero d = dvd_refl 𝟙
  dvd-pow a b (suc n) d = dvd-mul (pow R a n) (pow R b n) a b (dvd-pow a b n d) d

  -- a common divisor divides each combination
  pub dvd-combination : (k a b u v : A) → Dvd k a → Dvd k b → Dvd k (a * u + b * v)
  dvd-combination k a b u v d e = dvd-add k (a * u) (b * v) (dvd-mul-r k a u d) (dvd-mul-r k b v e)

  -- what divides a sum and one part divides the other
  pub dvd-other : (a b c : A) → Dvd a (b + c) → Dvd a b → Dvd a c
  dvd-other a b c (k, e) (l, f) = (k + - l, by2 R 𝟙 e (- 𝟙) f (ring! R (a ∷ b ∷ c ∷ k ∷ l ∷ []) (search reify depth 30 fits 20000) tt))

  -- a = b q + r: what divides b divides a exactly if it divides r
  pub dvd-rest : (d a b q r : A) → a ≡ b * q + r → Dvd d b → Dvd d a → Dvd d r
  dvd-rest d a b q r e h (k, f) = dvd-other d (b * q) r (k, sym e ∙ f) (dvd-mul-r d b q h)

  pub dvd-whole : (d a b q r : A) → a ≡ b * q + r → Dvd d b → Dvd d r → Dvd d a
  dvd-whole d a b q r e h k = let (l, f) = dvd-add d (b * q) r (dvd-mul-r d b q h) k in (l, e ∙ f)

  -- a unit factor of the divisor, or of the multiple, changes nothing: c has the inverse c'
  pub dvd-unit : (c c' a b : A) → c * c' ≡ 𝟙 → Dvd a b → Dvd (c * a) b
  dvd-unit c c' a b e (k, f) = (k * c', by2 R (- (k * a)) e 𝟙 f (ring! R (c ∷ c' ∷ a ∷ b ∷ k ∷ []) (search reify depth 30 fits 20000) tt))

  pub unit-dvd : (c c' a b : A) → c * c' ≡ 𝟙 → Dvd a (c * b) → Dvd a b
  unit-dvd c c' a b e (k, f) = (c' * k, by2 R (- b) e c' f (ring! R (c ∷ c' ∷ a ∷ b ∷ k ∷ []) (search reify depth 30 fits 20000) tt))

  abbrev pub Coprime : A → A → Type 0
  Coprime a b = (u : A) × (v : A) × (a * u + b * v ≡ 𝟙)

  pub coprime-sym : (a b : A) → Coprime a b → Coprime b a
  coprime-sym a b (u, v, e) = (v, u, R.add_comm (b * v) (a * u) ∙ e)

  pub coprime-one : (a : A) → Coprime a 𝟙
  coprime-one a = (𝟘, 𝟙, ring! R (a ∷ []) (search reify depth 30 fits 20000) tt)

  -- a common divisor of coprime elements divides 1
  pub coprime-unit : (a b k : A) → Coprime a b → Dvd k a → Dvd k b → Dvd k 𝟙
  coprime-unit a b k (u, v, e) d d' = let (l, f) = dvd-combination k a b u v d d' in (l, sym e ∙ f)

  -- coprime to two factors is coprime to their product
  pub coprime-mul : (a b c : A) → Coprime a b → Coprime a c → Coprime a (b * c)
  coprime-mul a b c (u, v, e) (u', v', e') = (
    u * (a * u' + c * v') + b * v * u',
    v * v',
    by2 R (a * u' + c * v') e 𝟙 e' (ring! R (a ∷ b ∷ c ∷ u ∷ v ∷ u' ∷ v' ∷ []) (search reify depth 30 fits 20000) tt),
  )

  pub coprime-pow : (a b : A) (n : ℕ) → Coprime a b → Coprime a (pow R b n)
  unfolding pow
  coprime-pow a b zero h = coprime-one a
  coprime-pow a b (suc n) h = coprime-mul a (pow R b n) b (coprime-pow a b n h) h

  pub coprime-pows : (a b : A) (m n : ℕ) → Coprime a b → Coprime (pow R a m) (pow R b n)
  coprime-pows a b m n h = coprime-sym (pow R b n) (pow R a m) (coprime-pow (pow R b n) a m (coprime-sym a (pow R b n) (coprime-pow a b n h)))

  -- Euclid's lemma: coprime to b and dividing b c, it divides c
  pub coprime-dvd : (a b c : A) → Coprime a b → Dvd a (b * c) → Dvd a c
  coprime-dvd a b c (u, v, e) (k, f) = (u * c + v * k, by2 R (- c) e v f (ring! R (a ∷ b ∷ c ∷ u ∷ v ∷ k ∷ []) (search reify depth 30 fits 20000) tt))

  pub coprime-dvd-pow : (a b c : A) (n : ℕ) → Coprime a b → Dvd a (c * pow R b n) → Dvd a c
  coprime-dvd-pow a b c n h (k, f) = coprime-dvd a (pow R b n) c (coprime-pow a b n h) (k, R.mul_comm (pow R b n) c ∙ f)

  -- two coprime divisors divide by their product
  pub coprime-both : (a b c : A) → Coprime a b → Dvd a c → Dvd b c → Dvd (a * b) c
  coprime-both a b c h (k, e) (l, f) =
      let (m, g) = coprime-dvd b a k (coprime-sym a b h) (l, sym (e ∙ R.mul_comm k a) ∙ f) in
      (m, e ∙ by1 R a g (ring! R (a ∷ b ∷ k ∷ m ∷ []) (search reify depth 30 fits 20000) tt))

-- in a domain a common factor goes out of a division
pub dvd-cancel : {A : Type 0} (D : Domain A) (c a b : A) → c ≢ D.ring.nil → Dvd D.ring (D.ring.mul a c) (D.ring.mul b c) → Dvd D.ring a b
dvd-cancel D c a b h (k, e) = (k, D.cancel b (D.ring.mul k a) c h (e ∙ sym (D.ring.mul_assoc k a c)))

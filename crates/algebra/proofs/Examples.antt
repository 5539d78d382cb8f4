-- What the ring solver proves, by example.
use mathlib.Core.Path.{◌≡◌}
use mathlib.Core.List.{[], ◌∷◌}
use Prim.Native.Nat.{ℕ}
use Rattle.algebra.proofs.Ring.{CRing, nat, pow, by1, by2, by3}
use Rattle.algebra.proofs.Reflect.{ring!, reify}
use Rattle.algebra.proofs.Rational.{ℚ, ℚ-ring, ◌+ℚ◌, ◌*ℚ◌, 1ℚ}

module _ {A : Type 0} (R : CRing A) where
  open R use {add as ◌+◌, mul as ◌*◌, neg as -◌, one as 𝟙}

  infixl 60 ◌+◌
  infixl 70 ◌*◌
  infix 75 -◌
  -- numerals
  numerals : nat R 2 * nat R 3 ≡ nat R 6
  numerals = ring! R [] (search reify depth 30 fits 20000) tt

  large : (a : A) → nat R 100000 * a + nat R 23 * a ≡ a * nat R 100023
  large a = ring! R (a ∷ []) (search reify depth 30 fits 20000) tt

  -- powers
  squares : (a b : A) → (a + b) * (a + - b) ≡ pow R a 2 + - pow R b 2
  squares a b = ring! R (a ∷ b ∷ []) (search reify depth 30 fits 20000) tt

  cube : (a b : A) → pow R (a + b) 3 ≡ pow R a 3 + nat R 3 * pow R a 2 * b + nat R 3 * a * pow R b 2 + pow R b 3
  cube a b = ring! R (a ∷ b ∷ []) (search reify depth 30 fits 20000) tt

  -- a power whose exponent is no literal is an atom
  exponent : (a : A) (n : ℕ) → pow R a n * a * a ≡ pow R a 2 * pow R a n
  exponent a n = ring! R (a ∷ pow R a n ∷ []) (search reify depth 30 fits 20000) tt

  -- from one equation, from two, from three
  twice : (a b : A) → a ≡ b + 𝟙 → pow R a 2 ≡ pow R b 2 + nat R 2 * b + 𝟙
  twice a b e = by1 R (a + b + 𝟙) e (ring! R (a ∷ b ∷ []) (search reify depth 30 fits 20000) tt)

  both : (a b c d : A) → a ≡ b → c ≡ d → a * c ≡ b * d
  both a b c d e f = by2 R c e b f (ring! R (a ∷ b ∷ c ∷ d ∷ []) (search reify depth 30 fits 20000) tt)

  -- the discriminant of a quadratic with the roots x and y
  discriminant : (a b c x y : A) → b ≡ - (a * (x + y)) → c ≡ a * x * y → b * b + - (nat R 4 * a * c) ≡ pow R (a * (x + - y)) 2
  discriminant a b c x y e f =
      by2 R (b + - (a * (x + y))) e (- (nat R 4 * a)) f (ring! R (a ∷ b ∷ c ∷ x ∷ y ∷ []) (search reify depth 30 fits 20000) tt)

  three : (x y z s t u : A) → x + y ≡ s → y + z ≡ t → z + x ≡ u → nat R 2 * (x + y + z) ≡ s + t + u
  three x y z s t u e f g = by3 R 𝟙 e 𝟙 f 𝟙 g (ring! R (x ∷ y ∷ z ∷ s ∷ t ∷ u ∷ []) (search reify depth 30 fits 20000) tt)

-- at the rationals
halves : (a h : ℚ) → nat ℚ-ring 2 *ℚ h ≡ 1ℚ → a *ℚ h +ℚ a *ℚ h ≡ a
halves a h e = by1 ℚ-ring a e (ring! ℚ-ring (a ∷ h ∷ []) (search reify depth 30 fits 20000) tt)

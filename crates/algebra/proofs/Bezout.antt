-- The greatest common divisor with its cofactors, in any commutative ring where Euclid's step can be made.
use mathlib.Core.Path.{◌≡◌, ◌∙◌}
use mathlib.Core.Logic.{◌≢◌}
use mathlib.Core.List.{[], ◌∷◌}
use Rattle.algebra.proofs.Ring.{CRing, Domain, by1, by2, by3}
use Rattle.algebra.proofs.Divides.{Dvd, dvd-combination, Coprime}
use Rattle.algebra.proofs.Reflect.{ring!, reify}

module _ {A : Type 0} (R : CRing A) where
  open R use {add as ◌+◌, mul as ◌*◌, neg as -◌, nil as 𝟘, one as 𝟙}

  infixl 60 ◌+◌
  infixl 70 ◌*◌
  infix 75 -◌
  pub record Bezout (a b : A) : Type 0 where
    pub g : A
    pub u : A
    pub v : A
    pub a' : A
    pub b' : A
    pub comb : g ≡ a * u + b * v
    pub div-a : a ≡ g * a'
    pub div-b : b ≡ g * b'

  pub bez-dvd-l : (a b : A) (z : Bezout a b) → Dvd R z.g a
  bez-dvd-l a b z = (z.a', z.div-a ∙ R.mul_comm z.g z.a')

  pub bez-dvd-r : (a b : A) (z : Bezout a b) → Dvd R z.g b
  bez-dvd-r a b z = (z.b', z.div-b ∙ R.mul_comm z.g z.b')

  -- each common divisor divides it
  pub bez-greatest : (a b : A) (z : Bezout a b) (k : A) → Dvd R k a → Dvd R k b → Dvd R k z.g
  bez-greatest a b z k d e = let (l, f) = dvd-combination R k a b z.u z.v d e in (l, z.comb ∙ f)

  cofactors : (a b : A) (z : Bezout a b) → (z.a' * z.u + z.b' * z.v) * z.g ≡ 𝟙 * z.g
  cofactors a b z = by3 R (- 𝟙) z.comb (- z.u) z.div-a (- z.v) z.div-b
      (ring! R (a ∷ b ∷ z.g ∷ z.u ∷ z.v ∷ z.a' ∷ z.b' ∷ []) (search reify depth 30 fits 20000) tt)

  pub bez-nil : (a : A) → Bezout a 𝟘
  bez-nil a = record {
    g = a;
    u = 𝟙;
    v = 𝟘;
    a' = 𝟙;
    b' = 𝟘;
    comb = ring! R (a ∷ []) (search reify depth 30 fits 20000) tt;
    div-a = ring! R (a ∷ []) (search reify depth 30 fits 20000) tt;
    div-b = ring! R (a ∷ []) (search reify depth 30 fits 20000) tt;
  }

  -- a = b q + r
  pub bez-step : (a b q r : A) → a ≡ b * q + r → Bezout b r → Bezout a b
  bez-step a b q r e z = record {
    g = z.g;
    u = z.v;
    v = z.u + - (q * z.v);
    a' = z.a' * q + z.b';
    b' = z.a';
    comb = by2 R 𝟙 z.comb (- z.v) e (ring! R (a ∷ b ∷ q ∷ r ∷ z.g ∷ z.u ∷ z.v ∷ []) (search reify depth 30 fits 20000) tt);
    div-a = e ∙ by2 R q z.div-a 𝟙 z.div-b (ring! R (b ∷ q ∷ r ∷ z.g ∷ z.a' ∷ z.b' ∷ []) (search reify depth 30 fits 20000) tt);
    div-b = z.div-a;
  }

  pub bez-neg-l : (a b : A) → Bezout a b → Bezout (- a) b
  bez-neg-l a b z = record {
    g = z.g;
    u = - z.u;
    v = z.v;
    a' = - z.a';
    b' = z.b';
    comb = by1 R 𝟙 z.comb (ring! R (a ∷ b ∷ z.g ∷ z.u ∷ z.v ∷ []) (search reify depth 30 fits 20000) tt);
    div-a = by1 R (- 𝟙) z.div-a (ring! R (a ∷ z.g ∷ z.a' ∷ []) (search reify depth 30 fits 20000) tt);
    div-b = z.div-b;
  }

  pub bez-swap : (a b : A) → Bezout a b → Bezout b a
  bez-swap a b z = record {
    g = z.g;
    u = z.v;
    v = z.u;
    a' = z.b';
    b' = z.a';
    comb = by1 R 𝟙 z.comb (ring! R (a ∷ b ∷ z.g ∷ z.u ∷ z.v ∷ []) (search reify depth 30 fits 20000) tt);
    div-a = z.div-b;
    div-b = z.div-a;
  }

-- in a domain the cofactors are coprime
pub bez-coprime : {A : Type 0} (D : Domain A) (a b : A) (z : Bezout D.ring a b) → z.g ≢ D.ring.nil → Coprime D.ring z.a' z.b'
bez-coprime D a b z h = (z.u, z.v, D.cancel _ _ z.g h (cofactors D.ring a b z))

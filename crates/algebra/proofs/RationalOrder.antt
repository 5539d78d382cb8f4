-- The order of the rationals by cross products: it respects equality, is irreflexive and transitive, and exactly one of three cases holds.
use mathlib.Core.Path.{◌≡◌, refl, sym, subst₂}
use mathlib.Core.List.{[], ◌∷◌}
use lib.IntN.{ℤ, pos, ◌*ℤ◌}
use lib.Signed.{◌<ℤ◌, <ℤ_irrefl}
use Rattle.algebra.specs.Rational.{Rat, Same, Less}
use Rattle.algebra.proofs.Ring.{CRing, by1}
use Rattle.algebra.proofs.Reflect.{ring!, reify}
use Rattle.algebra.proofs.Whole.{ℤ-ring}
use Rattle.algebra.proofs.WholeOrder.{Three, less, same, more, compareℤ, <ℤ-trans, <ℤ-mul, <ℤ-cancel}

module _ {A : Type 0} (R : CRing A) where
  open R use {mul as ◌*◌}

  infixl 70 ◌*◌
  exchange : (a b c : A) → a * b * c ≡ a * c * b
  exchange a b c = ring! R (a ∷ b ∷ c ∷ []) (search reify depth 30 fits 20000) tt

  exchange-by : (a b a' b' c : A) → a * b' ≡ a' * b → a * c * b' ≡ a' * c * b
  exchange-by a b a' b' c e = by1 R c e (ring! R (a ∷ b ∷ a' ∷ b' ∷ c ∷ []) (search reify depth 30 fits 20000) tt)

pub less-same-l : (x x' y : Rat) → Same x x' → Less x y → Less x' y
less-same-l x x' y e h =
    let b : ℤ = pos x.den in
    let b' : ℤ = pos x'.den in
    let d : ℤ = pos y.den in
    <ℤ-cancel (x'.num *ℤ d) (y.num *ℤ b') x.den
    (subst₂ ◌<ℤ◌ (exchange-by ℤ-ring x.num b x'.num b' d e) (exchange ℤ-ring y.num b b')
    (<ℤ-mul (x.num *ℤ d) (y.num *ℤ b) x'.den x'.above_zero h))

pub less-same-r : (x y y' : Rat) → Same y y' → Less x y → Less x y'
less-same-r x y y' e h =
    let b : ℤ = pos x.den in
    let d : ℤ = pos y.den in
    let d' : ℤ = pos y'.den in
    <ℤ-cancel (x.num *ℤ d') (y'.num *ℤ b) y.den
    (subst₂ ◌<ℤ◌ (exchange ℤ-ring x.num d d') (exchange-by ℤ-ring y.num d y'.num d' b e)
    (<ℤ-mul (x.num *ℤ d) (y.num *ℤ b) y'.den y'.above_zero h))

-- at most one of the three
pub less-irrefl : (x y : Rat) → Same x y → Less x y → ⊥
less-irrefl x y e h = <ℤ_irrefl (less-same-r x y x (sym e) h)

pub less-trans : (x y z : Rat) → Less x y → Less y z → Less x z
less-trans x y z h k =
    let b : ℤ = pos x.den in
    let d : ℤ = pos y.den in
    let f : ℤ = pos z.den in
    <ℤ-cancel (x.num *ℤ f) (z.num *ℤ b) y.den
    (subst₂ ◌<ℤ◌ (exchange ℤ-ring x.num d f) (exchange ℤ-ring z.num d b)
    (<ℤ-trans (x.num *ℤ d *ℤ f) (y.num *ℤ b *ℤ f) (z.num *ℤ d *ℤ b)
    (<ℤ-mul (x.num *ℤ d) (y.num *ℤ b) z.den z.above_zero h)
    (subst₂ ◌<ℤ◌ (exchange ℤ-ring y.num f b) refl (<ℤ-mul (y.num *ℤ f) (z.num *ℤ d) x.den x.above_zero k))))

pub less-asym : (x y : Rat) → Less x y → Less y x → ⊥
less-asym x y h k = less-irrefl x x refl (less-trans x y x h k)

-- at least one
pub compare_q : (x y : Rat) → Three (Less x y) (Same x y) (Less y x)
compare_q x y = compareℤ (x.num *ℤ pos y.den) (y.num *ℤ pos x.den)

pub less-dec : (x y : Rat) → Dec (Less x y)
less-dec x y = go (compare_q x y)
  where
    go : Three (Less x y) (Same x y) (Less y x) → Dec (Less x y)
    go (less h) = yes h
    go (same e) = no (less-irrefl x y e)
    go (more h) = no (λ k. less-asym x y k h)

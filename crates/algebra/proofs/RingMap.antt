-- Ring homomorphisms, and what follows from their laws.
use mathlib.Core.Path.{◌≡◌, sym, ◌∙◌, ap}
use Prim.Native.Nat.{ℕ, zero, suc}
use Rattle.algebra.proofs.Ring.{CRing, nat, pow, neg_unique}

pub record RingMap {A B : Type 0} (R : CRing A) (S : CRing B) : Type 0 where
  pub to : A → B
  pub to-nil : to R.nil ≡ S.nil
  pub to_one : to R.one ≡ S.one
  pub to-add : (a b : A) → to (R.add a b) ≡ S.add (to a) (to b)
  pub to-mul : (a b : A) → to (R.mul a b) ≡ S.mul (to a) (to b)

module _ {A B : Type 0} (R : CRing A) (S : CRing B) (φ : RingMap R S) where
  pub map-neg : (a : A) → φ.to (R.neg a) ≡ S.neg (φ.to a)
  map-neg a = neg_unique S (φ.to a) (φ.to (R.neg a)) (sym (φ.to-add a (R.neg a)) ∙ ap φ.to (R.add-neg a) ∙ φ.to-nil)

  pub map-nat : (n : ℕ) → φ.to (nat R n) ≡ nat S n
  unfolding nat
  map-nat zero = φ.to-nil
  map-nat (suc n) = φ.to-add (nat R n) R.one ∙ ap (S.add (φ.to (nat R n))) φ.to_one ∙ ap (λ z. S.add z S.one) (map-nat n)

  pub map-pow : (a : A) (n : ℕ) → φ.to (pow R a n) ≡ pow S (φ.to a) n
  unfolding pow
  map-pow a zero = φ.to_one
  map-pow a (suc n) = φ.to-mul (pow R a n) a ∙ ap (λ z. S.mul z (φ.to a)) (map-pow a n)

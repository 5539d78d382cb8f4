-- A domain inside its field of fractions.
use mathlib.Core.Path.{◌≡◌, refl, sym, ◌∙◌}
use mathlib.Core.Logic.{◌≢◌}
use mathlib.Core.List.{[], ◌∷◌}
use Rattle.algebra.proofs.Ring.{CRing, Domain}
use Rattle.algebra.proofs.Reflect.{ring!, reify}
use Rattle.algebra.proofs.RingMap.{RingMap}
use Rattle.algebra.proofs.Fraction.{Frac, add_f, mul_f, nil_f, one_f, fr, fr-eq, fr-inj, fr-add, fr-mul, fr-nil, fr-one, Frac-ring}

module _ {A : Type 0} (D : Domain A) where
  abbrev R : CRing A
  R = D.ring

  open R use {add as ◌+◌, mul as ◌*◌, nil as 𝟘, one as 𝟙}

  infixl 60 ◌+◌
  infixl 70 ◌*◌
  -- a / 1
  unfoldable pub into : A → Frac D
  into a = fr D a 𝟙 D.proper

  pub into-nil : into 𝟘 ≡ nil_f D
  unfolding into
  into-nil = fr-nil D 𝟘 𝟙 D.proper refl

  pub into_one : into 𝟙 ≡ one_f D
  unfolding into
  into_one = fr-one D 𝟙 𝟙 D.proper refl

  pub into-add : (a b : A) → into (a + b) ≡ add_f D (into a) (into b)
  unfolding into
  into-add a b = sym (fr-add D a 𝟙 b 𝟙 D.proper D.proper ∙ fr-eq D _ _ _ _ _ _ (ring! R (a ∷ b ∷ []) (search reify depth 30 fits 20000) tt))

  pub into-mul : (a b : A) → into (a * b) ≡ mul_f D (into a) (into b)
  unfolding into
  into-mul a b = sym (fr-mul D a 𝟙 b 𝟙 D.proper D.proper ∙ fr-eq D _ _ _ _ _ _ (ring! R (a ∷ b ∷ []) (search reify depth 30 fits 20000) tt))

  abbrev pub into-map : RingMap R (Frac-ring D)
  into-map = record { to = into; to-nil = into-nil; to_one = into_one; to-add = into-add; to-mul = into-mul }

  pub into-inj : (a b : A) → into a ≡ into b → a ≡ b
  unfolding into
  into-inj a b e = sym (R.mul-one a) ∙ fr-inj D a 𝟙 b 𝟙 D.proper D.proper e ∙ R.mul-one b

  pub into-only-nil : (a : A) → into a ≡ nil_f D → a ≡ 𝟘
  into-only-nil a e = into-inj a 𝟘 (e ∙ sym into-nil)

  -- (n / d) d = n
  pub fr-mul-den : (n d : A) (h : d ≢ 𝟘) → mul_f D (fr D n d h) (into d) ≡ into n
  unfolding into
  fr-mul-den n d h = fr-mul D n d d 𝟙 h D.proper ∙ fr-eq D _ _ _ _ _ _ (ring! R (n ∷ d ∷ []) (search reify depth 30 fits 20000) tt)

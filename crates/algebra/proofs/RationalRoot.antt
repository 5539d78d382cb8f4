-- The rational root theorem: numerator and denominator of a root divide the ends of the polynomial.
use mathlib.Core.Path.{◌≡◌, refl, sym, ◌∙◌, ap, ap₂}
use mathlib.Core.Logic.{◌≢◌}
use mathlib.Core.List.{List, [], ◌∷◌, ◌++◌, map}
use Prim.Native.Nat.{suc}
use lib.ListN.{length, length-map}
use Rattle.algebra.proofs.Ring.{CRing, Domain, Field-domain, pow, by1, by2, mul-nil, nil-right, pow-ne}
use Rattle.algebra.proofs.Reflect.{ring!, reify}
use Rattle.algebra.proofs.Divides.{Dvd, Coprime, coprime-sym, coprime-pow, coprime-dvd}
use Rattle.algebra.proofs.RingMap.{RingMap, map-pow}
use Rattle.algebra.proofs.Fraction.{fr, nil_f, Frac-ring, Frac-field}
use Rattle.algebra.proofs.Embedding.{into, into-map, into-only-nil, fr-mul-den}
use Rattle.algebra.proofs.Evaluation.{horner}

module _ {A : Type 0} (R : CRing A) where
  open R use {add as ◌+◌, mul as ◌*◌, neg as -◌, nil as 𝟘, one as 𝟙}

  infixl 60 ◌+◌
  infixl 70 ◌*◌
  infix 75 -◌
  -- Σ aᵢ rⁱ sⁿ⁻ⁱ
  unfoldable pub hom : List A → A → A → A
  hom [] r s = 𝟘
  hom (a ∷ l) r s = a * pow R s (length l) + r * hom l r s

  length-snoc : (l : List A) (b : A) → length (l ++ (b ∷ [])) ≡ suc (length l)
  length-snoc [] b = refl
  length-snoc (a ∷ l) b = ap suc (length-snoc l b)

  hom-last : (l : List A) (b r s : A) → hom (l ++ (b ∷ [])) r s ≡ s * hom l r s + b * pow R r (length l)
  unfolding hom pow
  hom-last [] b r s = ring! R (b ∷ r ∷ s ∷ []) (search reify depth 30 fits 20000) tt
  hom-last (a ∷ l) b r s =
      ap (λ k. a * pow R s k + r * hom (l ++ (b ∷ [])) r s) (length-snoc l b) ∙ by1 R r (hom-last l b r s)
      (ring! R (a ∷ b ∷ r ∷ s ∷ hom (l ++ (b ∷ [])) r s ∷ hom l r s ∷ pow R s (length l) ∷ pow R r (length l) ∷ []) (search reify depth 30 fits 20000) tt)

  -- the numerator divides the constant term
  pub root-constant : (a : A) (l : List A) (r s : A) → Coprime R r s → hom (a ∷ l) r s ≡ 𝟘 → Dvd R r a
  unfolding hom
  root-constant a l r s c h = coprime-dvd R r (pow R s (length l)) a (coprime-pow R r s (length l) c)
      (- hom l r s, by1 R 𝟙 h (ring! R (a ∷ r ∷ pow R s (length l) ∷ hom l r s ∷ []) (search reify depth 30 fits 20000) tt))

  -- the denominator divides the leading one
  pub root-leading : (l : List A) (b r s : A) → Coprime R r s → hom (l ++ (b ∷ [])) r s ≡ 𝟘 → Dvd R s b
  root-leading l b r s c h = coprime-dvd R s (pow R r (length l)) b (coprime-pow R s r (length l) (coprime-sym R r s c))
      (- hom l r s, by1 R 𝟙 (sym (hom-last l b r s) ∙ h) (ring! R (b ∷ s ∷ pow R r (length l) ∷ hom l r s ∷ []) (search reify depth 30 fits 20000) tt))

  -- the value at x = r / s, times a power of s
  pub hom-value : (l : List A) (x r s : A) → x * s ≡ r → s * hom l r s ≡ pow R s (length l) * horner R l x
  unfolding hom horner pow
  hom-value [] x r s e = ring! R (s ∷ []) (search reify depth 30 fits 20000) tt
  hom-value (a ∷ l) x r s e = by2 R r (hom-value l x r s e) (- (pow R s (length l) * horner R l x)) e
      (ring! R (a ∷ x ∷ r ∷ s ∷ hom l r s ∷ horner R l x ∷ pow R s (length l) ∷ []) (search reify depth 30 fits 20000) tt)

module _ {A B : Type 0} (R : CRing A) (S : CRing B) (φ : RingMap R S) where
  pub map-hom : (l : List A) (r s : A) → φ.to (hom R l r s) ≡ hom S (map φ.to l) (φ.to r) (φ.to s)
  unfolding hom
  map-hom [] r s = φ.to-nil
  map-hom (a ∷ l) r s =
      φ.to-add _ _ ∙ ap₂ S.add
      (φ.to-mul a _ ∙ ap (S.mul (φ.to a)) (map-pow R S φ s (length l) ∙ ap (pow S (φ.to s)) (sym (length-map l φ.to))))
      (φ.to-mul r _ ∙ ap (S.mul (φ.to r)) (map-hom l r s))

-- a root r / s in a larger domain is a zero of the sum in the smaller ring
module _ {A B : Type 0} (R : CRing A) (D : Domain B) (φ : RingMap R D.ring) where
  module _ (l : List A) (x : B) (r s : A) (quotient : D.ring.mul x (φ.to s) ≡ φ.to r) (ne : φ.to s ≢ D.ring.nil) where
    linked : D.ring.mul (φ.to s) (φ.to (hom R l r s)) ≡ D.ring.mul (pow D.ring (φ.to s) (length (map φ.to l))) (horner D.ring (map φ.to l) x)
    linked = ap (D.ring.mul (φ.to s)) (map-hom R D.ring φ l r s) ∙ hom-value D.ring (map φ.to l) x (φ.to r) (φ.to s) quotient

    pub hom-root : hom R l r s ≡ R.nil → horner D.ring (map φ.to l) x ≡ D.ring.nil
    hom-root e =
        nil-right D (pow D.ring (φ.to s) (length (map φ.to l))) (horner D.ring (map φ.to l) x) (pow-ne D (φ.to s) ne (length (map φ.to l)))
        (sym linked ∙ ap (D.ring.mul (φ.to s)) (ap φ.to e ∙ φ.to-nil) ∙ mul-nil D.ring (φ.to s))

    pub root-hom : ((a : A) → φ.to a ≡ D.ring.nil → a ≡ R.nil) → horner D.ring (map φ.to l) x ≡ D.ring.nil → hom R l r s ≡ R.nil
    root-hom only e = only (hom R l r s) (nil-right D (φ.to s) (φ.to (hom R l r s)) ne
        (linked ∙ ap (D.ring.mul (pow D.ring (φ.to s) (length (map φ.to l)))) e ∙ mul-nil D.ring (pow D.ring (φ.to s) (length (map φ.to l)))))

-- at the fraction r / s of a domain
module _ {A : Type 0} (D : Domain A) (l : List A) (r s : A) (h : s ≢ D.ring.nil) where
  pub hom-fraction : hom D.ring l r s ≡ D.ring.nil → horner (Frac-ring D) (map (into D) l) (fr D r s h) ≡ nil_f D
  hom-fraction = hom-root D.ring (Field-domain (Frac-field D)) (into-map D) l (fr D r s h) r s (fr-mul-den D r s h) (λ e. h (into-only-nil D s e))

  pub fraction-hom : horner (Frac-ring D) (map (into D) l) (fr D r s h) ≡ nil_f D → hom D.ring l r s ≡ D.ring.nil
  fraction-hom = root-hom D.ring (Field-domain (Frac-field D)) (into-map D) l (fr D r s h) r s (fr-mul-den D r s h) (λ e. h (into-only-nil D s e)) (into-only-nil D)

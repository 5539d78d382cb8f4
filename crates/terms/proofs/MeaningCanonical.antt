-- Canonical lists of fractions (document 01, module 3): lowest terms, no zero at the top. The length gives the degree, and a polynomial has one such list.
use mathlib.Core.Path.{◌≡◌, refl, sym, ◌∙◌, ap, subst}
use mathlib.Core.Logic.{◌≢◌}
use mathlib.Core.Bool.{Bool, true, false}
use mathlib.Core.List.{List, [], ◌∷◌}
use Prim.Native.Nat.{ℕ, suc, ◌≤◌}
use native.Mathlib.Omega.{arith}
use lib.ListN.{length, get_or}
use lib.Seq.{ext_get_or}
use Rattle.algebra.specs.Polynomial.{Equal}
use Rattle.algebra.specs.Textbook.{IsZero, HasDegree}
use Rattle.algebra.proofs.Rational.{ℚ-ring, 0ℚ}
use Rattle.algebra.proofs.Series.{Below}
use Rattle.algebra.proofs.Poly.{nil_p}
use Rattle.algebra.proofs.Degree.{HasDeg, deg-bound, deg-not-nil}
use Rattle.algebra.proofs.Lists.{poly-empty, equal-poly}
use Rattle.algebra.proofs.ListWords.{zero-to, zero-from, degree-from}
use Rattle.ratio.specs.Refusal.{zero_r}
use Rattle.ratio.specs.Step.{is_nil}
use Rattle.ratio.specs.declared.Ratio.{Ratio}
use Rattle.ratio.proofs.Steps.{value, some-value, value-equal}
use Rattle.terms.specs.Meaning.{rats}
use Rattle.terms.specs.Poly.{drop_top, trim}
use Rattle.terms.proofs.Meaning.{poly_r, poly_r-at, poly_r-below, nil-num, poly_r-trim}
use Rattle.terms.proofs.MeaningLowest.{AllLowest, none-lowest, trim-lowest}
use Rattle.terms.proofs.MeaningTop.{trim-top, trim-nothing, top-degree}
use Rattle.terms.proofs.Lists.{trim-trim}

-- every entry in lowest terms, no zero at the top
pub record Canonical (l : List Ratio) : Type 0 where
  pub lowest : AllLowest l
  pub trimmed : trim l ≡ l

pub empty-canonical : Canonical []
unfolding drop_top
empty-canonical = record { lowest = none-lowest; trimmed = refl }

pub trim-canonical : (l : List Ratio) → AllLowest l → Canonical (trim l)
trim-canonical l h = record { lowest = trim-lowest l h; trimmed = trim-trim l }

-- ---- the top of a list that isn't empty

module _ (a : Ratio) (l : List Ratio) (c : Canonical (a ∷ l)) where
  pub top-some : is_nil (get_or (a ∷ l) (length l) zero_r).num ≡ false
  top-some = subst (λ m. is_nil (get_or m (length l) zero_r).num ≡ false) c.trimmed (trim-top (a ∷ l) (length l) (ap length c.trimmed))

  pub top-value : value (get_or (a ∷ l) (length l) zero_r) ≢ 0ℚ
  top-value = some-value (get_or (a ∷ l) (length l) zero_r) (c.lowest (length l)).fraction top-some

  pub canonical-degree : HasDeg ℚ-ring (poly_r (a ∷ l)) (length l)
  canonical-degree = top-degree (a ∷ l) (length l) refl (c.lowest (length l)).fraction top-some

  pub canonical-some : poly_r (a ∷ l) ≢ nil_p ℚ-ring
  canonical-some = deg-not-nil ℚ-ring (poly_r (a ∷ l)) (length l) canonical-degree

pub degree-canonical : (l : List Ratio) (n : ℕ) → AllLowest l → length l ≡ suc n → HasDeg ℚ-ring (poly_r l) n → Canonical l
degree-canonical l n h e d = record { lowest = h; trimmed = trim-nothing l n e (go (is_nil (get_or l n zero_r).num) refl) }
  where
    go : (t : Bool) → is_nil (get_or l n zero_r).num ≡ t → t ≡ false
    go true f = absurd (d.leads (poly_r-at l n ∙ nil-num (get_or l n zero_r) f))
    go false f = refl

-- only the empty list is zero
pub canonical-nil : (l : List Ratio) → Canonical l → poly_r l ≡ nil_p ℚ-ring → l ≡ []
canonical-nil [] c e = refl
canonical-nil (a ∷ l) c e = absurd (canonical-some a l c e)

-- no list of the same polynomial is shorter
canonical-shortest : (l m : List Ratio) → Canonical l → poly_r l ≡ poly_r m → length l ≤ length m
canonical-shortest [] m c e = omega arith
canonical-shortest (a ∷ l) m c e = deg-bound ℚ-ring (poly_r (a ∷ l)) (length l) (length m) (canonical-degree a l c) (subst (λ q. Below ℚ-ring (length m) q.0) (sym e) (poly_r-below m))

-- a polynomial has one canonical list
pub canonical-unique : (a b : List Ratio) → Canonical a → Canonical b → poly_r a ≡ poly_r b → a ≡ b
canonical-unique a b c d e =
    let s : length a ≤ length b = canonical-shortest a b c e in
    let t : length b ≤ length a = canonical-shortest b a d (sym e) in
    ext_get_or zero_r a b (omega arith)
    (λ i h. value-equal (get_or a i zero_r) (get_or b i zero_r) (c.lowest i) (d.lowest i) (sym (poly_r-at a i) ∙ ap (λ z. z.0 i) e ∙ poly_r-at b i))

-- ---- the same of what is left of any list

module _ (l : List Ratio) (low : AllLowest l) where
  pub trim-degree : (n : ℕ) → length (trim l) ≡ suc n → HasDegree (rats (trim l)) n
  trim-degree n p = degree-from (rats (trim l)) n (top-degree (trim l) n p (trim-lowest l low n).fraction (trim-top l n p))

  -- zero leaves nothing, and nothing else does
  pub trim-zero : IsZero (rats l) → trim l ≡ []
  trim-zero z = canonical-nil (trim l) (trim-canonical l low) (poly_r-trim l ∙ zero-to (rats l) z)

pub zero-trim : (l : List Ratio) → trim l ≡ [] → IsZero (rats l)
zero-trim l e = zero-from (rats l) (sym (poly_r-trim l) ∙ ap poly_r e ∙ poly-empty)

pub equal-trim : (a b : List Ratio) → AllLowest a → AllLowest b → Equal (rats a) (rats b) → trim a ≡ trim b
equal-trim a b la lb h = canonical-unique (trim a) (trim b) (trim-canonical a la) (trim-canonical b lb) (poly_r-trim a ∙ equal-poly (rats a) (rats b) h ∙ sym (poly_r-trim b))

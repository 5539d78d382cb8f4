-- Reading and writing are inverse (document 01, "the job program"): a text of coefficients has at most one reading, and a polynomial has one spelling, which is read back.
use Rattle.ratio.specs.declared.Reason.{Reason}
use Rattle.std.specs.Prelude.{◌≡◌, List, ℕ, length, Result, Ok}
use Rattle.ratio.specs.Promise.{Lowest}
use Rattle.ratio.specs.declared.Ratio.{Ratio}
use Rattle.terms.specs.declared.Answer.{Answer}
use Rattle.terms.specs.declared.Poly.{Poly}
use Rattle.terms.specs.Answer.{done_with}
use Rattle.terms.specs.Poly.{terms_of}
use Rattle.poly.specs.declared.Gate.TheVariants.{Open}
use Rattle.poly.specs.Door.{door_of}
use Rattle.text.specs.Spell.{ratio_text, poly_text}

-- a word is answered exactly when it is the spelling of a fraction in lowest terms, and by that fraction
pub record ReadsRatio (w : List ℕ) (s : Result Ratio Reason) : Type 0 where
  pub lowest : (r : Ratio) → s ≡ Ok r → Lowest r
  pub spelt : (r : Ratio) → s ≡ Ok r → w ≡ ratio_text r
  pub read : (r : Ratio) → Lowest r → w ≡ ratio_text r → s ≡ Ok r

-- what the door lets in, in an array of 32
pub record CanonicalPoly (p : Poly) : Type 0 where
  pub places : length p.coeffs ≡ 32
  pub lets-in : door_of p ≡ Open

-- a text is answered exactly when it is the spelling of a canonical polynomial, and by that polynomial
pub record ReadsPoly (t : List ℕ) (r : Answer) : Type 0 where
  pub canonical : (p : Poly) → r ≡ done_with p 0 → CanonicalPoly p
  pub spelt : (p : Poly) → r ≡ done_with p 0 → t ≡ poly_text (terms_of p)
  pub read : (p : Poly) → CanonicalPoly p → t ≡ poly_text (terms_of p) → r ≡ done_with p 0

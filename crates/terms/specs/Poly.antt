-- Document 01, module 3: a polynomial is its coefficients, rising, at most 32 of them, with no zero at the top; unused places are 0/1.
use Rattle.std.specs.Prelude.{Bool, true, false, List, [], ◌∷◌, ◌++◌, ◌-◌, length, take, replicate}
use Rattle.ratio.specs.Refusal.{zero_r}
use Rattle.ratio.specs.Step.{is_nil}
use Rattle.ratio.specs.declared.Ratio.{Ratio}
use Rattle.terms.specs.declared.Poly.{Poly}

-- the coefficients in use
abbrev pub terms_of : Poly → List Ratio
terms_of p = take p.len p.coeffs

-- the polynomial of these coefficients
abbrev pub poly_of : List Ratio → Poly
poly_of l = record { coeffs = l ++ replicate (32 - length l) zero_r; len = length l }

abbrev pub on_top : {W : Type 0} → Bool → W → List W → List W
on_top true a [] = []
on_top false a [] = a ∷ []
on_top t a (b ∷ l) = a ∷ b ∷ l

-- what a test finds at the top is dropped
unfoldable pub drop_top : {W : Type 0} → (W → Bool) → List W → List W
drop_top f [] = []
drop_top f (a ∷ l) = on_top (f a) a (drop_top f l)

-- the zeros at the top are dropped
abbrev pub trim : List Ratio → List Ratio
trim l = drop_top (λ r. is_nil r.num) l

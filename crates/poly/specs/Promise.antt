-- Demand 2 for polynomials: an answered operation is the textbook's, and what is handed back is canonical.
use Rattle.ratio.specs.declared.Reason.{Reason}
use Rattle.ratio.specs.declared.Ratio.{Ratio}
use Rattle.std.specs.Prelude.{◌≡◌, List, [], ◌∷◌, ℕ, Result, Option, Some, None, Ok, Bool, true, false}
use Rattle.algebra.specs.Rational.{Rat, Same, zero_q, one_q}
use Rattle.algebra.specs.Polynomial.{Equal, coeff}
use Rattle.algebra.specs.Textbook.{HasDegree, IsZero}
use Rattle.ratio.specs.Refusal.{status_of, ratio_of}
use Rattle.ratio.specs.Promise.{rat, Lowest}
use Rattle.terms.specs.declared.Poly.{Poly}
use Rattle.terms.specs.declared.Answer.{Answer}
use Rattle.terms.specs.Poly.{terms_of}
use Rattle.terms.specs.Meaning.{rats}
use Rattle.poly.specs.declared.Gate.TheVariants.{Open}
use Rattle.poly.specs.Door.{door_of}

-- a polynomial as the textbook reads it: the list of its coefficients
abbrev pub reading : Poly → List Rat
reading p = rats (terms_of p)

-- x
abbrev pub variable : List Rat
variable = zero_q ∷ one_q ∷ []

-- an answered operation gives the polynomial x; an answer, a refused one too, is canonical
pub record Gives (x : List Rat) (r : Answer) : Type 0 where
  pub is : status_of r.outcome ≡ 0 → Equal (reading r.poly) x
  pub canonical : door_of r.poly ≡ Open

-- an answered evaluation is the value, in lowest terms
pub record GivesValue (x : Rat) (s : Result Ratio Reason) : Type 0 where
  pub is : status_of s ≡ 0 → Same (rat (ratio_of s)) x
  pub lowest : status_of s ≡ 0 → Lowest (ratio_of s)

-- the degree of p
pub record TellsDegree (p : Poly) (e : Result (Option ℕ) Reason) : Type 0 where
  pub some : (n : ℕ) → e ≡ Ok (Some n) → HasDegree (reading p) n
  pub none : e ≡ Ok None → IsZero (reading p)

-- whether p is zero
pub record TellsZero (p : Poly) (t : Result Bool Reason) : Type 0 where
  pub yes : t ≡ Ok true → IsZero (reading p)
  pub no : t ≡ Ok false → IsZero (reading p) → ⊥

-- the coefficient that leads
pub record TellsLead (p : Poly) (s : Result Ratio Reason) : Type 0 where
  pub is : (n : ℕ) → HasDegree (reading p) n → status_of s ≡ 0 → Same (rat (ratio_of s)) (coeff (reading p) n)

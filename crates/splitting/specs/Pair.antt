-- Document 01, module 5, factors: Kronecker's method for degrees 3 to 6; the factor found and the quotient, where that has degree 1 or more.
use Rattle.std.specs.Prelude.{◌≡◌, Bool, true, false, cond, List, [], ◌∷◌, ℕ, ltb, length, Ok, Err}
use Rattle.ratio.specs.Refusal.{Outcome}
use Rattle.ratio.specs.declared.Ratio.{Ratio}
use Rattle.terms.specs.declared.Poly.{Poly}
use Rattle.terms.specs.Poly.{terms_of, poly_of}
use Rattle.kronecker.specs.declared.Verdict.{Verdict}
use Rattle.kronecker.specs.declared.Verdict.TheVariants.{Found, Next, NoSplit, Refused}
use Rattle.kronecker.specs.Split.{try_split_of}
use Rattle.yun.specs.Got.{Got, got, none, then_got, parts_of}
use Rattle.splitting.specs.declared.Pair.{Pair}

-- the polynomial stays whole, or is the product of two
pub data Halves : Type 0 where
  whole : Halves
  both : List Ratio → List Ratio → Halves

abbrev pub halves_if : List Ratio → List Ratio → List Ratio → Halves
halves_if [] g q = cond (ltb (length q) 2) whole (both g q)
halves_if (x ∷ r) g q = whole

unfoldable pub paired_by : List Ratio → List Ratio → Got Halves
paired_by f g = then_got (parts_of f g) (λ s. got (halves_if s.rest g s.quotient))

abbrev pub on_verdict : Verdict → List Ratio → List Ratio → Got Halves
on_verdict Found f g = paired_by f g
on_verdict Next f g = got whole
on_verdict NoSplit f g = got whole
on_verdict (Refused why) f g = none why

-- other degrees are not looked at
unfoldable pub pair_of : List Ratio → ℕ → Got Halves
pair_of f budget =
    cond (ltb (length f) 4) (got whole)
    (cond (ltb 7 (length f)) (got whole)
    (on_verdict (try_split_of f budget).verdict f (terms_of (try_split_of f budget).factor)))

-- how it lies in memory
abbrev pub halves_of : Bool → List Ratio → List Ratio → Halves
halves_of true g q = both g q
halves_of false g q = whole

abbrev pub pair_in : Outcome → Halves → Got Halves
pair_in (Ok _) h = got h
pair_in (Err why) h = none why

abbrev pub pair_from : Pair → Got Halves
pair_from p = pair_in p.outcome (halves_of p.two (terms_of p.factor) (terms_of p.quotient))

-- unused places are 0/1
pub record Padded (p : Poly) : Type 0 where
  pub is : p ≡ poly_of (terms_of p)

pub record PaddedPair (p : Pair) : Type 0 where
  pub factor : Padded p.factor
  pub quotient : Padded p.quotient

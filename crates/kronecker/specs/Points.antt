-- Document 01, module 5, Kronecker: the points 0, 1, -1, 2, -2, 3, -3, and the values there. A refused value ends the search, one with a denominator skips the degree.
use Rattle.ratio.specs.declared.Reason.{Reason}
use Rattle.std.specs.Prelude.{Bool, true, false, ◌&&◌, List, [], ◌∷◌, ℕ, zero, suc, eqb, pos, negsuc, nat_abs, get_or, Result, Ok, Err}
use Rattle.ratio.specs.Refusal.{zero_r}
use Rattle.ratio.specs.declared.Ratio.{Ratio}
use Rattle.terms.specs.Machine.{whole_r}
use Rattle.terms.specs.Answer.{value_of}
use Rattle.kronecker.specs.declared.Values.{Values}
use Rattle.kronecker.specs.declared.Values.TheVariants.{Whole, Broken, Over}

abbrev pub points : List Ratio
points = whole_r (pos 0) ∷ whole_r (pos 1) ∷ whole_r (negsuc 0) ∷ whole_r (pos 2) ∷ whole_r (negsuc 1) ∷ whole_r (pos 3) ∷ whole_r (negsuc 2) ∷ []

unfoldable pub point_of : ℕ → Ratio
point_of i = get_or points i zero_r

-- the value at point i
abbrev pub value_at : List Ratio → ℕ → Result Ratio Reason
value_at f i = value_of f (point_of i)

abbrev pub is_whole : Ratio → Bool
is_whole r = eqb (nat_abs r.den) 1

unfoldable pub all_whole : List Ratio → Bool
all_whole [] = true
all_whole (a ∷ l) = is_whole a && all_whole l

abbrev pub values_if : Bool → Values
values_if true = Whole
values_if false = Broken

abbrev pub on_step : {X : Type 0} → Result Ratio Reason → X → (Ratio → X) → X
on_step (Ok v) other k = k v
on_step (Err why) other k = other

-- the values at n points from point i on, all of them looked at
unfoldable pub surveyed : List Ratio → ℕ → ℕ → Bool → Values
surveyed f zero i fine = values_if fine
surveyed f (suc n) i fine = on_step (value_at f i) Over (λ v. surveyed f n (suc i) (fine && is_whole v))

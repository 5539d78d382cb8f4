-- How the work under way lies in the program's structs: the list of roots in an array of 32, filled up with 0/1, beside its length and the counts.
use Rattle.std.specs.Prelude.{◌≡◌, true, false, List, [], ◌++◌, ℕ, ◌-◌, length, take, replicate}
use Rattle.ratio.specs.Refusal.{zero_r}
use Rattle.ratio.specs.declared.Ratio.{Ratio}
use Rattle.terms.specs.Machine.{Ran, fine, over}
use Rattle.terms.specs.Poly.{poly_of}
use Rattle.search.specs.declared.Cleared.{Cleared}
use Rattle.search.specs.declared.Tally.{Tally}
use Rattle.search.specs.declared.Valued.{Valued}
use Rattle.search.specs.Try.{Count}

abbrev pub filled : List Ratio → List Ratio
filled l = l ++ replicate (32 - length l) zero_r

abbrev pub halted_at : ℕ → ℕ → Tally
halted_at n k = record { fine = false; values = replicate 32 zero_r; len = 0; tried = n; steps = k }

abbrev pub tally_of : Ran Count (List Ratio) → Tally
tally_of (fine c l) = record { fine = true; values = filled l; len = length l; tried = c.tried; steps = c.steps }
tally_of (over c) = halted_at c.tried c.steps

abbrev pub count_of : Tally → Count
count_of t = record { tried = t.tried; steps = t.steps }

-- the roots kept
abbrev pub kept_list : Tally → List Ratio
kept_list t = take t.len t.values

-- a tally that isn't refused
abbrev pub Tallied : Tally → Type 0
Tallied t = t ≡ tally_of (fine (count_of t) (kept_list t))

abbrev pub valued_of : Ran ℕ Ratio → Valued
valued_of (fine k v) = record { fine = true; value = v; steps = k }
valued_of (over k) = record { fine = false; value = zero_r; steps = k }

abbrev pub clear_of : Ran ℕ (List Ratio) → Cleared
clear_of (fine k l) = record { fine = true; poly = poly_of l }
clear_of (over k) = record { fine = false; poly = poly_of [] }

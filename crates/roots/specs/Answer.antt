-- Document 01, module 5 and "order": what `rational_roots` answers: the door first, 5 for what is not canonical or a budget outside 1 to 65,536, then 4 for a length over 32; then the search.
use Rattle.std.specs.Prelude.{Bool, not, ◌&&◌, ℕ, eqb, ltb}
use Rattle.terms.specs.declared.Poly.{Poly}
use Rattle.terms.specs.Poly.{terms_of}
use Rattle.poly.specs.declared.Gate.{Gate}
use Rattle.poly.specs.Door.{open_if, door_of, both, entered}
use Rattle.search.specs.declared.Roots.{Roots}
use Rattle.search.specs.Answer.{no_roots, roots_of}

abbrev pub is_budget : ℕ → Bool
is_budget budget = not (eqb budget 0) && not (ltb 65536 budget)

abbrev pub budget_door : ℕ → Gate
budget_door budget = open_if (is_budget budget)

abbrev pub rational_roots_of : Poly → ℕ → Roots
rational_roots_of p budget = entered (λ why. no_roots why 0 0) (both (door_of p) (budget_door budget)) (roots_of (terms_of p) budget)

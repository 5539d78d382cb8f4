-- Document 01, module 5, roots: zero roots are stripped. How many zeros stand at the bottom.
use Rattle.std.specs.Prelude.{Bool, true, false, List, [], ◌∷◌, ℕ, suc}
use Rattle.ratio.specs.Step.{is_nil}
use Rattle.ratio.specs.declared.Ratio.{Ratio}

abbrev pub one_more_if : Bool → ℕ → ℕ
one_more_if true n = suc n
one_more_if false n = 0

unfoldable pub zeros : List Ratio → ℕ
zeros [] = 0
zeros (a ∷ l) = one_more_if (is_nil a.num) (zeros l)

-- Numerators and denominators that are kept apart.
use Rattle.std.specs.Prelude.{List, [], ◌∷◌, ℤ}
use Rattle.ratio.specs.declared.Ratio.{Ratio}

-- the fractions of two lists, as far as both go
unfoldable pub pairs : List ℤ → List ℤ → List Ratio
pairs [] ds = []
pairs (n ∷ ns) [] = []
pairs (n ∷ ns) (d ∷ ds) = record { num = n; den = d } ∷ pairs ns ds

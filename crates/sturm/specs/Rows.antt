-- How the floats of a chain lie in memory: one row behind the other, and beside them how long each of them is. They are worked out once.
use Rattle.std.specs.Prelude.{List, [], ◌∷◌, ◌++◌, map, ℕ, ◌-◌, Float, length, take, drop, replicate}
use Rattle.std.specs.Float.{binary64}
use Rattle.std.specs.Float.Ieee.{of_bits}
use Rattle.sturm.specs.declared.Row.{Row}
use Rattle.sturm.specs.declared.Rows.{Rows}

-- unused places hold nothing
abbrev pub row_of : List Float → Row
row_of l = record { values = l ++ replicate (32 - length l) (of_bits binary64 0); len = length l }

unfoldable pub joined : List (List Float) → List Float
joined [] = []
joined (l ∷ rows) = l ++ joined rows

abbrev pub holding : List (List Float) → Rows
holding rows = record {
  values = joined rows ++ replicate (1024 - length (joined rows)) (of_bits binary64 0);
  sizes = map length rows ++ replicate (32 - length rows) 0;
  len = length rows;
}

-- the rows in values, by their sizes
unfoldable pub rows_in : List Float → List ℕ → List (List Float)
rows_in v [] = []
rows_in v (n ∷ sizes) = take n v ∷ rows_in (drop n v) sizes

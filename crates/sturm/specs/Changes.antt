-- Document 01, module 6: zeros are dropped before sign changes; a NaN differs from each neighbour, also from a NaN. Of any list of signs.
use Rattle.std.specs.Prelude.{List, [], ◌∷◌, ℕ, ◌+◌}
use Rattle.sturm.specs.declared.Sign.{Sign}
use Rattle.sturm.specs.declared.Sign.TheVariants.{Zero, Plus, Minus, Nan}

-- whether two signs differ; a zero differs from none
abbrev pub differ : Sign → Sign → ℕ
differ Zero s = 0
differ Plus Zero = 0
differ Plus Plus = 0
differ Plus Minus = 1
differ Plus Nan = 1
differ Minus Zero = 0
differ Minus Plus = 1
differ Minus Minus = 0
differ Minus Nan = 1
differ Nan Zero = 0
differ Nan Plus = 1
differ Nan Minus = 1
differ Nan Nan = 1

-- s, where it is not zero
abbrev pub newer : Sign → Sign → Sign
newer last Zero = last
newer last Plus = Plus
newer last Minus = Minus
newer last Nan = Nan

abbrev pub keep : Sign → List Sign → List Sign
keep Zero l = l
keep Plus l = Plus ∷ l
keep Minus l = Minus ∷ l
keep Nan l = Nan ∷ l

-- the signs that are not zero
unfoldable pub kept : List Sign → List Sign
kept [] = []
kept (s ∷ l) = keep s (kept l)

-- the neighbours that differ
unfoldable pub neighbours : List Sign → ℕ
neighbours [] = 0
neighbours (s ∷ []) = 0
neighbours (s ∷ t ∷ l) = differ s t + neighbours (t ∷ l)

-- the number of sign changes
unfoldable pub changes : List Sign → ℕ
changes l = neighbours (kept l)

-- Document 01, module 6: how many sign changes a stretch loses, and where it is split. The chain is given by its rows of floats. An exact root in the middle of a stretch wider than twice the tolerance stands alone; the parts then begin a little to either side of it.
use Rattle.std.specs.Prelude.{Bool, true, false, ◌&&◌, List, [], ◌∷◌, ℕ, ◌-◌, Float}
use Rattle.std.specs.Float.{binary64}
use Rattle.std.specs.Float.Ieee.{of_bits, add, sub, mul, div, lt, eq}
use Rattle.sturm.specs.Value.{horner}
use Rattle.sturm.specs.Changes.{changes}
use Rattle.sturm.specs.Along.{signs_at}
use Rattle.bisect.specs.declared.Cut.{Cut}
use Rattle.bisect.specs.declared.End.{End}

abbrev pub count_in : List (List Float) → Float → Float → ℕ
count_in rows a b = changes (signs_at rows a) - changes (signs_at rows b)

-- a place and the changes there, so that they are not counted again
abbrev pub end_of : List (List Float) → Float → End
end_of rows x = record { at = x; changes = changes (signs_at rows x) }

-- the first of the chain is zero at x, in floats
abbrev pub root_at : List (List Float) → Float → Bool
root_at [] x = false
root_at (p ∷ rows) x = eq (horner p x) (of_bits binary64 0)

abbrev pub middle : Float → Float → Float
middle a b = div binary64 (add binary64 a b) (of_bits binary64 0x4000_0000_0000_0000)

abbrev pub hits_of : Bool → Float → Float → Bool
hits_of root width tol = root && lt (mul binary64 (of_bits binary64 0x4000_0000_0000_0000) tol) width

-- 1e-9 of the width
abbrev pub nearby : Float → Float → Float
nearby a b = mul binary64 (sub binary64 b a) (of_bits binary64 0x3e11_2e0b_e826_d695)

abbrev pub halves : Float → Cut
halves m = record { exact = false; mid = m; lo = m; hi = m; left = true; right = true }

abbrev pub aside : Float → Float → Float → Float → Float → Cut
aside a b m lo hi = record { exact = true; mid = m; lo = lo; hi = hi; left = lt a lo; right = lt hi b }

abbrev pub cut_if : Bool → Float → Float → Float → Float → Cut
cut_if true a b m eps = aside a b m (sub binary64 m eps) (add binary64 m eps)
cut_if false a b m eps = halves m

unfoldable pub cut_of : List (List Float) → Float → Float → Float → Cut
cut_of rows a b tol = cut_if (hits_of (root_at rows (middle a b)) (sub binary64 b a) tol) a b (middle a b) (nearby a b)

-- Document 01, module 6, the sorting of `isolate_real_roots`: each root goes in front of the first that is greater, so that equal ones keep their order (a stable sort). A NaN would be greater than none; finite brackets have none.
use Rattle.std.specs.Prelude.{Bool, true, false, cond, List, [], ◌∷◌, Float, Option, Some, None}
use Rattle.std.specs.Float.Ieee.{lt}
use Rattle.bisect.specs.declared.Bracket.{Bracket}
use Rattle.refine.specs.Root.{root_of}
use Rattle.isolate.specs.declared.Slide.{Slide}

unfoldable pub inserted : Float → List Float → List Float
inserted x [] = x ∷ []
inserted x (y ∷ l) = cond (lt x y) (x ∷ y ∷ l) (y ∷ inserted x l)

abbrev pub placed : Option Float → List Float → List Float
placed (Some x) l = inserted x l
placed None l = l

-- the roots of the brackets, put in their places among those in l
unfoldable pub roots_onto : List Float → Float → List Bracket → List Float → List Float
roots_onto p tol [] l = l
roots_onto p tol (x ∷ b) l = roots_onto p tol b (placed (root_of p x tol) l)

-- ---- how the code makes room

abbrev pub slide_if : Bool → Float → Float → Slide
slide_if true x y = record { moving = true; stays = x; carried = y }
slide_if false x y = record { moving = false; stays = y; carried = x }

abbrev pub slide_of : Bool → Float → Float → Slide
slide_of moving x y = slide_if (cond moving true (lt x y)) x y

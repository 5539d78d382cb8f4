-- Document 01, module 6, `dedup_by` of `isolate_real_roots`: a root that is closer than the tolerance to the last one kept is dropped.
use Rattle.std.specs.Prelude.{Bool, false, cond, List, [], ◌∷◌, ◌++◌, Float}
use Rattle.std.specs.Float.{binary64}
use Rattle.std.specs.Float.Ieee.{sub, lt}
use Rattle.refine.specs.Refine.{size_of}

-- x is closer than the tolerance to the last of l
unfoldable pub near_last : Float → Float → List Float → Bool
near_last tol x [] = false
near_last tol x (y ∷ []) = lt (size_of (sub binary64 x y)) tol
near_last tol x (y ∷ z ∷ l) = near_last tol x (z ∷ l)

abbrev pub kept_list : Float → Float → List Float → List Float
kept_list tol x l = cond (near_last tol x l) l (l ++ (x ∷ []))

-- one after the other, behind those kept
unfoldable pub apart_onto : Float → List Float → List Float → List Float
apart_onto tol [] kept = kept
apart_onto tol (x ∷ l) kept = apart_onto tol l (kept_list tol x kept)

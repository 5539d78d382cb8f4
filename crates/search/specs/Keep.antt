-- Document 01, module 5, roots: repeats are dropped and the list is sorted exactly. A root is put into a rising list: the smaller of two stays, the larger is carried on.
use Rattle.std.specs.Prelude.{Bool, true, false, List, [], ◌∷◌, ltb, length, Result, Ok, Err, Option, Some, None}
use Rattle.ratio.specs.Step.{cmp_of}
use Rattle.std.specs.declared.cmp.Ordering.{Ordering}
use Rattle.std.specs.declared.cmp.Ordering.TheVariants.{Less, Equal, Greater}
use Rattle.ratio.specs.declared.Reason.{Reason}
use Rattle.ratio.specs.declared.Ratio.{Ratio}

abbrev pub turned_by : Result Ordering Reason → Ratio → Ratio → Option (Ratio × Ratio)
turned_by (Ok Less) x a = Some (x, a)
turned_by (Ok Equal) x a = None
turned_by (Ok Greater) x a = Some (a, x)
turned_by (Err why) x a = None

-- the smaller and the larger; or x stands there already
abbrev pub turned : Ratio → Ratio → Option (Ratio × Ratio)
turned x a = turned_by (cmp_of x a) x a

abbrev pub carry : Option (Ratio × Ratio) → List Ratio → (Ratio → List Ratio) → List Ratio
carry (Some (low, high)) rest k = low ∷ k high
carry None rest k = rest

unfoldable pub placed : Ratio → List Ratio → List Ratio
placed x [] = x ∷ []
placed x (a ∷ l) = carry (turned x a) (a ∷ l) (λ y. placed y l)

abbrev pub place_if : Bool → List Ratio → List Ratio → List Ratio
place_if true l more = more
place_if false l more = l

-- there are 32 places; a polynomial of degree 31 has no more than 31 roots, so that no list is ever full
unfoldable pub inserted : Ratio → List Ratio → List Ratio
inserted x l = place_if (ltb (length l) 32) l (placed x l)

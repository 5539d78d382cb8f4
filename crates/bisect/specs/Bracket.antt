-- Document 01, module 6: each bracket keeps its two end points as floats, in the order found; over 64 is 4. A refusal leaves nothing.
use Rattle.std.specs.Prelude.{◌≡◌, Bool, true, false, List, [], ◌∷◌, ◌++◌, ◌-◌, ltb, Float, length, take, replicate, Ok, Err}
use Rattle.std.specs.Float.{binary64}
use Rattle.std.specs.Float.Ieee.{of_bits}
use Rattle.ratio.specs.Refusal.{Outcome, no_refusal}
use Rattle.ratio.specs.declared.Reason.{Reason}
use Rattle.ratio.specs.declared.Reason.TheVariants.{TooLong}
use Rattle.yun.specs.Got.{Got, got, none}
use Rattle.bisect.specs.declared.Bracket.{Bracket}
use Rattle.bisect.specs.declared.Brackets.{Brackets}

abbrev pub Found : Type 0
Found = Got (List Bracket)

abbrev pub push_if : Bool → List Bracket → Found
push_if true l = got l
push_if false l = none TooLong

-- one more behind the others
unfoldable pub pushed : Float → Float → List Bracket → Found
pushed a b l = push_if (ltb (length l) 64) (l ++ (record { left = a; right = b } ∷ []))

-- the bracket of an exact root
abbrev pub marked : Bool → Float → List Bracket → Found
marked true x l = pushed x x l
marked false x l = got l

-- ---- how it lies in memory

-- what an unused place holds
abbrev pub unused : Bracket
unused = record { left = of_bits binary64 0; right = of_bits binary64 0 }

abbrev pub holding : List Bracket → Brackets
holding l = record { outcome = no_refusal; items = l ++ replicate (64 - length l) unused; len = length l }

abbrev pub refused_for : Reason → Brackets
refused_for why = record { outcome = Err why; items = replicate 64 unused; len = 0 }

abbrev pub brackets_of : Found → Brackets
brackets_of (got l) = holding l
brackets_of (none why) = refused_for why

-- the brackets in use
abbrev pub items_of : Brackets → List Bracket
items_of r = take r.len r.items

abbrev pub found_from : Outcome → List Bracket → Found
found_from (Ok _) l = got l
found_from (Err why) l = none why

abbrev pub found_in : Brackets → Found
found_in r = found_from r.outcome (items_of r)

-- unused places hold nothing
abbrev pub Kept : Brackets → Type 0
Kept r = r ≡ brackets_of (found_in r)

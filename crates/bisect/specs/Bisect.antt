-- Document 01, module 6: splitting goes to the left half, then the right. A call would split if its count is over 1 and its width not below the tolerance; the outermost call may have 48 splits below each other, and one more is 7.
use Rattle.std.specs.Prelude.{Bool, true, false, List, [], ℕ, zero, suc, Float}
use Rattle.std.specs.Float.{binary64}
use Rattle.std.specs.Float.Ieee.{of_bits, add, sub, mul, lt, le}
use Rattle.ratio.specs.declared.Reason.TheVariants.{TooDeep}
use Rattle.yun.specs.Got.{got, none, then_got}
use Rattle.bisect.specs.declared.Bracket.{Bracket}
use Rattle.bisect.specs.declared.Cut.{Cut}
use Rattle.bisect.specs.Bracket.{Found, pushed, marked}
use Rattle.bisect.specs.Cut.{count_in, root_at, cut_of}

-- by the count, and whether the width is below the tolerance: nothing, a bracket, or a split
abbrev pub decided : ℕ → Bool → Found → Found → Found → Found
decided zero narrow nothing bracket split = nothing
decided (suc zero) narrow nothing bracket split = bracket
decided (suc (suc n)) true nothing bracket split = bracket
decided (suc (suc n)) false nothing bracket split = split

-- a part that is there
abbrev pub partly : Bool → (List Bracket → Found) → List Bracket → Found
partly true part l = part l
partly false part l = got l

abbrev pub split_by : Cut → (List Bracket → Found) → (List Bracket → Found) → List Bracket → Found
split_by s left right l = then_got (then_got (marked s.exact s.mid l) (λ l. partly s.left left l)) (λ l. partly s.right right l)

-- the brackets between a and b behind those in l
unfoldable pub inner_of : ℕ → List (List Float) → Float → Float → Float → List Bracket → Found
inner_of zero c a b tol l = decided (count_in c a b) (lt (sub binary64 b a) tol) (got l) (pushed a b l) (none TooDeep)
inner_of (suc k) c a b tol l =
    decided (count_in c a b) (lt (sub binary64 b a) tol) (got l) (pushed a b l)
    (split_by (cut_of c a b tol) (λ l. inner_of k c a (cut_of c a b tol).lo tol l) (λ l. inner_of k c (cut_of c a b tol).hi b tol l) l)

-- an end that is an exact root is left out
abbrev pub inward : Bool → Float → Float → Float
inward true x y = y
inward false x y = x

-- 1e-12 of the width
abbrev pub margin : Float → Float → Float
margin a b = mul binary64 (sub binary64 b a) (of_bits binary64 0x3d71_9799_812d_ea11)

abbrev pub start : List (List Float) → Float → Float → Float
start c a b = inward (root_at c a) a (add binary64 a (margin a b))

abbrev pub end : List (List Float) → Float → Float → Float
end c a b = inward (root_at c b) b (sub binary64 b (margin a b))

abbrev pub unless_empty : Bool → Found → Found → Found
unless_empty true nothing more = nothing
unless_empty false nothing more = more

-- exact roots at the ends, then what is between them
unfoldable pub bisect_of : List (List Float) → Float → Float → Float → Found
bisect_of c a b tol =
    then_got (then_got (marked (root_at c a) a []) (λ l. marked (root_at c b) b l)) (λ l.
    unless_empty (le (end c a b) (start c a b)) (got l) (inner_of 48 c (start c a b) (end c a b) tol l))

-- Document 01, module 6: the root of a bracket. A narrow bracket gives the end with the smaller value; then an end that is a root, a sign change refined, or an end whose value is below the tolerance. Floats may miss a root.
use Rattle.std.specs.Prelude.{Bool, ◌&&◌, cond, List, Float, Option, Some, None}
use Rattle.std.specs.Float.{binary64}
use Rattle.std.specs.Float.Ieee.{of_bits, mul, lt, le, eq}
use Rattle.std.specs.Float.Ieee.Scale.{finite}
use Rattle.sturm.specs.Value.{horner}
use Rattle.bisect.specs.declared.Bracket.{Bracket}
use Rattle.refine.specs.Refine.{size_of, narrow, refine_of, halvings}

abbrev pub crosses_of : Float → Float → Bool
crosses_of fa fb = finite fa && finite fb && lt (mul binary64 fa fb) (of_bits binary64 0)

abbrev pub near_of : Float → Float → Bool
near_of v tol = finite v && lt (size_of v) tol

abbrev pub is_nil : Float → Bool
is_nil v = eq v (of_bits binary64 0)

-- fa and fb are the values at the ends
unfoldable pub chosen : List Float → Bracket → Float → Float → Float → Option Float
chosen p x fa fb tol =
    cond (narrow x.left x.right tol) (cond (le (size_of fa) (size_of fb)) (Some x.left) (Some x.right))
    (cond (is_nil fa) (Some x.left)
    (cond (is_nil fb) (Some x.right)
    (cond (crosses_of fa fb) (Some (refine_of halvings p (record { left = x.left; right = x.right; value = fa }) tol))
    (cond (near_of fa tol) (Some x.left)
    (cond (near_of fb tol) (Some x.right) None)))))

abbrev pub root_of : List Float → Bracket → Float → Option Float
root_of p x tol = chosen p x (horner p x.left) (horner p x.right) tol

-- Document 01, module 6: refinement takes at most 200 halvings; it stops where the width is below the tolerance or the middle is a root in floats.
use Rattle.std.specs.Prelude.{Bool, cond, List, ℕ, zero, suc, Float}
use Rattle.std.specs.Float.{binary64}
use Rattle.std.specs.Float.Ieee.{of_bits, neg, add, sub, mul, div, lt, eq}
use Rattle.sturm.specs.Value.{horner}
use Rattle.refine.specs.declared.Side.{Side}

-- without its sign; -0.0 keeps it, and no comparison tells it from 0.0
abbrev pub size_of : Float → Float
size_of x = cond (lt x (of_bits binary64 0)) (neg x) x

abbrev pub middle_of : Side → Float
middle_of s = div binary64 (add binary64 s.left s.right) (of_bits binary64 0x4000_0000_0000_0000)

abbrev pub narrow : Float → Float → Float → Bool
narrow a b tol = lt (size_of (sub binary64 b a)) tol

-- the half whose ends differ in sign
abbrev pub halved_of : Side → Float → Float → Side
halved_of s mid fm =
    cond (lt (mul binary64 s.value fm) (of_bits binary64 0))
    (record { left = s.left; right = mid; value = s.value })
    (record { left = mid; right = s.right; value = fm })

-- k halvings at most; p is given by the floats of its coefficients
unfoldable pub refine_of : ℕ → List Float → Side → Float → Float
refine_of zero p s tol = middle_of s
refine_of (suc k) p s tol =
    cond (narrow s.left s.right tol) (middle_of s)
    (cond (eq (horner p (middle_of s)) (of_bits binary64 0)) (middle_of s)
    (refine_of k p (halved_of s (middle_of s) (horner p (middle_of s))) tol))

abbrev pub halvings : ℕ
halvings = 200

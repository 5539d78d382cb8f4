-- The price of a root (document 01, module 6): how often the value of the polynomial is worked out for one bracket.
use Rattle.std.specs.Prelude.{cond, List, ℕ, zero, suc, ◌+◌, Float}
use Rattle.std.specs.Float.{binary64}
use Rattle.std.specs.Float.Ieee.{of_bits, eq}
use Rattle.sturm.specs.Value.{horner}
use Rattle.bisect.specs.declared.Bracket.{Bracket}
use Rattle.refine.specs.declared.Side.{Side}
use Rattle.refine.specs.Refine.{middle_of, narrow, halved_of, halvings}
use Rattle.refine.specs.Root.{crosses_of, is_nil}

-- one in the middle of each halving
unfoldable pub refine_work : ℕ → List Float → Side → Float → ℕ
refine_work zero p s tol = 0
refine_work (suc k) p s tol =
    cond (narrow s.left s.right tol) 0
    (suc (cond (eq (horner p (middle_of s)) (of_bits binary64 0)) 0
    (refine_work k p (halved_of s (middle_of s) (horner p (middle_of s))) tol)))

-- fa and fb are the values at the ends
unfoldable pub chosen_work : List Float → Bracket → Float → Float → Float → ℕ
chosen_work p x fa fb tol =
    cond (narrow x.left x.right tol) 0
    (cond (is_nil fa) 0
    (cond (is_nil fb) 0
    (cond (crosses_of fa fb) (refine_work halvings p (record { left = x.left; right = x.right; value = fa }) tol) 0)))

-- both ends, then the halvings
abbrev pub root_work : List Float → Bracket → Float → ℕ
root_work p x tol = 2 + chosen_work p x (horner p x.left) (horner p x.right) tol

abbrev pub most_of_root : ℕ
most_of_root = 202

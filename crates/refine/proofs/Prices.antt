-- A bracket takes two values at its ends and one for each of 200 halvings, at most.
use mathlib.Core.Bool.{Bool, true, false, cond}
use mathlib.Core.List.{List}
use Prim.Native.Nat.{ℕ, zero, suc, ◌≤◌}
use native.Mathlib.Omega.{arith}
use lib.Ieee.{Float, binary64, of_bits, eq}
use Rattle.sturm.specs.Value.{horner}
use Rattle.bisect.specs.declared.Bracket.{Bracket}
use Rattle.refine.specs.declared.Side.{Side}
use Rattle.refine.specs.Refine.{middle_of, narrow, halved_of, halvings}
use Rattle.refine.specs.Root.{crosses_of, is_nil}
use Rattle.refine.specs.Price.{refine_work, chosen_work, root_work, most_of_root}

either-most : (t : Bool) (x y m : ℕ) → x ≤ m → y ≤ m → cond t x y ≤ m
either-most true x y m h k = h
either-most false x y m h k = k

refine-most : (k : ℕ) (p : List Float) (s : Side) (tol : Float) → refine_work k p s tol ≤ k
unfolding refine_work
refine-most zero p s tol = omega arith
refine-most (suc k) p s tol =
    let z = either-most (eq (horner p (middle_of s)) (of_bits binary64 0)) 0 _ k (omega arith) (refine-most k p (halved_of s (middle_of s) (horner p (middle_of s))) tol) in
    either-most (narrow s.left s.right tol) 0 _ (suc k) (omega arith) (omega (arith, z))

chosen-most : (p : List Float) (x : Bracket) (fa fb tol : Float) → chosen_work p x fa fb tol ≤ halvings
unfolding chosen_work
chosen-most p x fa fb tol =
    either-most (narrow x.left x.right tol) 0 _ halvings (omega arith)
    (either-most (is_nil fa) 0 _ halvings (omega arith)
    (either-most (is_nil fb) 0 _ halvings (omega arith)
    (either-most (crosses_of fa fb) _ 0 halvings (refine-most halvings p (record { left = x.left; right = x.right; value = fa }) tol) (omega arith))))

pub root-most : (p : List Float) (x : Bracket) (tol : Float) → root_work p x tol ≤ most_of_root
root-most p x tol = omega (arith, chosen-most p x (horner p x.left) (horner p x.right) tol)

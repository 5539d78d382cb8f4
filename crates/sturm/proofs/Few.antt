-- There are fewer sign changes than signs.
use mathlib.Core.List.{List, [], ◌∷◌}
use Prim.Native.Nat.{◌+◌, ◌-◌, ◌≤◌}
use native.Mathlib.Omega.{arith}
use lib.Ieee.{Float}
use lib.ListN.{length, length-map}
use Rattle.sturm.specs.declared.Sign.{Sign}
use Rattle.sturm.specs.declared.Sign.TheVariants.{Zero, Plus, Minus, Nan}
use Rattle.sturm.specs.Value.{horner}
use Rattle.sturm.specs.Sign.{sign_of}
use Rattle.sturm.specs.Changes.{keep, kept, neighbours, changes}
use Rattle.sturm.specs.Along.{signs_at}
use Rattle.sturm.proofs.Signs.{differ-few}

keep-few : (s : Sign) (l : List Sign) → length (keep s l) ≤ length l + 1
keep-few Zero l = omega arith
keep-few Plus l = omega arith
keep-few Minus l = omega arith
keep-few Nan l = omega arith

kept-few : (l : List Sign) → length (kept l) ≤ length l
unfolding kept
kept-few [] = omega arith
kept-few (s ∷ l) = omega (arith, keep-few s (kept l), kept-few l)

neighbours-few : (l : List Sign) → neighbours l ≤ length l - 1
unfolding neighbours
neighbours-few [] = omega arith
neighbours-few (s ∷ []) = omega arith
neighbours-few (s ∷ t ∷ l) = omega (arith, differ-few s t, neighbours-few (t ∷ l))

pub changes-few : (l : List (List Float)) (x : Float) → changes (signs_at l x) ≤ length l - 1
unfolding changes
changes-few l x = omega (arith, neighbours-few (kept (signs_at l x)), kept-few (signs_at l x), length-map l (λ p. sign_of (horner p x)))

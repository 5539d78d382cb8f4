-- One turn of the search for an exponent.
use Rattle.std.specs.Prelude.{Some, None}
use mathlib.Core.Path.{◌≡◌}
use mathlib.Core.Bool.{true, false}
use Prim.Native.Nat.{ℕ, suc, ◌+◌, ◌-◌, ◌≤◌}
use native.Mathlib.Omega.{arith}
use native.Mathlib.Numerals.{add-one}
use lib.IntN.{pos}
use lib.Ieee.{Float, binary64, of_int, eq}
use Rattle.lower.specs.Exponent.{equal_from}

module _ (x : Float) (n : ℕ) where
  left : n ≤ 200 → 201 - n ≡ suc (201 - (n + 1))
  left h = omega arith

  pub equal-at : n ≤ 200 → eq x (of_int binary64 (pos n)) ≡ true → Some n ≡ equal_from (201 - n) n x
  unfolding equal_from
  equal-at h e = rw (left h, e)

  pub equal_next : n ≤ 200 → eq x (of_int binary64 (pos n)) ≡ false → equal_from (201 - (n + 1)) (n + 1) x ≡ equal_from (201 - n) n x
  unfolding equal_from
  equal_next h e = rw (left h, e, add-one)

  pub equal-none : 201 ≤ n → None ≡ equal_from (201 - n) n x
  unfolding equal_from
  equal-none h = let z : 201 - n ≡ 0 = omega arith in rw z

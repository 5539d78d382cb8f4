-- One end within ±1e15, by the test of both.
use mathlib.Core.Path.{◌≡◌, refl}
use mathlib.Core.Bool.{Bool, true, false, ◌&&◌}
use Prim.Native.Nat.{ℕ}
use native.Mathlib.Omega.{arith}
use lib.Ieee.{Float}
use Rattle.poly.specs.declared.Gate.{Gate}
use Rattle.poly.specs.declared.Gate.TheVariants.{Open, Long, Bad}
use Rattle.poly.specs.Door.{open_if}
use Rattle.poly.proofs.Doors.{Shut}
use Rattle.sturm.specs.Count.{inside, ends_of}
use mathlib.Core.Logic.{inl, inr}

open-both : (t : Bool) → open_if (t && t) ≡ Open → true ≡ t
open-both true e = refl
open-both false e = let z : ◌≡◌ {A = ℕ} 0 1 = cc in absurd (omega arith)

pub inside-yes : (x : Float) → ends_of x x ≡ Open → true ≡ inside x
inside-yes x e = open-both (inside x) e

shut-both : (t : Bool) (d : Gate) → d ≡ open_if (t && t) → Shut d → false ≡ t
shut-both false d e s = refl
shut-both true Open e (inl z) = absurd (omega arith)
shut-both true Open e (inr z) = absurd (omega arith)
shut-both true Long e s = let z : ◌≡◌ {A = ℕ} 0 1 = cc in absurd (omega arith)
shut-both true Bad e s = let z : ◌≡◌ {A = ℕ} 0 1 = cc in absurd (omega arith)

pub inside-no : (x : Float) (d : Gate) → d ≡ ends_of x x → Shut d → false ≡ inside x
inside-no x d e s = shut-both (inside x) d e s

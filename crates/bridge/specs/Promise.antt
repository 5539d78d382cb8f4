-- Demand 2 for the float bridge: what an answered conversion is.
use Rattle.ratio.specs.declared.Reason.{Reason}
use Rattle.std.specs.Prelude.{◌≡◌, ℕ, ◌<◌, ◌≤◌, true, false, T, ℤ, pos, negsuc, int_lt, unsigned_abs, Float, Result, Ok}
use Rattle.std.specs.Float.{binary64}
use Rattle.std.specs.Float.Ieee.{of_int, round}
use Rattle.std.specs.Float.Ieee.Scale.{finite}
use Rattle.algebra.specs.Rational as Q
use Rattle.algebra.specs.Rational.{Same}
use Rattle.ratio.specs.Range.{Within}
use Rattle.ratio.specs.Refusal.{status_of, ratio_of}
use Rattle.ratio.specs.Step.{differ}
use Rattle.ratio.specs.Promise.{rat, Fraction, Lowest}
use Rattle.ratio.specs.declared.Ratio.{Ratio}
use Rattle.bridge.specs.Refusal.{float_of}
use Rattle.bridge.specs.Round.{round_of}
use Rattle.bridge.specs.Search.{scaled, near}

-- up to this size every whole number is a float
abbrev pub exact : ℕ
exact = 9007199254740992

-- answered exactly for a fraction; of entries that are floats themselves the answer is the float nearest to the fraction
pub record Floats (r : Ratio) (x : Result Float Reason) : Type 0 where
  pub answered : Fraction r → status_of x ≡ 0
  pub only : status_of x ≡ 0 → Fraction r
  pub bad : (Fraction r → ⊥) → status_of x ≡ 5
  pub nearest : Fraction r → unsigned_abs r.num ≤ exact → unsigned_abs r.den ≤ exact
      → float_of x ≡ round binary64 (differ (int_lt r.num (pos 0)) (int_lt r.den (pos 0))) (unsigned_abs r.num) (unsigned_abs r.den)

-- d is the first denominator that is accepted
pub record First (v : Float) (d : ℕ) : Type 0 where
  pub some : 1 ≤ d
  pub most : d ≤ 1000
  pub accepted : near v d ≡ true
  pub earlier : (k : ℕ) → 1 ≤ k → k < d → near v k ≡ false

-- the first denominator that is accepted decides: answered where the numerator is within the range, else 2; without one, 1
-- 2^63 is accepted as 2^63 - 1, -2^63 gives 2, and whole numbers that are floats come back
pub record Finds (v : Float) (s : Result Ratio Reason) : Type 0 where
  pub answered : T (finite v) → (d : ℕ) → First v d → Within (round_of (scaled v d)) → status_of s ≡ 0
  pub is : T (finite v) → (d : ℕ) → First v d → Within (round_of (scaled v d)) → Same (rat (ratio_of s)) (Q.over (round_of (scaled v d)) (pos d))
  pub over : T (finite v) → (d : ℕ) → First v d → (Within (round_of (scaled v d)) → ⊥) → status_of s ≡ 2
  pub none : T (finite v) → ((d : ℕ) → First v d → ⊥) → status_of s ≡ 1
  pub infinite : (T (finite v) → ⊥) → status_of s ≡ 1
  pub lowest : status_of s ≡ 0 → Lowest (ratio_of s)
  pub denominator : status_of s ≡ 0 → unsigned_abs (ratio_of s).den ≤ 1000
  pub top : v ≡ of_int binary64 (pos 9223372036854775808) → s ≡ Ok (record { num = pos 9223372036854775807; den = pos 1 })
  pub least : v ≡ of_int binary64 (negsuc 9223372036854775807) → status_of s ≡ 2
  pub whole : (n : ℤ) → unsigned_abs n ≤ exact → v ≡ of_int binary64 n → s ≡ Ok (record { num = n; den = pos 1 })

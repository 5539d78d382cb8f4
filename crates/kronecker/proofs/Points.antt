-- Laws of the points and the values there: a loop that has looked at the first j of them.
use Rattle.std.specs.Prelude.{Ok, Err}
use mathlib.Core.Path.{◌≡◌, refl}
use mathlib.Core.Bool.{Bool, true, false, ◌&&◌}
use mathlib.Core.List.{List, []}
use Prim.{⊥}
use Prim.Native.Nat.{ℕ, zero, suc, ◌+◌, ◌-◌, ◌<◌, ◌≤◌}
use native.Mathlib.Numerals.{add-one}
use native.Mathlib.Omega.{arith}
use lib.IntN.{pos}
use lib.ListN.{length, drop, get_or, drop_of_length-le}
use lib.Seq.{drop-cons}
use Rattle.ratio.specs.declared.Ratio.{Ratio}
use Rattle.ratio.specs.declared.Reason.{Reason}
use Rattle.terms.specs.Machine.{whole_r}
use Rattle.kronecker.specs.declared.Values.TheVariants.{Over}
use Rattle.kronecker.specs.Points.{point_of, value_at, is_whole, all_whole, values_if, surveyed}

-- but for points 1 to 6 it is 0
pub point-zero : (i : ℕ) → (i ≡ 1 → ⊥) → (i ≡ 2 → ⊥) → (i ≡ 3 → ⊥) → (i ≡ 4 → ⊥) → (i ≡ 5 → ⊥) → (i ≡ 6 → ⊥) → whole_r (pos 0) ≡ point_of i
unfolding point_of
point-zero zero a b c d e f = refl
point-zero (suc zero) a b c d e f = absurd (a refl)
point-zero (suc (suc zero)) a b c d e f = absurd (b refl)
point-zero (suc (suc (suc zero))) a b c d e f = absurd (c refl)
point-zero (suc (suc (suc (suc zero)))) a b c d e f = absurd (d refl)
point-zero (suc (suc (suc (suc (suc zero))))) a b c d e f = absurd (e refl)
point-zero (suc (suc (suc (suc (suc (suc zero)))))) a b c d e f = absurd (f refl)
point-zero (suc (suc (suc (suc (suc (suc (suc i))))))) a b c d e f = refl

-- ---- whether all are whole

module _ (l : List Ratio) (i : ℕ) (d : Ratio) where
  pub whole-more : i < length l → is_whole (get_or l i d) ≡ true → all_whole (drop (i + 1) l) ≡ all_whole (drop i l)
  unfolding all_whole
  whole-more h e = rw (add-one i, drop-cons l i d h, e)

  pub whole-fails : i < length l → is_whole (get_or l i d) ≡ false → false ≡ all_whole (drop i l)
  unfolding all_whole
  whole-fails h e = rw (drop-cons l i d h, e)

pub whole-end : (l : List Ratio) (i : ℕ) → length l ≤ i → true ≡ all_whole (drop i l)
unfolding all_whole
whole-end l i h = let e : drop i l ≡ [] = drop_of_length-le l h in rw e

-- ---- looking at the values

module _ (f : List Ratio) (n : ℕ) where
  -- what is left to look at decides
  pub record Surveying (j : ℕ) (fine : Bool) : Type 0 where
    pub whole : surveyed f (n - j) j fine ≡ surveyed f n 0 true

  pub surveying-none : Surveying 0 true
  surveying-none = let s : n - 0 ≡ n = omega arith in record { whole = rw s }

  module _ (j : ℕ) (fine : Bool) (h : j < n) (s : Surveying j fine) where
    pub surveying-more : (v : Ratio) → value_at f j ≡ Ok v → Surveying (j + 1) (fine && is_whole v)
    unfolding surveyed
    surveying-more v e =
        let k : n - j ≡ suc (n - suc j) = omega arith in
        record { whole = rw (add-one j) (rw (k, e) at s.whole) }

    pub surveying-over : (why : Reason) → value_at f j ≡ Err why → Over ≡ surveyed f n 0 true
    unfolding surveyed
    surveying-over why e =
        let k : n - j ≡ suc (n - suc j) = omega arith in
        rw (k, e) at s.whole

  pub surveying-all : (j : ℕ) (fine : Bool) → n ≤ j → Surveying j fine → values_if fine ≡ surveyed f n 0 true
  unfolding surveyed
  surveying-all j fine h s = let k : n - j ≡ 0 = omega arith in rw k at s.whole

-- Laws of a value whose steps are counted on: a loop that has worked through the first i coefficients, its turn, its end and its refusals.
use Rattle.std.specs.Prelude.{Ok, Err}
use mathlib.Core.Path.{◌≡◌, refl}
use mathlib.Core.List.{List, []}
use Prim.Native.Nat.{ℕ, suc, ◌+◌, ◌<◌, ◌≤◌}
use native.Mathlib.Numerals.{add-one}
use native.Mathlib.Omega.{arith}
use lib.IntN.{pos}
use lib.ListN.{length, drop, get_or, drop_of_length-le}
use lib.Seq.{drop-cons}
use Rattle.ratio.specs.Refusal.{zero_r}
use Rattle.ratio.specs.Step.{add_of, mul_of}
use Rattle.ratio.specs.declared.Ratio.{Ratio}
use Rattle.ratio.specs.declared.Reason.{Reason}
use Rattle.terms.specs.Machine.{Ran, fine, over, plain, whole_r}
use Rattle.terms.specs.Work.{valued}

module _ (l : List Ratio) (x : Ratio) (start : ℕ) where
  abbrev pub whole-value : Ran ℕ Ratio
  whole-value = valued plain l x (whole_r (pos 1)) zero_r start

  -- what is left to add up gives the whole value
  pub record Valuing (i : ℕ) (power sum : Ratio) (count : ℕ) : Type 0 where
    pub whole : valued plain (drop i l) x power sum count ≡ whole-value

  pub valuing-none : Valuing 0 (whole_r (pos 1)) zero_r start
  valuing-none = record { whole = refl }

  module _ (i : ℕ) (power sum : Ratio) (count : ℕ) (h : i < length l) (v : Valuing i power sum count) where
    pub valuing-more : (t s p : Ratio) → mul_of (get_or l i zero_r) power ≡ Ok t → add_of sum t ≡ Ok s → mul_of power x ≡ Ok p → Valuing (i + 1) p s (count + 3)
    unfolding valued
    valuing-more t s p e f g =
        let n : count + 3 ≡ suc (suc (suc count)) = omega arith in
        record { whole = rw (n, add-one i) (rw (drop-cons l i zero_r h, e, f, g) at v.whole) }

    pub first-over : (why : Reason) → mul_of (get_or l i zero_r) power ≡ Err why → over (count + 1) ≡ whole-value
    unfolding valued
    first-over why e =
        let n : count + 1 ≡ suc count = omega arith in
        rw n (rw (drop-cons l i zero_r h, e) at v.whole)

    pub second-over : (t : Ratio) (why : Reason) → mul_of (get_or l i zero_r) power ≡ Ok t → add_of sum t ≡ Err why → over (count + 2) ≡ whole-value
    unfolding valued
    second-over t why e f =
        let n : count + 2 ≡ suc (suc count) = omega arith in
        rw n (rw (drop-cons l i zero_r h, e, f) at v.whole)

    pub third-over : (t s : Ratio) (why : Reason) → mul_of (get_or l i zero_r) power ≡ Ok t → add_of sum t ≡ Ok s → mul_of power x ≡ Err why → over (count + 3) ≡ whole-value
    unfolding valued
    third-over t s why e f g =
        let n : count + 3 ≡ suc (suc (suc count)) = omega arith in
        rw n (rw (drop-cons l i zero_r h, e, f, g) at v.whole)

  pub valuing-all : (i : ℕ) (power sum : Ratio) (count : ℕ) → length l ≤ i → Valuing i power sum count → fine count sum ≡ whole-value
  unfolding valued
  valuing-all i power sum count h v =
      let e : drop i l ≡ [] = drop_of_length-le l h in
      rw e at v.whole

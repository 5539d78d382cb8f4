-- Laws of the value of a polynomial: a loop that has worked through the first i coefficients, its turn, its end and its refusals.
use Rattle.std.specs.Prelude.{Ok, Err}
use mathlib.Core.Path.{◌≡◌, refl, sym, subst}
use mathlib.Core.List.{List, []}
use Prim.Native.Nat.{ℕ, suc, ◌+◌, ◌*◌, ◌<◌, ◌≤◌}
use native.Mathlib.Numerals.{add-one}
use native.Mathlib.Omega.{arith}
use lib.IntN.{pos}
use mir.Syntax.{w64}
use mir.Val.{SFits}
use lib.ListN.{length, drop, get_or, drop_of_length-le}
use lib.Seq.{drop-cons}
use Rattle.ratio.specs.Refusal.{zero_r}
use Rattle.ratio.specs.Step.{add_of, mul_of}
use Rattle.ratio.specs.declared.Ratio.{Ratio}
use Rattle.ratio.specs.declared.Reason.{Reason}
use Rattle.ratio.specs.declared.Reason.TheVariants.{CoeffOverflow}
use Rattle.terms.specs.Machine.{plain, whole_r}
use Rattle.terms.specs.Work.{valued}
use Rattle.terms.specs.Answer.{step_from, value_of}
use Rattle.terms.proofs.Pairs.{words, through-words}

module _ (l : List Ratio) (x : Ratio) where
  -- what is left to add up gives the whole value
  pub record Valued (i : ℕ) (power sum : Ratio) : Type 0 where
    pub whole : step_from (valued plain (drop i l) x power sum (3 * i)) ≡ value_of l x

  pub valued-none : Valued 0 (whole_r (pos 1)) zero_r
  unfolding value_of
  valued-none = record { whole = refl }

  module _ (i : ℕ) (power sum : Ratio) (h : i < length l) (v : Valued i power sum) where
    pub valued-more : (t s p : Ratio) → mul_of (get_or l i zero_r) power ≡ Ok t → add_of sum t ≡ Ok s → mul_of power x ≡ Ok p → Valued (i + 1) p s
    unfolding valued
    valued-more t s p e f g =
        let n : 3 * (i + 1) ≡ suc (suc (suc (3 * i))) = omega arith in
        record { whole = rw (n, add-one i) (rw (drop-cons l i zero_r h, e, f, g) at v.whole) }

    pub first-over : (why : Reason) → mul_of (get_or l i zero_r) power ≡ Err why → Err CoeffOverflow ≡ value_of l x
    unfolding valued
    first-over why e = rw (drop-cons l i zero_r h, e) at v.whole

    pub second-over : (t : Ratio) (why : Reason) → mul_of (get_or l i zero_r) power ≡ Ok t → add_of sum t ≡ Err why → Err CoeffOverflow ≡ value_of l x
    unfolding valued
    second-over t why e f = rw (drop-cons l i zero_r h, e, f) at v.whole

    pub third-over : (t s : Ratio) (why : Reason) → mul_of (get_or l i zero_r) power ≡ Ok t → add_of sum t ≡ Ok s → mul_of power x ≡ Err why → Err CoeffOverflow ≡ value_of l x
    unfolding valued
    third-over t s why e f g = rw (drop-cons l i zero_r h, e, f, g) at v.whole

  -- power and sum went through words
  pub valued-kept : (i : ℕ) (p s : Ratio) → SFits w64 p.num → SFits w64 p.den → SFits w64 s.num → SFits w64 s.den → Valued i p s → Valued i (words p) (words s)
  valued-kept i p s f g f' g' v =
      subst (λ (q : Ratio). Valued i q (words s)) (sym (through-words p f g)) (subst (λ (t : Ratio). Valued i p t) (sym (through-words s f' g')) v)

  pub valued-all : (i : ℕ) (power sum : Ratio) → length l ≤ i → Valued i power sum → Ok sum ≡ value_of l x
  unfolding valued
  valued-all i power sum h v =
      let e : drop i l ≡ [] = drop_of_length-le l h in
      rw e at v.whole

-- Laws of the zeros at the bottom: the loop that counts them, and the loop that drops them.
use mathlib.Core.Path.{◌≡◌, refl, sym, ap, ◌∙◌}
use mathlib.Core.Bool.{Bool, true, false}
use mathlib.Core.List.{List, [], ◌∷◌, ◌++◌}
use Prim.Native.Nat.{ℕ, suc, ◌+◌, ◌<◌, ◌≤◌, zero-le}
use native.Mathlib.Numerals.{add-one}
use native.Mathlib.Omega.{arith}
use lib.ListN.{length, take, drop, get_or, set, drop_of_length-le, length-drop}
use lib.Seq.{drop-cons, take-suc, take_all, take-suc-set, get_or-drop}
use Rattle.ratio.specs.Refusal.{zero_r}
use Rattle.ratio.specs.Step.{is_nil}
use Rattle.ratio.specs.declared.Ratio.{Ratio}
use Rattle.search.specs.Strip.{one_more_if, zeros}

one_more : (t : Bool) (n m : ℕ) → n ≤ m → one_more_if t n ≤ suc m
one_more true n m h = omega arith
one_more false n m h = zero-le

pub zeros-short : (l : List Ratio) → zeros l ≤ length l
unfolding zeros
zeros-short [] = zero-le
zeros-short (a ∷ l) = one_more (is_nil a.num) (zeros l) (length l) (zeros-short l)

module _ (l : List Ratio) where
  -- the first i are zeros
  pub record Zeros (i : ℕ) : Type 0 where
    pub whole : i + zeros (drop i l) ≡ zeros l

  pub zeros-none : Zeros 0
  zeros-none = record { whole = omega arith }

  module _ (i : ℕ) (h : i < length l) (z : Zeros i) where
    pub zeros-more : is_nil (get_or l i zero_r).num ≡ true → Zeros (i + 1)
    unfolding zeros
    zeros-more e =
        let w : i + suc (zeros (drop (suc i) l)) ≡ zeros l = rw (drop-cons l i zero_r h, e) at z.whole in
        record { whole = rw (add-one i) (omega arith) }

    pub zeros-here : is_nil (get_or l i zero_r).num ≡ false → i ≡ zeros l
    unfolding zeros
    zeros-here e =
        let w : i + 0 ≡ zeros l = rw (drop-cons l i zero_r h, e) at z.whole in
        omega arith

  pub zeros-all : (i : ℕ) → length l ≤ i → Zeros i → i ≡ zeros l
  unfolding zeros
  zeros-all i h z =
      let e : drop i l ≡ [] = drop_of_length-le l h in
      let w : i + 0 ≡ zeros l = rw e at z.whole in
      omega arith

module _ (k : ℕ) (l : List Ratio) where
  -- the first i of what is left
  pub record Lowered (i : ℕ) (out : List Ratio) : Type 0 where
    pub is : take i out ≡ take i (drop k l)

  pub lowered_none : (out : List Ratio) → Lowered 0 out
  lowered_none out = record { is = refl }

  pub lowered-more : (i : ℕ) (out : List Ratio) (y : Ratio) → i + k < length l → i < length out → y ≡ get_or l (i + k) zero_r → Lowered i out → Lowered (i + 1) (set out i y)
  lowered-more i out y h j e w =
      let n : i < length (drop k l) = rw length-drop (omega arith) in
      let m : k + i ≡ i + k = omega arith in
      record { is = rw (add-one i) (take-suc-set out i y j ∙ ap (λ t. t ++ (y ∷ [])) w.is ∙ ap (λ z. take i (drop k l) ++ (z ∷ [])) (e ∙ sym (get_or-drop k l i zero_r ∙ ap (λ q. get_or l q zero_r) m)) ∙ sym (take-suc (drop k l) i zero_r n)) }

  pub lowered-all : (i : ℕ) (out : List Ratio) → length l ≤ i + k → Lowered i out → take i out ≡ drop k l
  lowered-all i out h w =
      let n : length (drop k l) ≤ i = rw length-drop (omega arith) in
      w.is ∙ take_all i (drop k l) n

-- Laws of a row that is added or subtracted: a loop that has done the first j terms of a row, its turn, its end and its refusals.
use Rattle.std.specs.Prelude.{Result, Ok, Err}
use mathlib.Core.Path.{◌≡◌, refl, ap, ◌∙◌}
use mathlib.Core.Bool.{false}
use mathlib.Core.List.{List, [], ◌∷◌}
use Prim.Native.Nat.{ℕ, suc, ◌+◌, ◌<◌, ◌≤◌}
use native.Mathlib.Numerals.{add-one}
use native.Mathlib.Omega.{arith}
use lib.ListN.{length, drop, get_or, set, drop_of_length-le}
use lib.Seq.{drop-cons}
use Rattle.ratio.specs.Refusal.{zero_r}
use Rattle.ratio.specs.Range.{within}
use Rattle.ratio.specs.Step.{is_fraction, add_of, sub_of, mul_of}
use Rattle.ratio.specs.declared.Ratio.{Ratio}
use Rattle.ratio.specs.declared.Reason.{Reason}
use Rattle.ratio.proofs.Models.{neg_r, neg_step, mul-neg, mul-no-a, sub-is-add}
use Rattle.terms.specs.Machine.{Op, plus, minus, Ran, fine, over, and_then, counted, plain, step_of}
use Rattle.terms.specs.Work.{rowed}

module _ (op : Op) (acc : List Ratio) (k : ℕ) (x : Ratio) (b : List Ratio) (start : ℕ) where
  -- what is left of the row gives the whole row
  pub record Added (j count : ℕ) (out : List Ratio) : Type 0 where
    pub whole : rowed plain op out (k + j) x (drop j b) count ≡ rowed plain op acc k x b start

  pub added_none : Added 0 start acc
  added_none =
      let e : k + 0 ≡ k = omega arith in
      record { whole = rw e }

  module _ (j count : ℕ) (out : List Ratio) (h : j < length b) (a : Added j count out) where
    pub added_more : (t s : Ratio) → mul_of x (get_or b j zero_r) ≡ Ok t → step_of op (get_or out (k + j) zero_r) t ≡ Ok s → Added (j + 1) (count + 2) (set out (k + j) s)
    unfolding rowed
    added_more t s e f =
        let m : k + (j + 1) ≡ k + j + 1 = omega arith in
        let n : count + 2 ≡ suc (suc count) = omega arith in
        record { whole = rw (m, n, add-one j) (rw (drop-cons b j zero_r h, e, f) at a.whole) }

    pub product-over : (why : Reason) → mul_of x (get_or b j zero_r) ≡ Err why → over (count + 1) ≡ rowed plain op acc k x b start
    unfolding rowed
    product-over why e = rw (add-one count) (rw (drop-cons b j zero_r h, e) at a.whole)

    pub sum_over : (t : Ratio) (why : Reason) → mul_of x (get_or b j zero_r) ≡ Ok t → step_of op (get_or out (k + j) zero_r) t ≡ Err why → over (count + 2) ≡ rowed plain op acc k x b start
    unfolding rowed
    sum_over t why e f =
        let n : count + 2 ≡ suc (suc count) = omega arith in
        rw n (rw (drop-cons b j zero_r h, e, f) at a.whole)

  pub added-all : (j count : ℕ) (out : List Ratio) → length b ≤ j → Added j count out → fine count out ≡ rowed plain op acc k x b start
  unfolding rowed
  added-all j count out h a =
      let e : drop j b ≡ [] = drop_of_length-le b h in
      rw e at a.whole

-- ---- a row that is subtracted is the row of the negative, added

same_then : (s : Result Ratio Reason) (n : ℕ) (f g : ℕ → Ratio → Ran ℕ (List Ratio)) → ((k : ℕ) (r : Ratio) → f k r ≡ g k r) → and_then (counted n s) f ≡ and_then (counted n s) g
same_then (Ok r) n f g h = h (suc n) r
same_then (Err why) n f g h = refl

neg_then : (s : Result Ratio Reason) (n : ℕ) (f g : ℕ → Ratio → Ran ℕ (List Ratio)) → ((k : ℕ) (r : Ratio) → f k (neg_r r) ≡ g k r) → and_then (counted n (neg_step s)) f ≡ and_then (counted n s) g
neg_then (Ok r) n f g h = h (suc n) r
neg_then (Err why) n f g h = refl

pub row-negative : (x : Ratio) (b acc : List Ratio) (k n : ℕ) → rowed plain plus acc k (neg_r x) b n ≡ rowed plain minus acc k x b n
unfolding rowed
row-negative x [] acc k n = refl
row-negative x (y ∷ b) acc k n =
    let old = get_or acc k zero_r in
    let more : ℕ → Ratio → Ran ℕ (List Ratio) = λ m s. rowed plain plus (set acc k s) (k + 1) (neg_r x) b m in
    let less : ℕ → Ratio → Ran ℕ (List Ratio) = λ m s. rowed plain minus (set acc k s) (k + 1) x b m in
    let added : ℕ → Ratio → Ran ℕ (List Ratio) = λ m t. and_then (counted m (add_of old t)) more in
    let taken : ℕ → Ratio → Ran ℕ (List Ratio) = λ m t. and_then (counted m (sub_of old t)) less in
    ap (λ (s : Result Ratio Reason). and_then (counted n s) added) (mul-neg x y)
    ∙ neg_then (mul_of x y) n added taken (λ m t. ap (λ (s : Result Ratio Reason). and_then (counted m s) more) (sub-is-add old t) ∙ same_then (sub_of old t) m more less (λ j s. row-negative x b (set acc k s) (k + 1) j))

-- of what is no fraction there is no product
pub row-neither : (x : Ratio) → within x.num ≡ false → (b acc : List Ratio) (k n : ℕ) → rowed plain plus acc k x b n ≡ rowed plain minus acc k x b n
unfolding rowed
row-neither x h [] acc k n = refl
row-neither x h (y ∷ b) acc k n = rw (← mul-no-a x y (let e : is_fraction x ≡ false = rw h in e))

-- The words of a listing's bit set: their range, when they are empty, and which bit says what.
use mathlib.Core.Path.{◌≡◌, refl, sym, ap, ◌∙◌, subst}
use mathlib.Core.Bool.{Bool, true, false}
use mathlib.Core.List.{List}
use Prim.Native.Nat.{ℕ, zero, suc, ◌+◌, ◌*◌, ◌-◌, ◌/◌, ◌%◌, ◌^◌, ◌<◌, ◌≤◌}
use lib.Pow.{pow_mono}
use native.Mathlib.Nat.{lt_of_lt_of_le, mul-le-mul, pow-suc, pow-succ', div-div-eq-div-mul}
use native.Mathlib.Decide.{dec_le, ℕ_discrete}
use native.Mathlib.Omega.{arith}
use borrow.Author.Tests.{lt-leb}
use lib.Dec.{eqb}
use lib.ListN.{length, get_or, set, replicate, length-set, length-replicate, get_or-replicate}
use lib.Seq.{ext_get_or, get_or-set_same, get_or-set_other}
use Rattle.divisors.specs.Listing.{is_small}
use Rattle.divisors.specs.Marks.{digit, word_from, words_from, marks_of, bit_at}

pub square_le : (a b : ℕ) → a ≤ b → a * a ≤ b * b
square_le a b h = mul-le-mul h h

-- a number above the root is not marked
pub above_root : (n i : ℕ) → n < i * i → is_small n i ≡ false
above_root n i h = rw (lt-leb (i * i) n h)

pub digit-le : (t : Bool) → digit t ≤ 1
digit-le true = omega arith
digit-le false = omega arith

pub word_none : (n i : ℕ) → word_from n 0 i ≡ 0
unfolding word_from
word_none n i = refl

pub word_small : (n k i : ℕ) → word_from n k i < 2 ^ k
unfolding word_from
word_small n zero i = omega arith
word_small n (suc k) i = omega (arith, word_small n k (suc i), digit-le (is_small n i), pow-suc 2 k)

pub word-empty : (n k i : ℕ) → n < i * i → word_from n k i ≡ 0
unfolding word_from
word-empty n zero i h = refl
word-empty n (suc k) i h =
    let g : n < suc i * suc i = omega (arith, square_le i (suc i) (omega arith)) in
    omega (arith, word-empty n k (suc i) g, ap digit (above_root n i h))

digit-is : (t : Bool) → eqb (digit t) 1 ≡ t
digit-is true = refl
digit-is false = refl

-- w · 2 + d, with d below 2
low_bit : (w d : ℕ) → d ≤ 1 → (w * 2 + d) % 2 ≡ d
low_bit w d h = omega arith

high_bits : (w d : ℕ) → d ≤ 1 → (w * 2 + d) / 2 ≡ w
high_bits w d h = omega arith

-- bit b of a word is the mark of its number i + b
pub word-bit : (n k i b : ℕ) → b < k → word_from n k i / 2 ^ b % 2 ≡ digit (is_small n (i + b))
unfolding word_from
word-bit n zero i b h = absurd (omega arith)
word-bit n (suc k) i zero h =
    let w = word_from n k (suc i) * 2 + digit (is_small n i) in
    ap (λ (m : ℕ). m % 2) (let e : w / 2 ^ 0 ≡ w = omega arith in e)
    ∙ low_bit (word_from n k (suc i)) (digit (is_small n i)) (digit-le (is_small n i))
    ∙ ap (λ (m : ℕ). digit (is_small n m)) (let e : i ≡ i + 0 = omega arith in e)
word-bit n (suc k) i (suc b) h =
    let w = word_from n k (suc i) * 2 + digit (is_small n i) in
    ap (λ (m : ℕ). m % 2)
    (ap (λ (m : ℕ). w / m) (pow-succ' 2 b)
    ∙ sym (div-div-eq-div-mul w 2 (2 ^ b))
    ∙ ap (λ (m : ℕ). m / 2 ^ b) (high_bits (word_from n k (suc i)) (digit (is_small n i)) (digit-le (is_small n i))))
    ∙ word-bit n k (suc i) b (omega arith)
    ∙ ap (λ (m : ℕ). digit (is_small n m)) (let e : suc i + b ≡ i + suc b = omega arith in e)

pub words-length : (n k w : ℕ) → length (words_from n k w) ≡ k
unfolding words_from
words-length n zero w = refl
words-length n (suc k) w = ap suc (words-length n k (suc w))

pub words-at : (n k w v : ℕ) → v < k → get_or (words_from n k w) v 0 ≡ word_from n 64 ((w + v) * 64 + 1)
unfolding words_from
words-at n zero w v h = absurd (omega arith)
words-at n (suc k) w zero h = ap (λ (m : ℕ). word_from n 64 (m * 64 + 1)) (let e : w ≡ w + 0 = omega arith in e)
words-at n (suc k) w (suc v) h = words-at n k (suc w) v (omega arith) ∙ ap (λ (m : ℕ). word_from n 64 (m * 64 + 1)) (let e : suc w + v ≡ w + suc v = omega arith in e)

pub marks-length : (n : ℕ) → length (marks_of n) ≡ 1024
unfolding marks_of
marks-length n = words-length n 1024 0

pub marks-at : (n v : ℕ) → v < 1024 → get_or (marks_of n) v 0 ≡ word_from n 64 (v * 64 + 1)
unfolding marks_of
marks-at n v h = words-at n 1024 0 v h ∙ ap (λ (m : ℕ). word_from n 64 (m * 64 + 1)) (let e : 0 + v ≡ v = omega arith in e)

-- bit j of the set is the mark of the number j + 1
pub marks-bit : (n j : ℕ) → j < 65536 → bit_at (marks_of n) j ≡ is_small n (suc j)
marks-bit n j h =
    ap (λ (m : ℕ). eqb (m / 2 ^ (j % 64) % 2) 1) (marks-at n (j / 64) (omega arith))
    ∙ ap (λ (m : ℕ). eqb m 1) (word-bit n 64 (j / 64 * 64 + 1) (j % 64) (omega arith))
    ∙ digit-is (is_small n (j / 64 * 64 + 1 + j % 64))
    ∙ ap (is_small n) (let e : j / 64 * 64 + 1 + j % 64 ≡ suc j = omega arith in e)

-- what the loop over the words has made before word w
pub record Filled (n w : ℕ) (marks : List ℕ) : Type 0 where
  pub long : length marks ≡ 1024
  pub below : (v : ℕ) → v < w → get_or marks v 0 ≡ word_from n 64 (v * 64 + 1)
  pub above : (v : ℕ) → w ≤ v → v < 1024 → get_or marks v 0 ≡ 0

pub filled_none : (n : ℕ) → Filled n 0 (replicate 1024 0)
filled_none n = record { long = length-replicate {A = ℕ} 1024 0; below = λ v h. absurd (omega arith); above = λ v g h. get_or-replicate {A = ℕ} 1024 v 0 0 h }

pub filled_more : (n w : ℕ) (marks : List ℕ) (word : ℕ) → w < 1024 → word ≡ word_from n 64 (w * 64 + 1) → Filled n w marks → Filled n (w + 1) (set marks w word)
filled_more n w marks word h e f = record {
  long = length-set marks w word ∙ f.long;
  below = λ v g. at v g (ℕ_discrete v w);
  above = λ v g l. get_or-set_other marks w v word 0 (omega arith) ∙ f.above v (omega arith) l;
}
  where
    at : (v : ℕ) → v < w + 1 → Dec (v ≡ w) → get_or (set marks w word) v 0 ≡ word_from n 64 (v * 64 + 1)
    at v g (yes p) = subst (λ (u : ℕ). get_or (set marks w word) u 0 ≡ word_from n 64 (u * 64 + 1)) (sym p) (get_or-set_same marks w word 0 (subst (λ (m : ℕ). w < m) (sym f.long) h) ∙ e)
    at v g (no p) = get_or-set_other marks w v word 0 p ∙ f.below v (omega arith)

-- a set that is filled up to a word above the root is complete
pub complete : (n w : ℕ) (marks : List ℕ) → Filled n w marks → ((v : ℕ) → w ≤ v → v < 1024 → n < (v * 64 + 1) * (v * 64 + 1)) → marks ≡ marks_of n
complete n w marks f over = ext_get_or 0 marks (marks_of n) (f.long ∙ sym (marks-length n)) (λ v h. at v (subst (λ (m : ℕ). v < m) f.long h) (dec_le w v))
  where
    at : (v : ℕ) → v < 1024 → Dec (w ≤ v) → get_or marks v 0 ≡ get_or (marks_of n) v 0
    at v h (yes g) = f.above v g h ∙ sym (marks-at n v h ∙ word-empty n 64 (v * 64 + 1) (over v g h))
    at v h (no g) = f.below v (omega arith) ∙ sym (marks-at n v h)

-- one number more in front: what a turn of the loop over a word does
pub word-step : (n first left : ℕ) → 0 < left → left ≤ 64 → word_from n (64 - (left - 1)) (first + (left - 1)) ≡ word_from n (64 - left) (first + left) * 2 + digit (is_small n (first + (left - 1)))
unfolding word_from
word-step n first left p q =
    ap (λ (k : ℕ). word_from n k (first + (left - 1))) (let e : 64 - (left - 1) ≡ suc (64 - left) = omega arith in e)
    ∙ ap (λ (i : ℕ). word_from n (64 - left) i * 2 + digit (is_small n (first + (left - 1)))) (let e : suc (first + (left - 1)) ≡ first + left = omega arith in e)

-- a word that is not finished leaves room for one bit more
pub word_room : (n i left : ℕ) → 0 < left → left ≤ 64 → word_from n (64 - left) i * 2 + 1 < 2 ^ 64
word_room n i left p q = omega (arith, lt_of_lt_of_le (word_small n (64 - left) i) (pow_mono (let e : 64 - left ≤ 63 = omega arith in e)))

pub ruleset word_steps = (digit-le, word_none, word_room, word-step)

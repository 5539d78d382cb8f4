-- Decimal digits: one alone, one more at the end, and how many there are.
use mathlib.Core.Path.{◌≡◌, refl, sym, ap, ◌∙◌}
use mathlib.Core.Bool.{Bool, true, false, cond}
use mathlib.Core.List.{List, [], ◌∷◌, ◌++◌}
use Prim.Native.Nat.{ℕ, zero, suc, ◌+◌, ◌*◌, ◌/◌, ◌%◌, ◌^◌, ◌≤◌, ◌<◌}
use native.Mathlib.Omega.{arith}
use native.Mathlib.Nat.{pow-suc, div-lt_iff_lt-mul, div-add-mod'}
use borrow.Author.Tests.{lt-ltb, le-ltb, ltb-true, ltb-false}
use lib.Dec.{ltb}
use lib.ListN.{length, length-append}
use Rattle.text.specs.Spell.{decimal_in, decimal_of}

in_one : (k n : ℕ) → n < 10 → decimal_in (suc k) n ≡ (48 + n) ∷ []
unfolding decimal_in
in_one k n h = rw (lt-ltb n 10 h)

in-more : (k n : ℕ) → 10 ≤ n → decimal_in (suc k) n ≡ decimal_in k (n / 10) ++ ((48 + n % 10) ∷ [])
unfolding decimal_in
in-more k n h = rw (le-ltb n 10 h)

-- a tenth has a digit less
tenth : (j n : ℕ) → n < 10 ^ suc (suc j) → n / 10 < 10 ^ suc j
tenth j n h = (div-lt_iff_lt-mul {k = 10} (omega arith)).1 (rw pow-suc at h)

-- below ten or not
pub ten : {X : Type 0} (n : ℕ) → (n < 10 → X) → (10 ≤ n → X) → X
ten {X} n f g = go (ltb n 10) refl
  where
    go : (t : Bool) → ltb n 10 ≡ t → X
    go true e = f (ltb-true n 10 e)
    go false e = g (ltb-false n 10 e)

-- more places than digits change nothing
in-same : (j k n : ℕ) → n < 10 ^ suc j → j ≤ k → decimal_in (suc j) n ≡ decimal_in (suc k) n
in-same zero k n h l = in_one zero n (omega arith) ∙ sym (in_one k n (omega arith))
in-same (suc j) zero n h l = absurd (omega arith)
in-same (suc j) (suc k) n h l =
    ten n
    (λ d. in_one (suc j) n d ∙ sym (in_one (suc k) n d))
    (λ d. in-more (suc j) n d ∙ ap (λ s. s ++ ((48 + n % 10) ∷ [])) (in-same j k (n / 10) (tenth j n h) (omega arith)) ∙ sym (in-more (suc k) n d))

pub decimal-one : (n : ℕ) → n < 10 → decimal_of n ≡ (48 + n) ∷ []
unfolding decimal_of
decimal-one n h = in_one 19 n h

pub decimal-more : (n : ℕ) → 10 ≤ n → n < 10 ^ 20 → decimal_of n ≡ decimal_of (n / 10) ++ ((48 + n % 10) ∷ [])
unfolding decimal_of
decimal-more n h b = in-more 19 n h ∙ ap (λ s. s ++ ((48 + n % 10) ∷ [])) (in-same 18 19 (n / 10) (tenth 18 n b) (omega arith))

-- what holds of one digit, and of a number with a digit more at its end, holds of every number and its digits
module _ (P : ℕ → List ℕ → Type 0) (one : (d : ℕ) → d < 10 → P d ((48 + d) ∷ [])) (more : (n d : ℕ) (s : List ℕ) → 0 < n → d < 10 → P n s → P (n * 10 + d) (s ++ ((48 + d) ∷ []))) where
  in-every : (k n : ℕ) → n < 10 ^ suc k → P n (decimal_in (suc k) n)
  in-every zero n h = rw (in_one zero n (omega arith)) (one n (omega arith))
  in-every (suc k) n h =
      ten n
      (λ d. rw (in_one (suc k) n d) (one n d))
      (λ d. rw (in-more (suc k) n d) (rw (div-add-mod' n 10) at (more (n / 10) (n % 10) (decimal_in (suc k) (n / 10)) (omega arith) (omega arith) (in-every k (n / 10) (tenth k n h)))))

  pub decimal-every : (n : ℕ) → n < 10 ^ 20 → P n (decimal_of n)
  unfolding decimal_of
  decimal-every n h = in-every 19 n h

one-longer : (k : ℕ) (t : Bool) (a b : ℕ) (s : List ℕ) → length s ≤ k → length (cond t (a ∷ []) (s ++ (b ∷ []))) ≤ suc k
one-longer k true a b s h = omega arith
one-longer k false a b s h = rw length-append (omega arith)

in-length : (k n : ℕ) → length (decimal_in k n) ≤ k
unfolding decimal_in
in-length zero n = omega arith
in-length (suc k) n = one-longer k (ltb n 10) (48 + n) (48 + n % 10) (decimal_in k (n / 10)) (in-length k (n / 10))

pub decimal-length : (n : ℕ) → length (decimal_of n) ≤ 20
unfolding decimal_of
decimal-length n = in-length 20 n

-- a number of at most k + 1 digits
pub decimal-short : (k n : ℕ) → k ≤ 19 → n < 10 ^ suc k → length (decimal_of n) ≤ suc k
unfolding decimal_of
decimal-short k n l h = rw (in-same k 19 n h l) at (in-length (suc k) n)

pub decimal-19 : (n : ℕ) → n < 9223372036854775808 → length (decimal_of n) ≤ 19
decimal-19 n h = decimal-short 18 n (omega arith) (omega arith)

-- a digit more at the end of a number above zero
pub decimal-snoc : (n d : ℕ) → 0 < n → d < 10 → n * 10 + d < 10 ^ 20 → decimal_of (n * 10 + d) ≡ decimal_of n ++ ((48 + d) ∷ [])
decimal-snoc n d h l b =
    let q : (n * 10 + d) / 10 ≡ n = omega arith in
    let r : (n * 10 + d) % 10 ≡ d = omega arith in
    decimal-more (n * 10 + d) (omega arith) b ∙ rw (q, r)

-- ---- each byte is a digit, and the first is no zero

abbrev pub Digits : List ℕ → Type 0
Digits [] = Unit {0}
Digits (b ∷ s) = (48 ≤ b) × (b ≤ 57) × Digits s

pub digits_append : (s t : List ℕ) → Digits s → Digits t → Digits (s ++ t)
digits_append [] t f g = g
digits_append (b ∷ s) t f g = (f.0, f.1, digits_append s t f.2 g)

pub decimal-digits : (n : ℕ) → n < 10 ^ 20 → Digits (decimal_of n)
decimal-digits = decimal-every (λ n s. Digits s) (λ d h. (omega arith, omega arith, tt)) (λ n d s h l f. digits_append s ((48 + d) ∷ []) f (omega arith, omega arith, tt))

-- some byte comes first, and is `0` for 0 only
abbrev pub Headed : ℕ → List ℕ → Type 0
Headed n [] = ⊥
Headed n (b ∷ s) = b ≡ 48 → n ≡ 0

pub decimal-head : (n : ℕ) → n < 10 ^ 20 → Headed n (decimal_of n)
decimal-head = decimal-every Headed (λ d h e. omega arith) more
  where
    more : (n d : ℕ) (s : List ℕ) → 0 < n → d < 10 → Headed n s → Headed (n * 10 + d) (s ++ ((48 + d) ∷ []))
    more n d [] h l f = absurd f
    more n d (b ∷ s) h l f = λ e. let z : n ≡ 0 = f e in absurd (omega arith)

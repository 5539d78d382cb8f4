-- Passing over bits that are not set.
use mathlib.Core.Path.{◌≡◌, refl, sym, ap, ap₂, ◌∙◌, subst}
use mathlib.Core.Bool.{Bool, true, false, ◌&&◌, cond}
use mathlib.Core.List.{List}
use Prim.Native.Nat.{ℕ, zero, suc, ◌+◌, ◌*◌, ◌-◌, ◌/◌, ◌%◌, ◌^◌, ◌<◌, ◌≤◌}
use native.Mathlib.Nat.{zero-div, div-one, div-le_self, div-mul-le_self, div-div-eq-div-mul, lt_of_le_of_lt, le_trans, le_of_eq, mul_assoc, mul-div_cancel, mul-le-mul_right, mul-mod_left, pow-suc}
use native.Mathlib.Decide.{dec_lt}
use native.Mathlib.Omega.{arith}
use borrow.Author.Tests.{le-leb, lt-leb, eqb-false}
use lib.Count.{count_trailing_zeros}
use lib.Pow.{pow-add, pow_mono, pow_pos}
use Rattle.ratio.proofs.Binary.{ends-odd, ends-back}
use lib.Dec.{leb, eqb}
use lib.ListN.{get_or}
use Rattle.divisors.specs.Marks.{bit_at}
use Rattle.divisors.specs.Walk.{marked, mark_from, Clear, ClearIn}
use Rattle.divisors.proofs.Words.{square_le}

and-false : (t : Bool) → t && false ≡ false
and-false true = refl
and-false false = refl

-- a bit that is not set doesn't count, nor does one above the root
pub unset : (size : ℕ) (marks : List ℕ) (j : ℕ) → bit_at marks j ≡ false → marked size marks j ≡ false
unset size marks j e = ap (λ t. leb ((j + 1) * (j + 1)) size && t) e ∙ and-false (leb ((j + 1) * (j + 1)) size)

pub above : (size : ℕ) (marks : List ℕ) (j : ℕ) → size < (j + 1) * (j + 1) → marked size marks j ≡ false
above size marks j h = rw (lt-leb ((j + 1) * (j + 1)) size h)

pub below : (size : ℕ) (marks : List ℕ) (j : ℕ) (t : Bool) → (j + 1) * (j + 1) ≤ size → bit_at marks j ≡ t → marked size marks j ≡ t
below size marks j t h e = rw (le-leb ((j + 1) * (j + 1)) size h) e

-- a bit that counts ends the walk
pub mark-here : (size : ℕ) (marks : List ℕ) (k j : ℕ) → marked size marks j ≡ true → 0 < k → mark_from size marks k j ≡ j
unfolding mark_from
mark-here size marks zero j e h = absurd (omega arith)
mark-here size marks (suc k) j e h = ap (λ t. cond t j (mark_from size marks k (suc j))) e

mark-skip-by : (size : ℕ) (marks : List ℕ) (r k j : ℕ) → ((b : ℕ) → b < r → marked size marks (j + b) ≡ false) → mark_from size marks (r + k) j ≡ mark_from size marks k (j + r)
unfolding mark_from
mark-skip-by size marks zero k j h = ap₂ (mark_from size marks) (let e : 0 + k ≡ k = omega arith in e) (let e : j ≡ j + 0 = omega arith in e)
mark-skip-by size marks (suc r) k j h =
    ap (λ n. mark_from size marks n j) (let e : suc r + k ≡ suc (r + k) = omega arith in e)
    ∙ ap (λ t. cond t j (mark_from size marks (r + k) (suc j))) (subst (λ n. marked size marks n ≡ false) (let e : j + 0 ≡ j = omega arith in e) (h 0 (omega arith)))
    ∙ mark-skip-by size marks r k (suc j) (λ b g. subst (λ n. marked size marks n ≡ false) (let e : j + suc b ≡ suc j + b = omega arith in e) (h (suc b) (omega arith)))
    ∙ ap (mark_from size marks k) (let e : suc j + r ≡ j + suc r = omega arith in e)

-- where r bits are not set the walk goes on behind them
pub mark-skip : (size : ℕ) (marks : List ℕ) (j r : ℕ) → Clear marks j r → mark_from size marks (65536 - (j + r)) (j + r) ≡ mark_from size marks (65536 - j) j
mark-skip size marks j r c =
    sym (mark-skip-by size marks r (65536 - (j + r)) j (λ b g. unset size marks (j + b) (c.unset b g)))
    ∙ ap (λ n. mark_from size marks n j) (let g = c.inside in let e : r + (65536 - (j + r)) ≡ 65536 - j = omega arith in e)

pub mark-none : (size : ℕ) (marks : List ℕ) (j : ℕ) → mark_from size marks 0 j ≡ j
unfolding mark_from
mark-none size marks j = refl

pub mark-le : (size : ℕ) (marks : List ℕ) (k j : ℕ) → mark_from size marks k j ≤ j + k
unfolding mark_from
mark-le size marks zero j = omega arith
mark-le size marks (suc k) j = by (marked size marks j) (mark-le size marks k (suc j))
  where
    by : (t : Bool) → mark_from size marks k (suc j) ≤ suc j + k → cond t j (mark_from size marks k (suc j)) ≤ j + suc k
    by true h = omega arith
    by false h = omega arith

-- above the root none counts
pub mark-past : (size : ℕ) (marks : List ℕ) (k j : ℕ) → size < (j + 1) * (j + 1) → mark_from size marks k j ≡ j + k
unfolding mark_from
mark-past size marks zero j h = omega arith
mark-past size marks (suc k) j h =
    ap (λ t. cond t j (mark_from size marks k (suc j))) (above size marks j h)
    ∙ mark-past size marks k (suc j) (omega (arith, square_le (j + 1) (suc j + 1) (omega arith)))
    ∙ omega arith

-- the bit that ends the walk counts, and is not before its start
pub mark_set : (size : ℕ) (marks : List ℕ) (k j : ℕ) → mark_from size marks k j < j + k → marked size marks (mark_from size marks k j) ≡ true
unfolding mark_from
mark_set size marks zero j h = absurd (omega arith)
mark_set size marks (suc k) j h = by (marked size marks j) refl h (mark_set size marks k (suc j))
  where
    by : (t : Bool) → marked size marks j ≡ t → cond t j (mark_from size marks k (suc j)) < j + suc k → (mark_from size marks k (suc j) < suc j + k → marked size marks (mark_from size marks k (suc j)) ≡ true) → marked size marks (cond t j (mark_from size marks k (suc j))) ≡ true
    by true e f g = e
    by false e f g = g (omega arith)

pub mark-ge : (size : ℕ) (marks : List ℕ) (k j : ℕ) → j ≤ mark_from size marks k j
unfolding mark_from
mark-ge size marks zero j = omega arith
mark-ge size marks (suc k) j = by (marked size marks j) (mark-ge size marks k (suc j))
  where
    by : (t : Bool) → suc j ≤ mark_from size marks k (suc j) → j ≤ cond t j (mark_from size marks k (suc j))
    by true h = omega arith
    by false h = omega arith

-- ---- within a word

bit-behind : (w s b : ℕ) → eqb (w / 2 ^ (s + b) % 2) 1 ≡ eqb (w / 2 ^ s / 2 ^ b % 2) 1
bit-behind w s b = ap (λ d. eqb (w / d % 2) 1) (pow-add 2 s b) ∙ ap (λ q. eqb (q % 2) 1) (sym (div-div-eq-div-mul w (2 ^ s) (2 ^ b)))

-- none is set up to the word's end
pub clear-end : (w s : ℕ) → s < 64 → w / 2 ^ s ≡ 0 → ClearIn w s (64 - s)
clear-end w s h e = record {
  some = omega arith;
  inside = omega arith;
  unset = λ b g. bit-behind w s b ∙ ap (λ q. eqb (q / 2 ^ b % 2) 1) e ∙ ap (λ q. eqb (q % 2) 1) (zero-div (2 ^ b));
}

even-below : (q t b : ℕ) → b < t → q * 2 ^ t / 2 ^ b % 2 ≡ 0
even-below q t b h =
    let e : t ≡ suc (t - suc b) + b = omega arith in
    ap (λ n. n / 2 ^ b % 2) (ap (λ n. q * n) (ap (λ n. 2 ^ n) e ∙ pow-add 2 (suc (t - suc b)) b) ∙ sym (mul_assoc q (2 ^ suc (t - suc b)) (2 ^ b)))
    ∙ ap (λ n. n % 2) (mul-div_cancel (q * 2 ^ suc (t - suc b)) (pow_pos b) ∙ ap (λ n. q * n) (pow-suc 2 (t - suc b)) ∙ sym (mul_assoc q (2 ^ (t - suc b)) 2))
    ∙ mul-mod_left (q * 2 ^ (t - suc b)) 2

-- nor is one below the next that is set
pub clear-zeros : (w s : ℕ) → w < 2 ^ 64 → eqb (w / 2 ^ s % 2) 1 ≡ false → (w / 2 ^ s ≡ 0 → ⊥) → ClearIn w s (count_trailing_zeros 64 (w / 2 ^ s))
clear-zeros w s k e f = record {
  some = by (dec_lt 0 t);
  inside = omega (arith, room);
  unset = λ b g. bit-behind w s b ∙ ap (λ n. eqb (n / 2 ^ b % 2) 1) (sym (ends-back 64 left)) ∙ ap (λ n. eqb n 1) (even-below (left / 2 ^ t) t b g);
}
  where
    left : ℕ
    left = w / 2 ^ s

    t : ℕ
    t = count_trailing_zeros 64 left

    odd : left / 2 ^ t % 2 ≡ 1
    odd = ends-odd 64 left (omega (arith, f)) (lt_of_le_of_lt (div-le_self w (2 ^ s)) k)

    most : 2 ^ t ≤ left
    most = omega (arith, ends-back 64 left, mul-le-mul_right (2 ^ t) (let p : 1 ≤ left / 2 ^ t = omega (arith, odd) in p))

    -- the bit found stands within the word
    room : s + t < 64
    room = inside-by (dec_lt (s + t) 64)
      where
        inside-by : Dec (s + t < 64) → s + t < 64
        inside-by (yes p) = p
        inside-by (no p) =
            let full : 2 ^ 64 ≤ 2 ^ t * 2 ^ s = le_trans (pow_mono (let q : 64 ≤ t + s = omega arith in q)) (le_of_eq (pow-add 2 t s)) in
            absurd (omega (arith, full, mul-le-mul_right (2 ^ s) most, div-mul-le_self w (2 ^ s), k))

    by : Dec (0 < t) → 0 < t
    by (yes p) = p
    by (no p) =
        let z : t ≡ 0 = omega arith in
        absurd (eqb-false (left % 2) 1 e (sym (ap (λ n. n % 2) (div-one left)) ∙ ap (λ n. left / 2 ^ n % 2) (sym z) ∙ odd))

pub clear-empty : (w s : ℕ) → s < 64 → w ≡ 0 → ClearIn w s (64 - s)
clear-empty w s h e = clear-end w s h (ap (λ n. n / 2 ^ s) e ∙ zero-div (2 ^ s))

-- what is clear within the word of bit j is clear from j on
pub clear_in : (marks : List ℕ) (j r : ℕ) → j < 65536 → ClearIn (get_or marks (j / 64) 0) (j % 64) r → Clear marks j r
clear_in marks j r h c = record {
  some = c.some;
  inside = omega (arith, c.inside);
  unset = λ b g.
      ap₂ (λ n m. eqb (get_or marks n 0 / 2 ^ m % 2) 1) (let e : (j + b) / 64 ≡ j / 64 = omega (arith, c.inside) in e) (let e : (j + b) % 64 ≡ j % 64 + b = omega (arith, c.inside) in e)
      ∙ c.unset b g;
}

pub ruleset clear_steps = (clear-end, clear-zeros, clear-empty, clear_in)

pub ruleset mark_steps = (mark-skip)

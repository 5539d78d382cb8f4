-- One turn of Horner's form on the stack: x times a polynomial is its list behind a zero, and a constant goes in front.
use Rattle.ratio.specs.declared.Reason.{Reason}
use Rattle.std.specs.Prelude.{Result, Ok}
use mathlib.Core.Path.{◌≡◌, refl, sym, ap, ap₂, ◌∙◌}
use mathlib.Core.Bool.{Bool, true, false}
use mathlib.Core.List.{List, [], ◌∷◌, ◌++◌}
use Prim.Native.Nat.{ℕ, zero, suc, ◌+◌, ◌-◌, ◌≤◌, max}
use native.Mathlib.Omega.{arith}
use borrow.Author.Tests.{le-ltb}
use lib.ListN.{length, get_or, set, replicate, length-append}
use lib.Seq.{get_or-append_seam, set-append_seam, set-get_or, append_snoc}
use Rattle.ratio.specs.Promise.{Lowest}
use Rattle.ratio.specs.Refusal.{zero_r}
use Rattle.ratio.specs.Step.{is_nil, add_of}
use Rattle.ratio.specs.declared.Ratio.{Ratio}
use Rattle.ratio.proofs.Steps.{one_r, zero-lowest, value-equal, nil-value, zero-value}
use Rattle.terms.specs.declared.Poly.{Poly}
use Rattle.terms.specs.Poly.{terms_of, poly_of, on_top, drop_top, trim}
use Rattle.terms.specs.Machine.{plus, fine, counted, plain}
use Rattle.terms.specs.Work.{each, zipped, rowed, rows, multiplied}
use Rattle.terms.specs.Answer.{answer_of, product_of}
use Rattle.terms.proofs.Lists.{terms-of-poly, trim-short}
use Rattle.terms.proofs.MeaningLowest.{AllLowest, cons-lowest, none-lowest}
use Rattle.terms.proofs.MeaningCanonical.{Canonical, trim-canonical}
use Rattle.poly.specs.declared.Gate.TheVariants.{Open}
use Rattle.poly.specs.Door.{door_of}
use Rattle.poly.specs.Operations as P
use Rattle.poly.proofs.Canonical.{open-poly}
use Rattle.poly.proofs.Gives.{monomial-gives}
use Rattle.lower.specs.Stack.{fine as left, pushed}
use Rattle.horner.proofs.Units.{zero-times, one-times, zero-plus, plus-zero}

-- ---- rows

-- two steps a term
abbrev steps : List Ratio → ℕ → ℕ
steps [] n = n
steps (b ∷ l) n = steps l (suc (suc n))

zeros-at : (n i : ℕ) → get_or (replicate n zero_r) i zero_r ≡ zero_r
zeros-at zero i = refl
zeros-at (suc n) zero = refl
zeros-at (suc n) (suc i) = zeros-at n i

zeros-set : (n i : ℕ) → set (replicate n zero_r) i zero_r ≡ replicate n zero_r
zeros-set n i = ap (set (replicate n zero_r) i) (sym (zeros-at n i)) ∙ set-get_or (replicate n zero_r) i zero_r

row_zero : (b : List Ratio) (n k log : ℕ) → AllLowest b → rowed plain plus (replicate n zero_r) k zero_r b log ≡ fine (steps b log) (replicate n zero_r)
unfolding rowed
row_zero [] n k log h = refl
row_zero (b ∷ l) n k log h = rw (zero-times b (h 0), zeros-at n k, zero-plus zero_r zero-lowest, zeros-set n k) (row_zero l n (k + 1) (suc (suc log)) (λ i. h (suc i)))

row_one : (b pre : List Ratio) (log : ℕ) → AllLowest b → rowed plain plus (pre ++ replicate (length b) zero_r) (length pre) one_r b log ≡ fine (steps b log) (pre ++ b)
unfolding rowed
row_one [] pre log h = refl
row_one (b ∷ l) pre log h =
    let e : length pre + 1 ≡ length (pre ++ (b ∷ [])) = sym (length-append pre (b ∷ [])) in
    rw (one-times b (h 0), get_or-append_seam pre zero_r (replicate (length l) zero_r) zero_r, zero-plus b (h 0), set-append_seam pre zero_r (replicate (length l) zero_r) b, e, ← append_snoc pre b (replicate (length l) zero_r), ← append_snoc pre b l)
    (row_one l (pre ++ (b ∷ [])) (suc (suc log)) (λ i. h (suc i)))

-- ---- x times a polynomial

abbrev pub xs : List Ratio
xs = zero_r ∷ one_r ∷ []

-- a list behind a zero; no list stays none
abbrev pub shifted : List Ratio → List Ratio
shifted [] = []
shifted (y ∷ l) = zero_r ∷ y ∷ l

times : (y : Ratio) (l : List Ratio) → AllLowest (y ∷ l) → multiplied plain xs (y ∷ l) 0 ≡ fine (steps (y ∷ l) (steps (y ∷ l) 0)) (zero_r ∷ y ∷ l)
unfolding multiplied rows
times y l h =
    let e : length xs + length (y ∷ l) - 1 ≡ suc (length (y ∷ l)) = omega arith in
    rw (e, row_zero (y ∷ l) (suc (length (y ∷ l))) 0 0 h, row_one (y ∷ l) (zero_r ∷ []) (steps (y ∷ l) 0) h)

-- in front of a list with no zero at the top anything stays
stays : (c y : Ratio) (l : List Ratio) → trim (y ∷ l) ≡ y ∷ l → trim (c ∷ y ∷ l) ≡ c ∷ y ∷ l
unfolding drop_top
stays c y l e = ap (on_top (is_nil c.num) c) e

product : (l : List Ratio) → Canonical l → length l ≤ 31 → (st : List Poly) → pushed (product_of xs l) st ≡ left (poly_of (shifted l) ∷ st)
unfolding product_of drop_top
product [] c h st = refl
product (y ∷ l) c h st =
    rw (le-ltb 32 (length xs + length (y ∷ l) - 1) (omega arith), times y l c.lowest, stays zero_r y l c.trimmed)

-- ---- a sum, place by place

abbrev ups : List Ratio → ℕ → ℕ
ups [] n = n
ups (b ∷ l) n = ups l (suc n)

each_from : (s : ℕ → Result Ratio Reason) (r : List Ratio) (i n : ℕ) → ((j : ℕ) → s (i + j) ≡ Ok (get_or r j zero_r)) → each (λ i k. counted k (s i)) (length r) i n ≡ fine (ups r n) r
unfolding each
each_from s [] i n h = refl
each_from s (a ∷ r) i n h =
    let e : s i ≡ Ok a = ap s (omega arith) ∙ h 0 in
    rw (e, each_from s r (suc i) (suc n) (λ j. ap s (omega arith) ∙ h (suc j)))

each-is : (s : ℕ → Result Ratio Reason) (r : List Ratio) → ((j : ℕ) → s j ≡ Ok (get_or r j zero_r)) → each (λ i k. counted k (s i)) (length r) 0 0 ≡ fine (ups r 0) r
each-is s r h = each_from s r 0 0 (λ j. ap s (omega arith) ∙ h j)

nil_is : (c : Ratio) → Lowest c → is_nil c.num ≡ true → c ≡ zero_r
nil_is c h e = value-equal c zero_r h zero-lowest (nil-value c h.fraction e ∙ sym zero-value)

shifted-length : (l : List Ratio) → max 1 (length (shifted l)) ≡ suc (length l)
shifted-length [] = refl
shifted-length (y ∷ l) = omega arith

front : (c : Ratio) (l : List Ratio) → Lowest c → AllLowest l → (j : ℕ) → add_of (get_or (c ∷ []) j zero_r) (get_or (shifted l) j zero_r) ≡ Ok (get_or (c ∷ l) j zero_r)
front c [] hc h zero = plus-zero c hc
front c [] hc h (suc j) = zero-plus zero_r zero-lowest
front c (y ∷ l) hc h zero = plus-zero c hc
front c (y ∷ l) hc h (suc j) = zero-plus (get_or (y ∷ l) j zero_r) (h j)

behind : (y : Ratio) (l : List Ratio) → AllLowest (y ∷ l) → (j : ℕ) → add_of zero_r (get_or (zero_r ∷ y ∷ l) j zero_r) ≡ Ok (get_or (zero_r ∷ y ∷ l) j zero_r)
behind y l h zero = zero-plus zero_r zero-lowest
behind y l h (suc j) = zero-plus (get_or (y ∷ l) j zero_r) (h j)

-- the sum's coefficients
sum-some : (c : Ratio) (l : List Ratio) → Lowest c → AllLowest l → zipped plain plus (c ∷ []) (shifted l) 0 ≡ fine (ups (c ∷ l) 0) (c ∷ l)
unfolding zipped
sum-some c l hc h = rw (shifted-length l) (each-is (λ i. add_of (get_or (c ∷ []) i zero_r) (get_or (shifted l) i zero_r)) (c ∷ l) (front c l hc h))

sum-none : (y : Ratio) (l : List Ratio) → AllLowest (y ∷ l) → zipped plain plus [] (zero_r ∷ y ∷ l) 0 ≡ fine (ups (zero_r ∷ y ∷ l) 0) (zero_r ∷ y ∷ l)
unfolding zipped
sum-none y l h = let e : max 0 (length (zero_r ∷ y ∷ l)) ≡ length (zero_r ∷ y ∷ l) = omega arith in rw e (each-is (λ i. add_of zero_r (get_or (zero_r ∷ y ∷ l) i zero_r)) (zero_r ∷ y ∷ l) (behind y l h))

sum : (c : Ratio) (l : List Ratio) (t : Bool) → is_nil c.num ≡ t → Lowest c → Canonical l → (st : List Poly)
    → pushed (answer_of (zipped plain plus (on_top t c []) (shifted l) 0)) st ≡ left (poly_of (on_top t c l) ∷ st)
unfolding drop_top zipped each
sum c [] true e hc k st = refl
sum c (y ∷ l) true e hc k st = rw (sum-none y l k.lowest, stays zero_r y l k.trimmed, nil_is c hc e)
sum c [] false e hc k st = rw (sum-some c [] hc k.lowest, e)
sum c (y ∷ l) false e hc k st = rw (sum-some c (y ∷ l) hc k.lowest, stays c y l k.trimmed)

-- ---- at the door

mul-open : (a b : Poly) → door_of a ≡ Open → door_of b ≡ Open → P.mul_of a b ≡ product_of (terms_of a) (terms_of b)
mul-open a b e f = rw (e, f)

add_open : (a b : Poly) → door_of a ≡ Open → door_of b ≡ Open → P.add_of a b ≡ answer_of (zipped plain plus (terms_of a) (terms_of b) 0)
add_open a b e f = rw (e, f)

shifted-canonical : (l : List Ratio) → Canonical l → Canonical (shifted l)
shifted-canonical [] c = c
shifted-canonical (y ∷ l) c = record { lowest = cons-lowest zero_r (y ∷ l) zero-lowest c.lowest; trimmed = stays zero_r y l c.trimmed }

shifted-short : (l : List Ratio) → length (shifted l) ≤ suc (length l)
shifted-short [] = omega arith
shifted-short (y ∷ l) = omega arith

module _ (l : List Ratio) (k : Canonical l) (h : length l ≤ 31) (st : List Poly) where
  pub times-x : pushed (P.mul_of (poly_of xs) (poly_of l)) st ≡ left (poly_of (shifted l) ∷ st)
  times-x =
      ap (λ r. pushed r st) (mul-open (poly_of xs) (poly_of l) (monomial-gives 1).canonical (open-poly l (omega arith) k) ∙ ap (product_of xs) (terms-of-poly l))
      ∙ product l k h st

  pub plus-c : (c : Ratio) → Lowest c → pushed (P.add_of (poly_of (trim (c ∷ []))) (poly_of (shifted l))) st ≡ left (poly_of (on_top (is_nil c.num) c l) ∷ st)
  unfolding drop_top
  plus-c c lc =
      let n = trim-canonical (c ∷ []) (cons-lowest c [] lc none-lowest) in
      ap (λ r. pushed r st)
      (add_open (poly_of (trim (c ∷ []))) (poly_of (shifted l)) (open-poly (trim (c ∷ [])) (omega (arith, trim-short (c ∷ []))) n) (open-poly (shifted l) (omega (arith, shifted-short l)) (shifted-canonical l k))
      ∙ ap₂ (λ a b. answer_of (zipped plain plus a b 0)) (terms-of-poly (trim (c ∷ []))) (terms-of-poly (shifted l)))
      ∙ sum c l (is_nil c.num) refl lc k st

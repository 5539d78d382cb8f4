-- Among the divisors listed for a number that is not zero each divisor stands once, and nothing else.
use mathlib.Core.Path.{◌≡◌, refl, sym, ap, ap₂, ◌∙◌, subst}
use mathlib.Core.Bool.{Bool, true, false, cond}
use mathlib.Core.List.{[]}
use Prim.Native.Nat.{ℕ, zero, suc, ◌+◌, ◌*◌, ◌/◌, ◌<◌, ◌≤◌, ◌∣◌}
use native.Mathlib.Nat.{mul_comm, eq_of_mul-eq-mul_left, dvd-mul_left, dvd-mul_right, mul-div_cancel'}
use native.Mathlib.Decide.{dec_le, ℕ_discrete}
use native.Mathlib.Omega.{arith}
use borrow.Author.Tests.{eq-eqb, ne_eqb}
use lib.Dec.{eqb}
use lib.IntN.{ℤ, nat_abs}
use Rattle.divisors.specs.Listing.{entries, others, is_small, keep, list_from, factors_of}
use Rattle.divisors.specs.Marks.{digit}
use Rattle.divisors.specs.Promise.{count_of}
use Rattle.divisors.proofs.Words.{square_le}
use Rattle.divisors.proofs.Factors.{Factors, small-factors, square-below}
use Rattle.divisors.proofs.Small.{factors-small}
use Rattle.divisors.proofs.Count.{count_none, count-append, count-pair}

eqb-iff : (a b c d : ℕ) → (a ≡ b → c ≡ d) → (c ≡ d → a ≡ b) → eqb a b ≡ eqb c d
eqb-iff a b c d f g = by (ℕ_discrete a b)
  where
    by : Dec (a ≡ b) → eqb a b ≡ eqb c d
    by (yes e) = eq-eqb a b e ∙ sym (eq-eqb c d (f e))
    by (no e) = ne_eqb a b e ∙ sym (ne_eqb c d (λ q. e (g q)))

-- one factor determines the other
partner : (N h g i f : ℕ) → 0 < h → h * g ≡ N → i * f ≡ N → h ≡ i → g ≡ f
partner N h g i f p a b e = eq_of_mul-eq-mul_left h p g f (a ∙ sym b ∙ ap (λ x. x * f) (sym e))

module _ (N h g i f : ℕ) (H : Factors N h g) (I : Factors N i f) where
  same-partner : h ≡ i → g ≡ f
  same-partner = partner N h g i f H.some H.product I.product

  partner-same : g ≡ f → h ≡ i
  partner-same = partner N g h f i (omega arith) (mul_comm g h ∙ H.product) (mul_comm f i ∙ I.product)

  cross : h ≡ f → g ≡ i
  cross = partner N h g f i H.some H.product (mul_comm f i ∙ I.product)

  cross-back : g ≡ i → h ≡ f
  cross-back = partner N g h i f (omega arith) (mul_comm g h ∙ H.product) I.product

  square : i ≡ f → i * i ≡ N
  square e = ap (λ x. i * x) e ∙ I.product

  -- the smaller factor h is the larger one of no other pair
  no_second : (i * i ≡ N → ⊥) → h ≡ f → ⊥
  no_second s e = s (square (omega (arith, cross e)))

  no-first : (i * i ≡ N → ⊥) → g ≡ i → ⊥
  no-first s e = s (square (omega (arith, cross-back e)))

  hit-small : digit (eqb h i) + cond (eqb (i * i) N) 0 (digit (eqb h f)) ≡ digit (eqb i h)
  hit-small = by (ℕ_discrete (i * i) N)
    where
      turned : eqb h i ≡ eqb i h
      turned = eqb-iff h i i h sym sym

      by : Dec (i * i ≡ N) → digit (eqb h i) + cond (eqb (i * i) N) 0 (digit (eqb h f)) ≡ digit (eqb i h)
      by (yes s) = ap₂ (λ t u. digit t + cond u 0 (digit (eqb h f))) turned (eq-eqb (i * i) N s) ∙ omega arith
      by (no s) =
          ap₂ (λ t u. digit t + cond u 0 (digit (eqb h f))) turned (ne_eqb (i * i) N s)
          ∙ ap (λ t. digit (eqb i h) + digit t) (ne_eqb h f (no_second s))
          ∙ omega arith

  hit-large : digit (eqb g i) + cond (eqb (i * i) N) 0 (digit (eqb g f)) ≡ digit (eqb i h)
  hit-large = by (ℕ_discrete (i * i) N)
    where
      by : Dec (i * i ≡ N) → digit (eqb g i) + cond (eqb (i * i) N) 0 (digit (eqb g f)) ≡ digit (eqb i h)
      by (yes s) =
          let r : i ≡ f = partner N i i i f I.some s I.product refl in
          ap₂ (λ t u. digit t + cond u 0 (digit (eqb g f))) (eqb-iff g i i h (λ e. r ∙ sym (cross-back e)) (λ e. same-partner (sym e) ∙ sym r)) (eq-eqb (i * i) N s)
          ∙ omega arith
      by (no s) =
          ap₂ (λ t u. digit t + cond u 0 (digit (eqb g f))) (ne_eqb g i (no-first s)) (ne_eqb (i * i) N s)
          ∙ ap (λ t. 0 + digit t) (eqb-iff g f i h (λ e. sym (partner-same e)) (λ e. same-partner (sym e)))
          ∙ omega arith

larger-above : (N h g : ℕ) → Factors N h g → 0 < g
larger-above N h g H = omega arith

count-others : (z : ℤ) (t : Bool) (f : ℕ) → 0 < f → count_of z (others t f) ≡ cond t 0 (digit (eqb (nat_abs z) f))
count-others z true f p = count_none z
count-others z false f p = count-pair z f [] p ∙ omega (arith, count_none z)

-- how often z stands among the entries of a marked number
count_entries : (z : ℤ) (N i : ℕ) → Factors N i (N / i) → count_of z (entries N i) ≡ digit (eqb (nat_abs z) i) + cond (eqb (i * i) N) 0 (digit (eqb (nat_abs z) (N / i)))
count_entries z N i I =
    count-pair z i (others (eqb (i * i) N) (N / i)) I.some
    ∙ ap (λ c. digit (eqb (nat_abs z) i) + c) (count-others z (eqb (i * i) N) (N / i) (larger-above N i (N / i) I))

-- z stands once among the entries of h and among no others
module _ (N h : ℕ) (z : ℤ) (each : (i : ℕ) → 0 < i → count_of z (keep (is_small N i) (entries N i)) ≡ digit (eqb i h)) where
  count-step : (k i : ℕ) → 0 < i → count_of z (list_from N (suc k) i) ≡ digit (eqb i h) + count_of z (list_from N k (suc i))
  unfolding list_from
  count-step k i p = count-append z (keep (is_small N i) (entries N i)) (list_from N k (suc i)) ∙ ap (λ c. c + count_of z (list_from N k (suc i))) (each i p)

  count-behind : (k i : ℕ) → h < i → count_of z (list_from N k i) ≡ 0
  unfolding list_from
  count-behind zero i p = count_none z
  count-behind (suc k) i p = omega (arith, count-step k i (omega arith), count-behind k (suc i) (omega arith), ap digit (ne_eqb i h (omega arith)))

  count-once : (k i : ℕ) → 0 < i → i ≤ h → h < i + k → count_of z (list_from N k i) ≡ 1
  unfolding list_from
  count-once zero i p a b = absurd (omega arith)
  count-once (suc k) i p a b = by (ℕ_discrete i h) (count-once k (suc i))
    where
      by : Dec (i ≡ h) → (0 < suc i → suc i ≤ h → h < suc i + k → count_of z (list_from N k (suc i)) ≡ 1) → count_of z (list_from N (suc k) i) ≡ 1
      by (yes e) f = omega (arith, count-step k i p, count-behind k (suc i) (omega arith), ap digit (eq-eqb i h e))
      by (no e) f = omega (arith, count-step k i p, f (omega arith) (omega arith) (omega arith), ap digit (ne_eqb i h e))

-- what holds for the entries of each marked number holds for the entries listed
module _ (N h g : ℕ) (z : ℤ) (H : Factors N h g) (hit : (i f : ℕ) → Factors N i f → digit (eqb (nat_abs z) i) + cond (eqb (i * i) N) 0 (digit (eqb (nat_abs z) f)) ≡ digit (eqb i h)) where
  each-hit : (i : ℕ) → 0 < i → count_of z (keep (is_small N i) (entries N i)) ≡ digit (eqb i h)
  each-hit i p = by (is_small N i) refl
    where
      by : (t : Bool) → is_small N i ≡ t → count_of z (keep t (entries N i)) ≡ digit (eqb i h)
      by true e = let I = small-factors N i p e in count_entries z N i I ∙ hit i (N / i) I
      by false e =
          count_none z
          ∙ sym (ap digit (ne_eqb i h (λ q. let b : true ≡ false = sym (factors-small N h g H) ∙ ap (is_small N) (sym q) ∙ e in let f : ◌≡◌ {A = ℕ} 0 1 = cc in omega arith)))

  root_below : N < 65537 * 65537 → h ≤ 65536
  root_below n = by (dec_le h 65536)
    where
      by : Dec (h ≤ 65536) → h ≤ 65536
      by (yes a) = a
      by (no a) = absurd (omega (arith, square-below N h g H, square_le 65537 h (omega arith)))

  listed-once : N < 65537 * 65537 → count_of z (list_from N 65536 1) ≡ 1
  listed-once n = count-once N h z each-hit 65536 1 (omega arith) H.some (omega (arith, root_below n))

factors-listed : (N : ℕ) → 0 < N → factors_of N ≡ list_from N 65536 1
unfolding factors_of
factors-listed zero p = absurd (omega arith)
factors-listed (suc n) p = refl

factor-above : (N a b : ℕ) → 0 < N → a * b ≡ N → 0 < a
factor-above N zero b p e = omega arith
factor-above N (suc a) b p e = omega arith

module _ (N : ℕ) (z : ℤ) (p : 0 < N) where
  pub divisor-once : N < 65537 * 65537 → nat_abs z ∣ N → count_of z (factors_of N) ≡ 1
  divisor-once n d = ap (count_of z) (factors-listed N p) ∙ by (dec_le (nat_abs z) (N / nat_abs z))
    where
      product_is : nat_abs z * (N / nat_abs z) ≡ N
      product_is = mul-div_cancel' (nat_abs z) d

      by : Dec (nat_abs z ≤ N / nat_abs z) → count_of z (list_from N 65536 1) ≡ 1
      by (yes a) = listed-once N (nat_abs z) (N / nat_abs z) z H (λ i f I. hit-small N (nat_abs z) (N / nat_abs z) i f H I) n
        where
          H : Factors N (nat_abs z) (N / nat_abs z)
          H = record { some = factor-above N (nat_abs z) (N / nat_abs z) p product_is; ordered = a; product = product_is }
      by (no a) = listed-once N (N / nat_abs z) (nat_abs z) z H (λ i f I. hit-large N (N / nat_abs z) (nat_abs z) i f H I) n
        where
          H : Factors N (N / nat_abs z) (nat_abs z)
          H = record { some = factor-above N (N / nat_abs z) (nat_abs z) p (mul_comm (N / nat_abs z) (nat_abs z) ∙ product_is); ordered = omega arith; product = mul_comm (N / nat_abs z) (nat_abs z) ∙ product_is }

  -- each entry of a marked number is of a divisor's size
  each-miss : (nat_abs z ∣ N → ⊥) → (i : ℕ) → 0 < i → count_of z (keep (is_small N i) (entries N i)) ≡ 0
  each-miss d i q = by (is_small N i) refl
    where
      by : (t : Bool) → is_small N i ≡ t → count_of z (keep t (entries N i)) ≡ 0
      by true e =
          let I = small-factors N i q e in
          let f = N / i in
          count_entries z N i I
          ∙ ap₂ (λ t u. digit t + cond (eqb (i * i) N) 0 (digit u)) (ne_eqb (nat_abs z) i (λ r. d (subst (λ m. nat_abs z ∣ m) (ap (λ x. x * f) r ∙ I.product) (dvd-mul_right (nat_abs z) f)))) (ne_eqb (nat_abs z) f (λ r. d (subst (λ m. nat_abs z ∣ m) (ap (λ x. i * x) r ∙ I.product) (dvd-mul_left (nat_abs z) i))))
          ∙ none (eqb (i * i) N)
        where
          none : (t : Bool) → 0 + cond t 0 0 ≡ 0
          none true = refl
          none false = refl
      by false e = count_none z

  miss-from : (nat_abs z ∣ N → ⊥) → (k i : ℕ) → 0 < i → count_of z (list_from N k i) ≡ 0
  unfolding list_from
  miss-from d zero i q = count_none z
  miss-from d (suc k) i q = count-append z (keep (is_small N i) (entries N i)) (list_from N k (suc i)) ∙ omega (arith, each-miss d i q, miss-from d k (suc i) (omega arith))

  pub other-never : (nat_abs z ∣ N → ⊥) → count_of z (factors_of N) ≡ 0
  other-never d = ap (count_of z) (factors-listed N p) ∙ miss-from d 65536 1 (omega arith)

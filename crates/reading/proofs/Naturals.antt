-- Digits and their number: a number has one spelling without leading zeros, which is read back.
use Rattle.std.specs.Prelude.{Option, Some, None}
use mathlib.Core.Path.{◌≡◌, refl, sym, ap, ◌∙◌}
use mathlib.Core.Bool.{Bool, true, false, cond}
use mathlib.Core.List.{List, [], ◌∷◌, ◌++◌}
use Prim.Native.Nat.{ℕ, ◌+◌, ◌*◌, ◌-◌, ◌/◌, ◌%◌, ◌^◌, ◌<◌, ◌≤◌}
use native.Mathlib.Omega.{arith}
use native.Mathlib.Nat.{pow-le-pow_right}
use borrow.Author.Tests.{lt-ltb, le-ltb, ne_eqb, ltb-true, ltb-false, eqb-false}
use lib.Dec.{ltb, eqb}
use lib.ListN.{length, get_or, length-append, get_or-append}
use Rattle.tokens.specs.Spelling.{digit_of, number_of, natural_of}
use Rattle.tokens.proofs.Digits.{below}
use Rattle.text.specs.Spell.{decimal_of}
use Rattle.text.proofs.Decimal.{decimal-one, decimal-more, decimal-every, decimal-19}

-- ---- one digit

digit-of : (d : ℕ) → d < 10 → digit_of (48 + d) ≡ d
unfolding digit_of
digit-of d h = rw (le-ltb (48 + d) 48 (omega arith), lt-ltb (48 + d) 58 (omega arith)) (omega arith)

digit-cases : (b : ℕ) (t u v w : Bool) → ltb b 48 ≡ t → ltb b 97 ≡ v → cond t 16 (cond u (b - 48) (cond v 16 (cond w (b - 87) 16))) < 10 → b ≡ 48 + cond t 16 (cond u (b - 48) (cond v 16 (cond w (b - 87) 16)))
digit-cases b true u v w e f h = absurd (omega arith)
digit-cases b false true v w e f h = omega (arith, ltb-false b 48 e)
digit-cases b false false true w e f h = absurd (omega arith)
digit-cases b false false false true e f h = absurd (omega (arith, ltb-false b 97 f))
digit-cases b false false false false e f h = absurd (omega arith)

digit-is : (b : ℕ) → digit_of b < 10 → b ≡ 48 + digit_of b
unfolding digit_of
digit-is b h = digit-cases b (ltb b 48) (ltb b 58) (ltb b 97) (ltb b 103) refl refl h

-- ---- a digit more at the end

abbrev grown : Option ℕ → ℕ → Option ℕ
grown (Some v) b = cond (ltb (digit_of b) 10) (Some (v * 10 + digit_of b)) None
grown None b = None

grown-chosen : (t : Bool) (x y : Option ℕ) (b : ℕ) → x ≡ grown y b → cond t x None ≡ grown (cond t y None) b
grown-chosen true x y b h = h
grown-chosen false x y b h = refl

number_more : (l : List ℕ) (n b : ℕ) → number_of 10 n (l ++ (b ∷ [])) ≡ grown (number_of 10 n l) b
unfolding number_of
number_more [] n b = refl
number_more (a ∷ l) n b = grown-chosen (ltb (digit_of a) 10) _ _ b (number_more l (n * 10 + digit_of a) b)

-- ---- what is written is read

record Spelt (n : ℕ) (s : List ℕ) : Type 0 where
  pub number : number_of 10 0 s ≡ Some n
  pub some : 0 < length s
  pub head : 0 < n → get_or s 0 0 ≡ 48 → ⊥
  pub single : n ≡ 0 → length s ≡ 1

spelt-one : (d : ℕ) → d < 10 → Spelt d ((48 + d) ∷ [])
unfolding number_of
spelt-one d h = record { number = rw (digit-of d h, lt-ltb d 10 h) (ap Some (omega arith)); some = omega arith; head = λ p e. omega arith; single = λ z. refl }

spelt-more : (n d : ℕ) (s : List ℕ) → 0 < n → d < 10 → Spelt n s → Spelt (n * 10 + d) (s ++ ((48 + d) ∷ []))
spelt-more n d s p h a = record {
  number = number_more s 0 (48 + d) ∙ ap (λ x. grown x (48 + d)) a.number ∙ rw (digit-of d h, lt-ltb d 10 h);
  some = rw length-append (omega (arith, a.some));
  head = λ q e. a.head p (sym (get_or-append s ((48 + d) ∷ []) 0 0 a.some) ∙ e);
  single = λ z. absurd (omega arith);
}

natural-from : (l : List ℕ) → 0 < length l → length l ≤ 19 → (1 < length l → get_or l 0 0 ≡ 48 → ⊥) → natural_of l ≡ number_of 10 0 l
unfolding natural_of
natural-from [] h k f = absurd (omega arith)
natural-from (a ∷ []) h k f = refl
natural-from (a ∷ b ∷ l) h k f = rw (le-ltb 17 (length l) (omega arith), ne_eqb a 48 (f (omega arith)))

pub natural-read : (n : ℕ) → n < 9223372036854775808 → natural_of (decimal_of n) ≡ Some n
natural-read n h =
    let a : Spelt n (decimal_of n) = decimal-every Spelt spelt-one spelt-more n (omega arith) in
    natural-from (decimal_of n) a.some (decimal-19 n h) (λ k e. a.head (let f : n ≡ 0 → ⊥ = λ z. omega (arith, a.single z) in omega arith) e) ∙ a.number

-- ---- what is read was written

-- what digits have to be
record Digits (l : List ℕ) (n : ℕ) : Type 0 where
  pub number : number_of 10 0 l ≡ Some n
  pub some : 0 < length l
  pub few : length l ≤ 19
  pub head : 1 < length l → get_or l 0 0 ≡ 48 → ⊥

digits-chosen : (a b : ℕ) (l : List ℕ) (n : ℕ) (t u : Bool) → ltb 17 (length l) ≡ t → eqb a 48 ≡ u → cond t None (cond u None (number_of 10 0 (a ∷ b ∷ l))) ≡ Some n → Digits (a ∷ b ∷ l) n
digits-chosen a b l n true u e f h = let z : ◌≡◌ {A = ℕ} 0 1 = cc in absurd (omega arith)
digits-chosen a b l n false true e f h = let z : ◌≡◌ {A = ℕ} 0 1 = cc in absurd (omega arith)
digits-chosen a b l n false false e f h = record { number = h; some = omega arith; few = omega (arith, ltb-false 17 (length l) e); head = λ _ q. eqb-false a 48 f q }

digits_of : (l : List ℕ) (n : ℕ) → natural_of l ≡ Some n → Digits l n
unfolding natural_of
digits_of [] n h = let z : ◌≡◌ {A = ℕ} 0 1 = cc in absurd (omega arith)
digits_of (a ∷ []) n h = record { number = h; some = omega arith; few = omega arith; head = λ k e. absurd (omega arith) }
digits_of (a ∷ b ∷ l) n h = digits-chosen a b l n (ltb 17 (length l)) (eqb a 48) refl refl h

-- a list, from its end
data Ends : List ℕ → Type 0 where
  none : Ends []
  more : {l : List ℕ} (b : ℕ) → Ends l → Ends (l ++ (b ∷ []))

front : (a : ℕ) {l : List ℕ} → Ends l → Ends (a ∷ l)
front a none = more a none
front a (more b e) = more b (front a e)

ends : (l : List ℕ) → Ends l
ends [] = none
ends (a ∷ l) = front a (ends l)

-- the number before the last digit
record Before (x : Option ℕ) (b n : ℕ) : Type 0 where
  pub value : ℕ
  pub number : x ≡ Some value
  pub low : digit_of b < 10
  pub is : n ≡ value * 10 + digit_of b

before-chosen : (v b n : ℕ) (t : Bool) → ltb (digit_of b) 10 ≡ t → cond t (Some (v * 10 + digit_of b)) None ≡ Some n → Before (Some v) b n
before-chosen v b n true e h = record { value = v; number = refl; low = ltb-true (digit_of b) 10 e; is = cc }
before-chosen v b n false e h = let z : ◌≡◌ {A = ℕ} 0 1 = cc in absurd (omega arith)

before_of : (x : Option ℕ) (b n : ℕ) → grown x b ≡ Some n → Before x b n
before_of (Some v) b n h = before-chosen v b n (ltb (digit_of b) 10) refl h
before_of None b n h = let z : ◌≡◌ {A = ℕ} 0 1 = cc in absurd (omega arith)

record Back (l : List ℕ) (n : ℕ) : Type 0 where
  pub text : l ≡ decimal_of n
  pub bound : n < 10 ^ length l

back_one : (b n : ℕ) → Before (Some 0) b n → Back (b ∷ []) n
back_one b n h =
    let z : 0 ≡ h.value = cc in
    let k : n ≡ digit_of b = omega (arith, h.is) in
    record { text = ap (λ x. x ∷ []) (digit-is b h.low ∙ ap (λ d. 48 + d) (sym k)) ∙ sym (decimal-one n (omega (arith, h.low))); bound = omega (arith, h.low) }

back_more : (m : List ℕ) (b n v : ℕ) → 0 < length m → length m ≤ 18 → (get_or m 0 0 ≡ 48 → ⊥) → digit_of b < 10 → n ≡ v * 10 + digit_of b → Back m v → Back (m ++ (b ∷ [])) n
back_more m b n v s f h low is k =
    let g : v ≡ 0 → ⊥ = λ z. h (ap (λ l. get_or l 0 0) (k.text ∙ ap decimal_of z ∙ decimal-one 0 (omega arith))) in
    let p : 0 < v = omega (arith, g) in
    let q : 10 ^ length m ≤ 10 ^ 18 = pow-le-pow_right (omega arith) f in
    let c : n < 10 ^ (length m + 1) = rw is (below 10 v (digit_of b) (length m) low k.bound) in
    let r : n / 10 ≡ v = omega arith in
    let t : n % 10 ≡ digit_of b = omega arith in
    record {
      text = ap (λ x. x ++ (b ∷ [])) k.text ∙ ap (λ x. decimal_of v ++ (x ∷ [])) (digit-is b low) ∙ sym (decimal-more n (omega arith) (omega (arith, k.bound)) ∙ rw (r, t));
      bound = rw length-append c;
    }

back : {l : List ℕ} → Ends l → (n : ℕ) → Digits l n → Back l n
unfolding number_of
back none n d = absurd (omega (arith, d.some))
back (more b none) n d = back_one b n (before_of (Some 0) b n (sym (number_more [] 0 b) ∙ d.number))
back (more b (more {l = l} c e)) n d =
    let k : length (l ++ (c ∷ [])) ≡ length l + 1 = length-append l (c ∷ []) in
    let j : length ((l ++ (c ∷ [])) ++ (b ∷ [])) ≡ length (l ++ (c ∷ [])) + 1 = length-append (l ++ (c ∷ [])) (b ∷ []) in
    let w = before_of (number_of 10 0 (l ++ (c ∷ []))) b n (sym (number_more (l ++ (c ∷ [])) 0 b) ∙ d.number) in
    let h : get_or (l ++ (c ∷ [])) 0 0 ≡ 48 → ⊥ = λ q. d.head (omega arith) (get_or-append (l ++ (c ∷ [])) (b ∷ []) 0 0 (omega arith) ∙ q) in
    let f : length (l ++ (c ∷ [])) ≤ 18 = omega (arith, d.few) in
    back_more (l ++ (c ∷ [])) b n w.value (omega arith) f h w.low w.is
    (back (more c e) w.value (record { number = w.number; some = omega arith; few = omega arith; head = λ _ q. h q }))

pub natural-spelt : (l : List ℕ) (n : ℕ) → natural_of l ≡ Some n → l ≡ decimal_of n
natural-spelt l n h = (back (ends l) n (digits_of l n h)).text

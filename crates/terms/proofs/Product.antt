-- Laws of the product: spare places behind it stay as they are, and a loop that has added i rows and j places of the next, its turns, its end and its refusals.
use Rattle.std.specs.Prelude.{Ok, Err}
use mathlib.Core.Path.{◌≡◌, refl, sym, ap, ◌∙◌}
use mathlib.Core.Bool.{Bool, true, false}
use mathlib.Core.List.{List, [], ◌∷◌, ◌++◌}
use Prim.Native.Nat.{ℕ, suc, ◌+◌, ◌-◌, ◌<◌, ◌≤◌}
use native.Mathlib.Numerals.{add-one}
use native.Mathlib.Omega.{arith}
use borrow.Author.Tests.{lt-ltb, le-ltb, lt-leb, le-leb}
use lib.ListN.{length, take, drop, get_or, set, replicate, length-set, length-replicate, replicate-append-replicate, drop_of_length-le, get_or-append}
use lib.Seq.{drop-cons, set-append_left, take_at}
use Rattle.ratio.specs.Refusal.{zero_r}
use Rattle.ratio.specs.declared.Ratio.{Ratio}
use Rattle.ratio.specs.Step.{add_of, mul_of}
use Rattle.ratio.specs.declared.Reason.{Reason}
use Rattle.ratio.specs.declared.Reason.TheVariants.{CoeffOverflow, TooLong}
use Rattle.terms.specs.declared.Row.{Row}
use Rattle.terms.specs.Poly.{drop_top, poly_of, trim}
use Rattle.terms.specs.Machine.{plus, times, Ran, fine, over, and_then, Machine, plain, Op}
use Rattle.terms.specs.Work.{nil, rowed, rows, multiplied}
use Rattle.terms.proofs.Long.{Long, rowed-long, multiplied-long}
use Rattle.terms.specs.Answer.{done_with, refused_with, answer_of, product_of, row_of, op_if, row_over, row_given}

-- ---- spare places

-- the result with zs behind it
abbrev pub behind : {W Log : Type 0} → List W → Ran Log (List W) → Ran Log (List W)
behind zs (fine log l) = fine log (l ++ zs)
behind zs (over log) = over log

behind-then : {W X Log : Type 0} (zs : List X) (r : Ran Log W) (f g : Log → W → Ran Log (List X)) → ((log : Log) (x : W) → f log x ≡ behind zs (g log x)) → and_then r f ≡ behind zs (and_then r g)
behind-then zs (fine log x) f g h = h log x
behind-then zs (over log) f g h = refl

-- the same where what comes next needs that the list before has n elements
behind-next : {W Log : Type 0} (zs : List W) (n : ℕ) (r : Ran Log (List W)) (f : Log → List W → Ran Log (List W)) → Long n r → ((log : Log) (l : List W) → length l ≡ n → f log (l ++ zs) ≡ behind zs (f log l)) → and_then (behind zs r) f ≡ behind zs (and_then r f)
behind-next zs n (fine log l) f e h = h log l e
behind-next zs n (over log) f e h = refl

module _ {W Log : Type 0} (M : Machine W Log) where
  pub rowed-behind : (op : Op) (acc zs : List W) (k : ℕ) (x : W) (b : List W) (log : Log) → k + length b ≤ length acc → rowed M op (acc ++ zs) k x b log ≡ behind zs (rowed M op acc k x b log)
  unfolding rowed
  rowed-behind op acc zs k x [] log h = refl
  rowed-behind op acc zs k x (y ∷ b) log h =
      behind-then zs (M.make times x y log) _ _ (λ log t.
      rw (get_or-append acc zs (nil M) k (omega arith))
      (behind-then zs (M.make op (get_or acc k (nil M)) t log) _ _ (λ log s.
      rw (set-append_left acc zs k s (omega arith)) (rowed-behind op (set acc k s) zs (k + 1) x b log (rw (length-set acc k s) (omega arith))))))

  pub rows_behind : (acc zs : List W) (k : ℕ) (a b : List W) (log : Log) → k + length a + length b ≤ length acc + 1 → rows M (acc ++ zs) k a b log ≡ behind zs (rows M acc k a b log)
  unfolding rows
  rows_behind acc zs k [] b log h = refl
  rows_behind acc zs k (x ∷ a) b log h =
      rw (rowed-behind plus acc zs k x b log (omega arith))
      (behind-next zs (length acc) (rowed M plus acc k x b log) _ (rowed-long M plus (length acc) acc k x b log refl) (λ log l e. rows_behind l zs (k + 1) a b log (omega arith)))

-- ---- the answer of a row

pub row_fine : (r : Ran ℕ (List Ratio)) (w : Row) → w ≡ row_of r → w.fine ≡ true → r ≡ fine w.steps w.acc
row_fine (fine k l) w e t = rw e
row_fine (over k) w e t = let f : w.fine ≡ false = ap (λ (v : Row). v.fine) e in absurd (let z : ◌≡◌ {A = ℕ} 0 1 = cc in omega arith)

pub row-over : (r : Ran ℕ (List Ratio)) (w : Row) → w ≡ row_of r → w.fine ≡ false → r ≡ over w.steps
row-over (fine k l) w e t = let f : w.fine ≡ true = ap (λ (v : Row). v.fine) e in absurd (let z : ◌≡◌ {A = ℕ} 0 1 = cc in omega arith)
row-over (over k) w e t = rw e

-- ---- the loop

-- what is left of row k once its first j places are added, and of the rows after it
abbrev left : List Ratio → List Ratio → ℕ → ℕ → List Ratio → ℕ → Ran ℕ (List Ratio)
left [] b k j acc steps = fine steps acc
left (x ∷ a) b k j acc steps = and_then (rowed plain plus acc (k + j) x (drop j b) steps) (λ steps acc. rows plain acc (k + 1) a b steps)

left-whole : (a b : List Ratio) (k : ℕ) (acc : List Ratio) (steps : ℕ) → left a b k 0 acc steps ≡ rows plain acc k a b steps
unfolding rows
left-whole [] b k acc steps = refl
left-whole (x ∷ a) b k acc steps =
    let e : k + 0 ≡ k = omega arith in
    rw e

module _ (a b : List Ratio) where
  -- what is left gives the whole product, in 32 places
  pub record Summed (i j steps : ℕ) (acc : List Ratio) : Type 0 where
    pub whole : left (drop i a) b i j acc steps ≡ rows plain (replicate 32 zero_r) 0 a b 0

  pub summed-none : Summed 0 0 0 (replicate 32 zero_r)
  summed-none = record { whole = left-whole a b 0 (replicate 32 zero_r) 0 }

  module _ (i j steps : ℕ) (acc : List Ratio) (h : i < length a) (s : Summed i j steps acc) where
    -- a row is done
    pub summed-row : length b ≤ j → Summed (i + 1) 0 steps acc
    unfolding rowed
    summed-row k =
        let e : drop j b ≡ [] = drop_of_length-le b k in
        record { whole = left-whole (drop (i + 1) a) b (i + 1) acc steps ∙ ap (λ (m : ℕ). rows plain acc (i + 1) (drop m a) b steps) (add-one i) ∙ (rw (drop-cons a i zero_r h, e) at s.whole) }

    module _ (k : j < length b) where
      pub summed-place : (t r : Ratio) → mul_of (get_or a i zero_r) (get_or b j zero_r) ≡ Ok t → add_of (get_or acc (i + j) zero_r) t ≡ Ok r → Summed i (j + 1) (steps + 2) (set acc (i + j) r)
      unfolding rowed
      summed-place t r e f =
          let m : i + (j + 1) ≡ i + j + 1 = omega arith in
          let n : steps + 2 ≡ suc (suc steps) = omega arith in
          record { whole = rw (drop-cons a i zero_r h, m, n, add-one j) (rw (drop-cons a i zero_r h, drop-cons b j zero_r k, e, f) at s.whole) }

      pub times-over : (why : Reason) → mul_of (get_or a i zero_r) (get_or b j zero_r) ≡ Err why → over (steps + 1) ≡ rows plain (replicate 32 zero_r) 0 a b 0
      unfolding rowed
      times-over why e = rw (add-one steps) (rw (drop-cons a i zero_r h, drop-cons b j zero_r k, e) at s.whole)

      pub plus-over : (t : Ratio) (why : Reason) → mul_of (get_or a i zero_r) (get_or b j zero_r) ≡ Ok t → add_of (get_or acc (i + j) zero_r) t ≡ Err why → over (steps + 2) ≡ rows plain (replicate 32 zero_r) 0 a b 0
      unfolding rowed
      plus-over t why e f =
          let n : steps + 2 ≡ suc (suc steps) = omega arith in
          rw n (rw (drop-cons a i zero_r h, drop-cons b j zero_r k, e, f) at s.whole)

  summed-all : (i j steps : ℕ) (acc : List Ratio) → length a ≤ i → Summed i j steps acc → fine steps acc ≡ rows plain (replicate 32 zero_r) 0 a b 0
  summed-all i j steps acc h s =
      let e : drop i a ≡ [] = drop_of_length-le a h in
      rw e at s.whole

  -- in 32 places the product has zeros behind it
  spare : length a + length b ≤ 33 → rows plain (replicate 32 zero_r) 0 a b 0 ≡ behind (replicate (32 - (length a + length b - 1)) zero_r) (multiplied plain a b 0)
  unfolding multiplied
  spare h =
      let n : length a + length b - 1 + (32 - (length a + length b - 1)) ≡ 32 = omega arith in
      ap (λ (l : List Ratio). rows plain l 0 a b 0) (ap (λ (m : ℕ). replicate m zero_r) (sym n) ∙ sym (replicate-append-replicate (length a + length b - 1) (32 - (length a + length b - 1)) zero_r))
      ∙ rows_behind plain (replicate (length a + length b - 1) zero_r) (replicate (32 - (length a + length b - 1)) zero_r) 0 a b 0 (rw length-replicate (omega arith))

-- a result without what stands behind it
before-fine : (zs : List Ratio) (n : ℕ) (r : Ran ℕ (List Ratio)) (k : ℕ) (l : List Ratio) → Long n r → fine k l ≡ behind zs r → fine k (take n l) ≡ r
before-fine zs n (fine j m) k l e p =
    let f : k ≡ j = cc in
    let g : l ≡ m ++ zs = cc in
    rw (f, g, take_at m zs n e)
before-fine zs n (over j) k l e p = absurd (let z : ◌≡◌ {A = ℕ} 0 1 = cc in omega arith)

before-over : (zs : List Ratio) (r : Ran ℕ (List Ratio)) (k : ℕ) → over k ≡ behind zs r → over k ≡ r
before-over zs (fine j m) k p = absurd (let z : ◌≡◌ {A = ℕ} 0 1 = cc in omega arith)
before-over zs (over j) k p = p

-- ---- the answer

some-some : (a b : List Ratio) → 0 < length a → 0 < length b → length a + length b ≤ 33 → product_of a b ≡ answer_of (multiplied plain a b 0)
unfolding product_of
some-some [] b h k l = absurd (omega arith)
some-some (x ∷ a) [] h k l = absurd (omega arith)
some-some (x ∷ a) (y ∷ b) h k l = rw (le-ltb 32 (length (x ∷ a) + length (y ∷ b) - 1) (omega arith))

pub product-long : (a b : List Ratio) → 0 < length a → 0 < length b → 33 < length a + length b → refused_with TooLong 0 ≡ product_of a b
unfolding product_of
product-long [] b h k l = absurd (omega arith)
product-long (x ∷ a) [] h k l = absurd (omega arith)
product-long (x ∷ a) (y ∷ b) h k l = rw (lt-ltb 32 (length (x ∷ a) + length (y ∷ b) - 1) (omega arith))

pub none_left : (a b : List Ratio) → length a ≡ 0 → done_with (poly_of []) 0 ≡ product_of a b
unfolding product_of drop_top
none_left [] b h = refl
none_left (x ∷ a) b h = absurd (omega arith)

pub none_right : (a b : List Ratio) → length b ≡ 0 → done_with (poly_of []) 0 ≡ product_of a b
unfolding product_of drop_top
none_right [] b h = refl
none_right (x ∷ a) [] h = refl
none_right (x ∷ a) (y ∷ b) h = absurd (omega arith)

module _ (a b : List Ratio) (p : 0 < length a) (q : 0 < length b) (h : length a + length b ≤ 33) where
  pub product-refused : (steps : ℕ) → over steps ≡ rows plain (replicate 32 zero_r) 0 a b 0 → refused_with CoeffOverflow steps ≡ product_of a b
  product-refused steps e =
      ap answer_of (before-over _ (multiplied plain a b 0) steps (e ∙ spare a b h)) ∙ sym (some-some a b p q h)

  pub product-done : (i j steps : ℕ) (acc : List Ratio) → length a ≤ i → Summed a b i j steps acc → done_with (poly_of (trim (take (length a + length b - 1) acc))) steps ≡ product_of a b
  product-done i j steps acc k s =
      ap answer_of (before-fine _ (length a + length b - 1) (multiplied plain a b 0) steps acc (multiplied-long plain a b 0) (summed-all a b i j steps acc k s ∙ spare a b h)) ∙ sym (some-some a b p q h)

-- ---- a row for any caller

module _ (k : ℕ) (acc : List Ratio) (x : Ratio) (b : List Ratio) (subtract : Bool) (steps : ℕ) where
  pub row-wide : 32 < k + length b → row_over 0 ≡ row_given k acc x b subtract steps
  row-wide h = rw (lt-leb (k + length b) 32 h)

  pub row-late : k + length b ≤ 32 → 65536 < steps → row_over 0 ≡ row_given k acc x b subtract steps
  row-late h g = rw (le-leb (k + length b) 32 h, lt-leb steps 65536 g)

  pub row-given : k + length b ≤ 32 → steps ≤ 65536 → row_of (rowed plain (op_if subtract) acc k x b steps) ≡ row_given k acc x b subtract steps
  row-given h g = rw (le-leb (k + length b) 32 h, le-leb steps 65536 g)

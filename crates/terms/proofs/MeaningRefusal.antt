-- Document 01, module 3: an operation hands on a refused step's own refusal. With inputs in lowest terms that is always a step that left the range; a negation is never refused.
use Rattle.std.specs.Prelude.{Result, Ok, Err}
use mathlib.Core.Path.{◌≡◌, refl, sym}
use mathlib.Core.Bool.{Bool, true, false}
use mathlib.Core.Logic.{◌⊎◌, inl, inr}
use mathlib.Core.List.{List, [], ◌∷◌}
use Prim.Native.Nat.{ℕ, zero, suc, ◌+◌, ◌-◌, ◌≤◌, ◌<◌, max}
use native.Mathlib.Omega.{arith}
use native.Mathlib.Nat.{eq-one_of_dvd-one}
use borrow.Author.Tests.{ltb-true}
use lib.Dec.{ltb}
use lib.IntN.{pos}
use lib.ListN.{length, get_or, set, replicate}
use Rattle.ratio.specs.Promise.{Lowest}
use Rattle.ratio.specs.Range.{limit}
use Rattle.ratio.specs.Refusal.{zero_r, ratio_of}
use Rattle.ratio.specs.Step.{inv_of}
use Rattle.ratio.specs.declared.Ratio.{Ratio}
use Rattle.ratio.specs.declared.Reason.{Reason}
use Rattle.ratio.specs.declared.Reason.TheVariants.{CoeffOverflow, TooLong}
use Rattle.ratio.proofs.Steps.{one-lowest}
use Rattle.terms.specs.Machine.{Op, plus, times, Ran, fine, over, and_then, Machine, step_of, counted, whole_r, plain}
use Rattle.terms.specs.Answer.{answer_of, negated_of, unless_long, product_of}
use Rattle.terms.specs.Work.{each, zipped, scaled, derived, rowed, rows, multiplied, valued}
use Rattle.terms.proofs.MeaningStep.{fine-or-over, either-refused, step-lowest, step-either, turned-answered}
use Rattle.terms.proofs.MeaningLowest.{AllLowest, none-lowest, cons-lowest, zeros-lowest, set-lowest}

-- ---- the machine that notes what the last step answered

abbrev pub noted : Result Ratio Reason → Ran (Result Ratio Reason) Ratio
noted (Ok r) = fine (Ok r) r
noted (Err why) = over (Err why)

abbrev pub telling : Machine Ratio (Result Ratio Reason)
telling = record {
  make = λ op a b s. noted (step_of op a b);
  value = λ r. r;
  whole = whole_r;
  inverse = λ r. ratio_of (inv_of r);
}

-- both are answered alike, or both are refused, the second with a step that left the range
pub data Alike {X : Type 0} (P : X → Type 0) : Ran ℕ X → Ran (Result Ratio Reason) X → Type 0 where
  answered : {n : ℕ} {s : Result Ratio Reason} {x : X} → P x → Alike P (fine n x) (fine s x)
  refused : {n : ℕ} → Alike P (over n) (over (Err CoeffOverflow))

pub refused-overflows : {X : Type 0} {P : X → Type 0} {r : Ran ℕ X} {t : Ran (Result Ratio Reason) X} (n : ℕ) → Alike P r t → r ≡ over n → t ≡ over (Err CoeffOverflow)
refused-overflows n (answered {n = m} {x = x} p) e = absurd (fine-or-over n m x (sym e))
refused-overflows n refused e = refl

pub then-alike : {X Y : Type 0} {P : X → Type 0} {Q : Y → Type 0} {r : Ran ℕ X} {t : Ran (Result Ratio Reason) X} {k : ℕ → X → Ran ℕ Y} {u : Result Ratio Reason → X → Ran (Result Ratio Reason) Y}
    → Alike P r t → ((n : ℕ) (s : Result Ratio Reason) (x : X) → P x → Alike Q (k n x) (u s x)) → Alike Q (and_then r k) (and_then t u)
then-alike (answered {n = n} {s = s} {x = x} p) h = h n s x p
then-alike refused h = refused

pub make-alike : (op : Op) (a b : Ratio) (n : ℕ) (s : Result Ratio Reason) → Lowest a → Lowest b → Alike Lowest (plain.make op a b n) (telling.make op a b s)
make-alike op a b n s ha hb = go (step-either op a b ha.fraction hb.fraction)
  where
    go : ((r : Ratio) × (step_of op a b ≡ Ok r)) ⊎ (step_of op a b ≡ Err CoeffOverflow) → Alike Lowest (counted n (step_of op a b)) (noted (step_of op a b))
    go (inl (r, e)) = rw e (answered (step-lowest op a b r e))
    go (inr e) = rw e refused

-- ---- answers in a row

pub each-alike : (f : ℕ → ℕ → Ran ℕ Ratio) (g : ℕ → Result Ratio Reason → Ran (Result Ratio Reason) Ratio) (m : ℕ) → ((i n : ℕ) (s : Result Ratio Reason) → i < m → Alike Lowest (f i n) (g i s))
    → (k i n : ℕ) (s : Result Ratio Reason) → i + k ≤ m → Alike AllLowest (each f k i n) (each g k i s)
unfolding each
each-alike f g m h zero i n s b = answered none-lowest
each-alike f g m h (suc k) i n s b = then-alike (h i n s (omega arith)) (λ n s y p. then-alike (each-alike f g m h k (suc i) n s (omega arith)) (λ n s ys q. answered (cons-lowest y ys p q)))

pub whole-lowest : (n : ℕ) → n ≤ limit → Lowest (whole_r (pos n))
whole-lowest n h = record {
  fraction = record { num-within = h; den-within = omega arith; den-some = one-lowest.fraction.den-some };
  above = one-lowest.above;
  coprime = λ k x y. eq-one_of_dvd-one y;
}

module _ (n : ℕ) (s : Result Ratio Reason) where
  pub zipped-alike : (op : Op) (a b : List Ratio) → AllLowest a → AllLowest b → Alike AllLowest (zipped plain op a b n) (zipped telling op a b s)
  unfolding zipped
  zipped-alike op a b ha hb = each-alike _ _ (max (length a) (length b)) (λ i n s b. make-alike op _ _ n s (ha i) (hb i)) (max (length a) (length b)) 0 n s (omega arith)

  pub scaled-alike : (a : List Ratio) (c : Ratio) → AllLowest a → Lowest c → Alike AllLowest (scaled plain a c n) (scaled telling a c s)
  unfolding scaled
  scaled-alike a c ha hc = each-alike _ _ (length a) (λ i n s b. make-alike times _ _ n s (ha i) hc) (length a) 0 n s (omega arith)

  pub derived-alike : (a : List Ratio) → length a ≤ limit → AllLowest a → Alike AllLowest (derived plain a n) (derived telling a s)
  unfolding derived
  derived-alike a small ha = each-alike _ _ (length a - 1) (λ i n s b. make-alike times _ _ n s (ha (i + 1)) (whole-lowest (i + 1) (omega arith))) (length a - 1) 0 n s (omega arith)

pub each-answered : (f : ℕ → ℕ → Ran ℕ Ratio) → ((i n n' : ℕ) → f i n ≡ over n' → ⊥) → (k i n n' : ℕ) → each f k i n ≡ over n' → ⊥
unfolding each
each-answered f h zero i n n' e = fine-or-over n' n [] (sym e)
each-answered f h (suc k) i n n' e = go (either-refused (f i n) _ n' e) (each-answered f h k (suc i))
  where
    go : (f i n ≡ over n') ⊎ ((m : ℕ) × (y : Ratio) × (f i n ≡ fine m y) × (and_then (each f k (suc i) m) (λ n ys. fine n (y ∷ ys)) ≡ over n')) → ((m m' : ℕ) → each f k (suc i) m ≡ over m' → ⊥) → ⊥
    go (inl p) r = h i n n' p
    go (inr (m, y, p, q)) r = last (either-refused (each f k (suc i) m) _ n' q)
      where
        last : (each f k (suc i) m ≡ over n') ⊎ ((m' : ℕ) × (ys : List Ratio) × (each f k (suc i) m ≡ fine m' ys) × (fine m' (y ∷ ys) ≡ over n')) → ⊥
        last (inl p) = r m n' p
        last (inr (m', ys, p, q)) = fine-or-over n' m' (y ∷ ys) (sym q)

pub negated-answered : (a : List Ratio) → AllLowest a → (k : ℕ) → negated_of a ≡ over k → ⊥
unfolding negated_of
negated-answered a h k e = each-answered _ (λ i n n'. turned-answered (get_or a i zero_r) n n' (h i).fraction) (length a) 0 0 k e

-- ---- rows and values

pub rowed-alike : (op : Op) (b acc : List Ratio) (k : ℕ) (x : Ratio) (n : ℕ) (s : Result Ratio Reason) → AllLowest acc → Lowest x → AllLowest b → Alike AllLowest (rowed plain op acc k x b n) (rowed telling op acc k x b s)
unfolding rowed
rowed-alike op [] acc k x n s ha hx hb = answered ha
rowed-alike op (b ∷ bs) acc k x n s ha hx hb =
    then-alike (make-alike times x b n s hx (hb 0)) (λ n s t ht.
    then-alike (make-alike op (get_or acc k zero_r) t n s (ha k) ht) (λ n s r hr.
    rowed-alike op bs (set acc k r) (k + 1) x n s (set-lowest acc k r ha hr) hx (λ i. hb (suc i))))

pub rows_alike : (a acc : List Ratio) (k : ℕ) (b : List Ratio) (n : ℕ) (s : Result Ratio Reason) → AllLowest acc → AllLowest a → AllLowest b → Alike AllLowest (rows plain acc k a b n) (rows telling acc k a b s)
unfolding rows
rows_alike [] acc k b n s hc ha hb = answered hc
rows_alike (x ∷ a) acc k b n s hc ha hb = then-alike (rowed-alike plus b acc k x n s hc (ha 0) hb) (λ n s acc hc. rows_alike a acc (k + 1) b n s hc (λ i. ha (suc i)) hb)

pub multiplied-alike : (a b : List Ratio) (n : ℕ) (s : Result Ratio Reason) → AllLowest a → AllLowest b → Alike AllLowest (multiplied plain a b n) (multiplied telling a b s)
unfolding multiplied
multiplied-alike a b n s ha hb = rows_alike a (replicate (length a + length b - 1) zero_r) 0 b n s (zeros-lowest (length a + length b - 1)) ha hb

pub valued-alike : (a : List Ratio) (x power sum : Ratio) (n : ℕ) (s : Result Ratio Reason) → AllLowest a → Lowest x → Lowest power → Lowest sum → Alike Lowest (valued plain a x power sum n) (valued telling a x power sum s)
unfolding valued
valued-alike [] x power sum n s ha hx hp hs = answered hs
valued-alike (a ∷ l) x power sum n s ha hx hp hs =
    then-alike (make-alike times a power n s (ha 0) hp) (λ n s t ht.
    then-alike (make-alike plus sum t n s hs ht) (λ n s sum hs.
    then-alike (make-alike times power x n s hp hx) (λ n s power hp.
    valued-alike l x power sum n s (λ i. ha (suc i)) hx hp hs)))

-- ---- the refusal that is handed on

pub refused-only : {P : List Ratio → Type 0} {r : Ran ℕ (List Ratio)} {t : Ran (Result Ratio Reason) (List Ratio)} (why : Reason) → Alike P r t → (answer_of r).outcome ≡ Err why
    → (why ≡ CoeffOverflow) × (t ≡ over (Err CoeffOverflow))
refused-only why (answered p) e = let z : ◌≡◌ {A = ℕ} 0 1 = cc in absurd (omega arith)
refused-only why refused e = (cc, refl)

pub refused-where : {P : List Ratio → Type 0} {r : Ran ℕ (List Ratio)} {t : Ran (Result Ratio Reason) (List Ratio)} (s : Result Ratio Reason) → Alike P r t → t ≡ over s → (answer_of r).outcome ≡ Err CoeffOverflow
refused-where s (answered {s = u} {x = x} p) e = absurd (fine-or-over s u x (sym e))
refused-where s refused e = refl

-- a product is refused where it is too long, or a step left the range
pub product-refused : (a b : List Ratio) (s : Result Ratio Reason) (why : Reason) → AllLowest a → AllLowest b → (product_of a b).outcome ≡ Err why
    → ((why ≡ TooLong) × (32 < length a + length b - 1)) ⊎ ((why ≡ CoeffOverflow) × (multiplied telling a b s ≡ over (Err CoeffOverflow)))
unfolding product_of
product-refused [] b s why ha hb e = let z : ◌≡◌ {A = ℕ} 0 1 = cc in absurd (omega arith)
product-refused (x ∷ a) [] s why ha hb e = let z : ◌≡◌ {A = ℕ} 0 1 = cc in absurd (omega arith)
product-refused (x ∷ a) (y ∷ b) s why ha hb e = go (ltb 32 (length (x ∷ a) + length (y ∷ b) - 1)) refl e
  where
    go : (t : Bool) → ltb 32 (length (x ∷ a) + length (y ∷ b) - 1) ≡ t → (unless_long t (answer_of (multiplied plain (x ∷ a) (y ∷ b) 0))).outcome ≡ Err why
        → ((why ≡ TooLong) × (32 < length (x ∷ a) + length (y ∷ b) - 1)) ⊎ ((why ≡ CoeffOverflow) × (multiplied telling (x ∷ a) (y ∷ b) s ≡ over (Err CoeffOverflow)))
    go true f e = inl (cc, ltb-true _ _ f)
    go false f e = inr (refused-only why (multiplied-alike (x ∷ a) (y ∷ b) 0 s ha hb) e)

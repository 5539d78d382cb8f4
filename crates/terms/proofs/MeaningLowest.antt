-- The entries of answered work are in lowest terms.
use mathlib.Core.Path.{◌≡◌, subst}
use mathlib.Core.Bool.{Bool, true, false}
use mathlib.Core.List.{List, [], ◌∷◌}
use Prim.Native.Nat.{ℕ, zero, suc, ◌+◌, ◌-◌, ◌<◌, max}
use native.Mathlib.Omega.{arith}
use lib.IntN.{pos}
use lib.ListN.{length, get_or, take, set, replicate}
use Rattle.ratio.specs.Promise.{Lowest}
use Rattle.ratio.specs.Refusal.{zero_r}
use Rattle.ratio.specs.Step.{is_nil}
use Rattle.ratio.specs.declared.Ratio.{Ratio}
use Rattle.ratio.proofs.Steps.{zero-lowest}
use Rattle.terms.specs.Machine.{Op, plus, times, Ran, fine, whole_r, plain}
use Rattle.terms.specs.Answer.{negated_of}
use Rattle.terms.specs.Work.{each, zipped, scaled, derived, rowed, rows, multiplied, valued}
use Rattle.terms.specs.Poly.{on_top, drop_top, trim}
use Rattle.terms.proofs.MeaningStep.{same_answer, both-answered, made-lowest, turned-lowest}
use Rattle.terms.proofs.MeaningEach.{AnsweredAt, each_at, each-length}

-- each entry; past the end a list reads as 0/1
abbrev pub AllLowest : List Ratio → Type 0
AllLowest l = (i : ℕ) → Lowest (get_or l i zero_r)

-- ---- parts

pub none-lowest : AllLowest []
none-lowest i = zero-lowest

pub cons-lowest : (a : Ratio) (l : List Ratio) → Lowest a → AllLowest l → AllLowest (a ∷ l)
cons-lowest a l x h zero = x
cons-lowest a l x h (suc i) = h i

pub zeros-lowest : (n : ℕ) → AllLowest (replicate n zero_r)
zeros-lowest zero = none-lowest
zeros-lowest (suc n) = cons-lowest zero_r (replicate n zero_r) zero-lowest (zeros-lowest n)

pub set-lowest : (l : List Ratio) (k : ℕ) (s : Ratio) → AllLowest l → Lowest s → AllLowest (set l k s)
set-lowest [] k s h x = h
set-lowest (a ∷ l) zero s h x = cons-lowest s l x (λ i. h (suc i))
set-lowest (a ∷ l) (suc k) s h x = cons-lowest a (set l k s) (h 0) (set-lowest l k s (λ i. h (suc i)) x)

pub take-lowest : (n : ℕ) (l : List Ratio) → AllLowest l → AllLowest (take n l)
take-lowest zero l hs = none-lowest
take-lowest (suc n) [] hs = none-lowest
take-lowest (suc n) (a ∷ l) hs = cons-lowest a (take n l) (hs 0) (take-lowest n l (λ i. hs (suc i)))

-- up to the end is enough
pub all-lowest : (l : List Ratio) → ((i : ℕ) → i < length l → Lowest (get_or l i zero_r)) → AllLowest l
all-lowest [] h = none-lowest
all-lowest (a ∷ l) h = cons-lowest a l (h 0 (omega arith)) (all-lowest l (λ i b. h (suc i) (omega arith)))

on-top-lowest : (t : Bool) (a : Ratio) (l : List Ratio) → Lowest a → AllLowest l → AllLowest (on_top t a l)
on-top-lowest true a [] x h = none-lowest
on-top-lowest false a [] x h = cons-lowest a [] x h
on-top-lowest t a (b ∷ l) x h = cons-lowest a (b ∷ l) x h

pub trim-lowest : (l : List Ratio) → AllLowest l → AllLowest (trim l)
unfolding drop_top
trim-lowest [] h = h
trim-lowest (a ∷ l) h = on-top-lowest (is_nil a.num) a (trim l) (h 0) (trim-lowest l (λ i. h (suc i)))

-- ---- answers in a row

pub each-lowest : (f : ℕ → ℕ → Ran ℕ Ratio) (n k k' : ℕ) (l : List Ratio) → each f n 0 k ≡ fine k' l → ((i : ℕ) (r : Ratio) → AnsweredAt f i r → Lowest r) → AllLowest l
each-lowest f n k k' l e h =
    let s : length l ≡ n = each-length f n 0 k k' l e in
    all-lowest l (λ i b. h i (get_or l i zero_r) (each_at f n k k' l e zero_r i (omega arith)))

pub zipped-lowest : (op : Op) (a b : List Ratio) (k k' : ℕ) (l : List Ratio) → zipped plain op a b k ≡ fine k' l → AllLowest l
unfolding zipped
zipped-lowest op a b k k' l e = each-lowest _ (max (length a) (length b)) k k' l e (λ i r x. made-lowest (get_or a i zero_r) (get_or b i zero_r) x.before x.after r op x.is)

pub scaled-lowest : (a : List Ratio) (c : Ratio) (k k' : ℕ) (l : List Ratio) → scaled plain a c k ≡ fine k' l → AllLowest l
unfolding scaled
scaled-lowest a c k k' l e = each-lowest _ (length a) k k' l e (λ i r x. made-lowest (get_or a i zero_r) c x.before x.after r times x.is)

pub derived-lowest : (a : List Ratio) (k k' : ℕ) (l : List Ratio) → derived plain a k ≡ fine k' l → AllLowest l
unfolding derived
derived-lowest a k k' l e = each-lowest _ (length a - 1) k k' l e (λ i r x. made-lowest (get_or a (i + 1) zero_r) (whole_r (pos (i + 1))) x.before x.after r times x.is)

pub negated-lowest : (a : List Ratio) (k' : ℕ) (l : List Ratio) → negated_of a ≡ fine k' l → AllLowest l
unfolding negated_of
negated-lowest a k' l e = each-lowest _ (length a) 0 k' l e (λ i r x. turned-lowest (get_or a i zero_r) x.before x.after r x.is)

-- ---- rows

pub rowed-lowest : (op : Op) (b acc : List Ratio) (k : ℕ) (x : Ratio) (n n' : ℕ) (l : List Ratio) → AllLowest acc → rowed plain op acc k x b n ≡ fine n' l → AllLowest l
unfolding rowed
rowed-lowest op [] acc k x n n' l h e = subst AllLowest (same_answer n n' acc l e) h
rowed-lowest op (b ∷ bs) acc k x n n' l h e =
    let m = both-answered (plain.make times x b n) _ n' l e in
    let s = both-answered (plain.make op (get_or acc k zero_r) m.got m.log) _ n' l m.then in
    rowed-lowest op bs (set acc k s.got) (k + 1) x s.log n' l (set-lowest acc k s.got h (made-lowest (get_or acc k zero_r) m.got m.log s.log s.got op s.first)) s.then

pub rows-lowest : (a acc : List Ratio) (k : ℕ) (b : List Ratio) (n n' : ℕ) (l : List Ratio) → AllLowest acc → rows plain acc k a b n ≡ fine n' l → AllLowest l
unfolding rows
rows-lowest [] acc k b n n' l h e = subst AllLowest (same_answer n n' acc l e) h
rows-lowest (x ∷ a) acc k b n n' l h e =
    let m = both-answered (rowed plain plus acc k x b n) _ n' l e in
    rows-lowest a m.got (k + 1) b m.log n' l (rowed-lowest plus b acc k x n m.log m.got h m.first) m.then

pub multiplied-lowest : (a b : List Ratio) (k k' : ℕ) (l : List Ratio) → multiplied plain a b k ≡ fine k' l → AllLowest l
unfolding multiplied
multiplied-lowest a b k k' l e = rows-lowest a (replicate (length a + length b - 1) zero_r) 0 b k k' l (zeros-lowest (length a + length b - 1)) e

-- ---- the value at x

pub valued-lowest : (a : List Ratio) (x power sum : Ratio) (k k' : ℕ) (r : Ratio) → Lowest sum → valued plain a x power sum k ≡ fine k' r → Lowest r
unfolding valued
valued-lowest [] x power sum k k' r h e = subst Lowest (same_answer k k' sum r e) h
valued-lowest (a ∷ l) x power sum k k' r h e =
    let t = both-answered (plain.make times a power k) _ k' r e in
    let s = both-answered (plain.make plus sum t.got t.log) _ k' r t.then in
    let p = both-answered (plain.make times power x s.log) _ k' r s.then in
    valued-lowest l x p.got s.got p.log k' r (made-lowest sum t.got t.log s.log s.got plus s.first) p.then

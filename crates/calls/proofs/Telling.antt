-- What is told of an answer: how an input came in, the number handed back, the work behind an open door.
use Rattle.std.specs.Prelude.{Result, Ok, Err}
use mathlib.Core.Path.{◌≡◌, refl, sym, ap, ap₂, ◌∙◌}
use mathlib.Core.Bool.{true}
use mathlib.Core.List.{List, [], ◌∷◌, ◌++◌}
use Prim.Native.Nat.{ℕ, ◌+◌, ◌*◌, ◌%◌, ◌<◌, ◌≤◌}
use native.Mathlib.Numerals.{add-one}
use native.Mathlib.Omega.{arith}
use borrow.Author.Tests.{eq-eqb, ne_eqb}
use lib.IntN.{ℤ, pos}
use lib.ListN.{length, take, get_or, set}
use lib.Seq.{take_all, take-suc, take-suc-set}
use mir.Syntax.{w64}
use mir.Val.{SFits, of_z, to_z}
use mir.Facts.{to_z-of_z}
use Rattle.ratio.specs.Refusal.{number_of, status_of, zero_r, Outcome, no_refusal}
use Rattle.ratio.specs.Step.{is_lowest}
use Rattle.ratio.specs.declared.Ratio.{Ratio}
use Rattle.ratio.specs.declared.Reason.{Reason}
use Rattle.ratio.specs.declared.Reason.TheVariants as R
use Rattle.terms.specs.declared.Answer.{Answer}
use Rattle.terms.specs.declared.Poly.{Poly}
use Rattle.terms.specs.Poly.{terms_of}
use Rattle.terms.specs.Machine.{plus, minus, plain}
use Rattle.terms.specs.Work.{zipped}
use Rattle.terms.specs.Answer.{answer_of, product_of, value_of}
use Rattle.terms.proofs.Lists.{past, read-terms}
use Rattle.ratio.proofs.Fractions.{and-true}
use Rattle.poly.specs.declared.Gate.{Gate}
use Rattle.poly.specs.declared.Gate.TheVariants.{Open, Long, Bad}
use Rattle.poly.specs.Door.{all_lowest, open_if, door_of, door_of_ratio, both, reason_of}
use Rattle.poly.specs.Operations.{add_of, sub_of, mul_of, eval_of}
use Rattle.poly.proofs.Canonical.{opened-lowest}
use Rattle.poly.proofs.Doors.{Shut, shut-entered}
use Rattle.remainders.specs.declared.Division.{Division}
use Rattle.remainders.specs.Answer.{no_division, divided_of}
use Rattle.remainders.specs.Gcd.{gcd_of}
use Rattle.euclid.specs.Answer.{enter_division, div_rem_of, gcd_for}
use Rattle.calls.specs.Call.{gate_of, number_told, point_of, two_of, limits_of, called_with, lent_after, step_for, lent_step}

-- ---- how an input came in

module _ (o : Outcome) (w : Reason) (k : ℕ) (e : k ≡ number_of w) (f : o ≡ Err w) where
  pub gate-long : k ≡ 4 → Long ≡ gate_of o
  gate-long h = rw (f, eq-eqb (number_of w) 4 (sym e ∙ h))

  pub gate-bad : (k ≡ 4 → ⊥) → Bad ≡ gate_of o
  gate-bad h = rw (f, ne_eqb (number_of w) 4 (λ g. h (e ∙ g)))

-- ---- the number handed back

pub number-few : (w : Reason) → number_of w ≤ 8
number-few R.NotPolynomial = omega arith
number-few R.CoeffOverflow = omega arith
number-few R.DivByZero = omega arith
number-few R.TooLong = omega arith
number-few R.BadInput = omega arith
number-few (R.Malformed at) = omega arith
number-few R.Budget = omega arith
number-few R.TooDeep = omega arith
number-few R.NoRoom = omega arith

pub number-done : (o : Outcome) (k : ℕ) → o ≡ no_refusal → k % 72057594037927936 * 16 ≡ number_told o k
number-done o k e = rw e (omega arith)

pub number-refused : (o : Outcome) (k n : ℕ) (w : Reason) → o ≡ Err w → n ≡ number_of w → k % 72057594037927936 * 16 + n ≡ number_told o k
number-refused o k n w e f = rw (e, f)

-- ---- the constant term

pub no-point : (b : Poly) → length (terms_of b) ≡ 0 → zero_r ≡ point_of b
no-point b e = none (terms_of b) e
  where
    none : (l : List Ratio) → length l ≡ 0 → zero_r ≡ get_or l 0 zero_r
    none [] e = refl
    none (a ∷ l) e = absurd (omega arith)

pub a_point : (b : Poly) → (length (terms_of b) ≡ 0 → ⊥) → get_or b.coeffs 0 past ≡ point_of b
a_point b h = read-terms b.len b.coeffs 0 past zero_r (omega arith)

-- ---- behind the door

-- the constant term of what came through the door is in lowest terms
pub point-lowest : (b : Poly) → door_of b ≡ Open → door_of_ratio (point_of b) ≡ Open
unfolding all_lowest Rattle.ratio.specs.Gcd.gcd_of Rattle.ratio.specs.Gcd.gcd_by
point-lowest b e = ap open_if (first (terms_of b) (opened-lowest b e))
  where
    first : (l : List Ratio) → all_lowest l ≡ true → is_lowest (get_or l 0 zero_r) ≡ true
    first [] h = refl
    first (a ∷ l) h = (and-true (is_lowest a) _ h).0

module _ (a b : Poly) (ea : door_of a ≡ Open) (eb : door_of b ≡ Open) where
  pub open-add : answer_of (zipped plain plus (terms_of a) (terms_of b) 0) ≡ add_of a b
  open-add = rw (ea, eb)

  pub open-sub : answer_of (zipped plain minus (terms_of a) (terms_of b) 0) ≡ sub_of a b
  open-sub = rw (ea, eb)

  pub open-mul : product_of (terms_of a) (terms_of b) ≡ mul_of a b
  open-mul = rw (ea, eb)

  pub open-divide : divided_of (terms_of a) (terms_of b) ≡ div_rem_of a b
  open-divide = rw (ea, eb)

  pub open-gcd : answer_of (gcd_of plain (terms_of a) (terms_of b) 0) ≡ gcd_for a b
  open-gcd = rw (ea, eb)

  pub open-value : value_of (terms_of a) (point_of b) ≡ eval_of a (point_of b)
  open-value = rw (ea, point-lowest b eb)

-- ---- the arrays written

-- the first i of l stand in a
pub copied_more : (l a : List ℤ) (i : ℕ) (z : ℤ) → i < length l → length a ≡ length l → z ≡ get_or l i (pos 0) → take i a ≡ take i l → take (i + 1) (set a i z) ≡ take (i + 1) l
copied_more l a i z h n e f =
    ap (λ (k : ℕ). take k (set a i z)) (add-one i) ∙ take-suc-set a i z (omega arith) ∙ ap₂ (λ (m : List ℤ) (y : ℤ). m ++ (y ∷ [])) f e
    ∙ sym (ap (λ (k : ℕ). take k l) (add-one i) ∙ take-suc l i (pos 0) h)

pub copied_all : (l a : List ℤ) (i n : ℕ) → length a ≡ n → length l ≡ n → n ≤ i → take i a ≡ take i l → a ≡ l
copied_all l a i n e f h g = sym (take_all i a (omega arith)) ∙ g ∙ take_all i l (omega arith)

-- ---- both inputs

module _ (op n : ℕ) (a b : Answer) (d e ga gb gn : Gate) (fd : d ≡ both e gn) (fe : e ≡ both ga gb) (fa : ga ≡ gate_of a.outcome) (fb : gb ≡ gate_of b.outcome) (fn : gn ≡ limits_of op n) where
  abbrev same : d ≡ both (both (gate_of a.outcome) (gate_of b.outcome)) (limits_of op n)
  same = fd ∙ ap₂ both (fe ∙ ap₂ both fa fb) fn

  pub called-open : d ≡ Open → two_of op a.poly b.poly n ≡ called_with op a b n
  called-open h = ap (λ (g : Gate). enter_division g (two_of op a.poly b.poly n)) (sym h ∙ same)

  pub called-shut : Shut d → (w : Reason) → w ≡ reason_of d → (r : Division) → r ≡ no_division w 0 → r ≡ called_with op a b n
  called-shut s w f r g = shut-entered d _ same s w f (λ why. no_division why 0) (two_of op a.poly b.poly n) r g

-- ---- what is handed back and what is lent

-- the code's answer t is the model's answer m; out tells how it came out
module _ {A : Type 0} (out : A → Outcome) (t m : A) (e : t ≡ m) where
  pub told-number : (steps : A → ℕ) (k : ℕ) → k ≡ number_told (out t) (steps t) → k ≡ number_told (out m) (steps m)
  told-number steps k f = f ∙ ap (λ (a : A). number_told (out a) (steps a)) e

  pub wrote : {X : Type 0} (f : A → List X) (old new : List X) → out t ≡ no_refusal → new ≡ f t → new ≡ lent_after (out m) old (f m)
  wrote f old new h g = g ∙ ap (λ (o : Outcome). lent_after o old (f t)) (sym h) ∙ ap (λ (a : A). lent_after (out a) old (f a)) e

  pub kept : {X : Type 0} (old new : List X) (w : Reason) → out t ≡ Err w → old ≡ lent_after (out m) old new
  kept old new w h = ap (λ (o : Outcome). lent_after o old new) (sym h ∙ ap out e)

-- ---- a single step

-- a number as it is read from a word
abbrev read : ℤ → ℤ
read z = to_z w64 (of_z w64 z)

pub step-read : (op : ℕ) (a b x y : ℤ) → SFits w64 a → SFits w64 b → SFits w64 x → SFits w64 y
    → step_for op (record { num = read a; den = read b }) (record { num = read x; den = read y }) ≡ step_for op (record { num = a; den = b }) (record { num = x; den = y })
step-read op a b x y f g h k = rw (to_z-of_z f, to_z-of_z g, to_z-of_z h, to_z-of_z k)

module _ (m : Result Ratio Reason) (v : Ratio) (e : m ≡ Ok v) where
  pub step-done : 0 ≡ status_of m
  step-done = ap status_of (sym e)

  pub step-lent : (old : List ℤ) → SFits w64 v.num → SFits w64 v.den → read v.num ∷ read v.den ∷ [] ≡ lent_step old m
  step-lent old f g = ap₂ (λ (n d : ℤ). n ∷ d ∷ []) (to_z-of_z f) (to_z-of_z g) ∙ ap (lent_step old) (sym e)

module _ (m : Result Ratio Reason) (w : Reason) (e : m ≡ Err w) where
  pub step-refused : (k : ℕ) → k ≡ number_of w → k ≡ status_of m
  step-refused k f = f ∙ ap status_of (sym e)

  pub step_kept : (old : List ℤ) → old ≡ lent_step old m
  step_kept old = ap (lent_step old) (sym e)

-- Reading stays within the text.
use Rattle.ratio.specs.declared.Ratio.{Ratio}
use Rattle.std.specs.Prelude.{Result, Ok, Err, Option, Some, None, Float}
use mathlib.Core.Path.{◌≡◌, refl, sym, ap, ◌∙◌}
use mathlib.Core.Bool.{Bool, true, false, cond}
use mathlib.Core.List.{List, [], ◌∷◌}
use Prim.Native.Nat.{ℕ, suc, ◌+◌, ◌-◌, ◌≤◌}
use native.Mathlib.Omega.{arith}
use borrow.Author.Tests.{ltb-true}
use lib.Dec.{ltb, eqb}
use lib.ListN.{length, take, drop, length-drop}
use lib.Seq.{length-take-le}
use Rattle.ratio.specs.Refusal.{Outcome}
use Rattle.ratio.specs.declared.Reason.{Reason}
use Rattle.ratio.specs.declared.Reason.TheVariants as R
use Rattle.terms.specs.declared.Answer.{Answer}
use Rattle.terms.specs.declared.Poly.{Poly}
use Rattle.text.specs.Ascii.{bytes}
use Rattle.tokens.specs.Words.{length_to}
use Rattle.tokens.proofs.Words.{length-bounded}
use Rattle.reading.specs.Numbers.{ratio_from, float_from, budget_from}
use Rattle.reading.specs.Coefficients.{read_poly}
use Rattle.reading.proofs.Places.{poly-placed}
use Rattle.request.specs.declared.Cursor.{Cursor}
use Rattle.request.specs.declared.PolyLine.{PolyLine}
use Rattle.request.specs.declared.RatioLine.{RatioLine}
use Rattle.request.specs.declared.BudgetLine.{BudgetLine}
use Rattle.request.specs.declared.FloatLine.{FloatLine}
use Rattle.request.specs.declared.OpLine.{OpLine}
use Rattle.ops.specs.declared.Op.{Op}
use Rattle.request.specs.Ops.{begins, op_of, is_known}
use Rattle.request.specs.Lines.{stopped_at, standing_at, opened_at, end_of, value_at, closed_at, cursor_for, poly_by, poly_in, poly_line_of, ratio_by, ratio_line_of, budget_by, budget_line_of, limited_of, float_by, float_line_of}
use Rattle.request.specs.Request.{op_by, op_line_of, keys_of, a_of, b_of, x_of, budget_of, lo_of, hi_of}

-- one of two
pub chosen : {X : Type 0} (P : X → Type 0) (t : Bool) (a b : X) → P a → P b → P (cond t a b)
chosen P true a b x y = x
chosen P false a b x y = y

begins-next : (t u : Bool) (n m : ℕ) → (u ≡ true → n ≤ m) → cond t u false ≡ true → suc n ≤ suc m
begins-next true u n m h e = let k : n ≤ m = h e in omega arith
begins-next false u n m h e = let z : ◌≡◌ {A = ℕ} 0 1 = cc in absurd (omega arith)

pub begins-fits : (key s : List ℕ) → begins key s ≡ true → length key ≤ length s
unfolding begins
begins-fits [] s e = omega arith
begins-fits (k ∷ key) [] e = let z : ◌≡◌ {A = ℕ} 0 1 = cc in absurd (omega arith)
begins-fits (k ∷ key) (b ∷ s) e = begins-next (eqb b k) (begins key s) (length key) (length s) (begins-fits key s) e

-- a value ends within the text
pub part-within : (s : List ℕ) (at : ℕ) → at ≤ length s → end_of s at ≤ length s
part-within s at h = omega (arith, length-bounded 10 (drop at s), length-drop at s)

value-length : (s : List ℕ) (at : ℕ) → length (value_at s at) ≡ length_to 10 (drop at s)
value-length s at = length-take-le (length_to 10 (drop at s)) (drop at s) (length-bounded 10 (drop at s))

-- what the code reads is the value
pub value-is : (s : List ℕ) (at end : ℕ) → end ≡ end_of s at → take (end - at) (drop at s) ≡ value_at s at
value-is s at end e = let k : end - at ≡ length_to 10 (drop at s) = omega arith in rw k

opened-key : (s key : List ℕ) (c : Cursor) (t : Bool) → begins key (drop c.at s) ≡ t → c.at ≤ length s → (cond t (standing_at (c.at + length key) c.long) (stopped_at c.at)).at ≤ length s
opened-key s key c true e h = omega (arith, begins-fits key (drop c.at s) e, length-drop c.at s)
opened-key s key c false e h = h

pub opened-within : (s key : List ℕ) (c : Cursor) → c.at ≤ length s → (opened_at s key c).at ≤ length s
opened-within s key c h =
    chosen (λ (d : Cursor). d.at ≤ length s) c.bad c (cond (begins key (drop c.at s)) (standing_at (c.at + length key) c.long) (stopped_at c.at)) h
    (opened-key s key c (begins key (drop c.at s)) refl h)

closed-end : (s : List ℕ) (end : ℕ) (long t : Bool) → ltb end (length s) ≡ t → end ≤ length s → (cond t (standing_at (end + 1) long) (stopped_at end)).at ≤ length s
closed-end s end long true e h = omega (arith, ltb-true end (length s) e)
closed-end s end long false e h = h

pub closed-within : (s : List ℕ) (at : ℕ) (long : Bool) → at ≤ length s → (closed_at s (end_of s at) long).at ≤ length s
closed-within s at long h = closed-end s (end_of s at) long (ltb (end_of s at) (length s)) refl (part-within s at h)

-- ---- each line

module _ (s : List ℕ) (v : Cursor) (h : v.at ≤ length s) where
  reason-within : (why : Reason) → ((k : ℕ) → why ≡ R.Malformed k → v.at + k ≤ length s) → (cursor_for s v why).at ≤ length s
  reason-within (R.Malformed k) g = g k refl
  reason-within R.TooLong g = closed-within s v.at true h
  reason-within R.NotPolynomial g = closed-within s v.at true h
  reason-within R.CoeffOverflow g = closed-within s v.at true h
  reason-within R.DivByZero g = closed-within s v.at true h
  reason-within R.BadInput g = closed-within s v.at true h
  reason-within R.Budget g = closed-within s v.at true h
  reason-within R.TooDeep g = closed-within s v.at true h
  reason-within R.NoRoom g = closed-within s v.at true h

  outcome-within : (o : Outcome) (p : Poly) → ((k : ℕ) → o ≡ Err (R.Malformed k) → v.at + k ≤ length s) → (poly_by s v o p).cursor.at ≤ length s
  outcome-within (Ok _) p g = closed-within s v.at v.long h
  outcome-within (Err why) p g = reason-within why (λ k e. g k (ap Err e))

  -- a bad word's place
  pub bad-within : (k : ℕ) → (read_poly (value_at s v.at)).outcome ≡ Err (R.Malformed k) → v.at + k ≤ length s
  bad-within k e = omega (arith, poly-placed (value_at s v.at) k e, value-length s v.at, part-within s v.at h)

  poly-in : (poly_in s v).cursor.at ≤ length s
  poly-in = chosen (λ (d : PolyLine). d.cursor.at ≤ length s) v.bad _ _ h (outcome-within (read_poly (value_at s v.at)).outcome (read_poly (value_at s v.at)).poly bad-within)

  step-within : (r : Result Ratio Reason) → (ratio_by s v r).cursor.at ≤ length s
  step-within (Ok x) = closed-within s v.at v.long h
  step-within (Err why) = h

  number-within : (n : Option ℕ) → (budget_by s v n).cursor.at ≤ length s
  number-within (Some n) = closed-within s v.at v.long h
  number-within None = h

  real-within : (x : Option Float) → (float_by s v x).cursor.at ≤ length s
  real-within (Some x) = closed-within s v.at v.long h
  real-within None = h

  name-within : (op : Op) → (op_by s v op).cursor.at ≤ length s
  name-within op = chosen (λ (d : OpLine). d.cursor.at ≤ length s) (is_known op) _ _ (closed-within s v.at false h) h

-- the place of a bad word, as the code finds it
pub placed : (s : List ℕ) (v : Cursor) → v.at ≤ length s → (end : ℕ) → end ≡ end_of s v.at → (r : Answer) → r ≡ read_poly (take (end - v.at) (drop v.at s)) → {why : Reason} → r.outcome ≡ Err why → (k : ℕ) → why ≡ R.Malformed k → v.at + k ≤ length s
placed s v h end e r q o k m = bad-within s v h k (ap (λ (x : Answer). x.outcome) (sym (q ∙ ap read_poly (value-is s v.at end e))) ∙ o ∙ ap Err m)

module _ (s : List ℕ) (c : Cursor) (key : List ℕ) (wanted : Bool) (h : c.at ≤ length s) where
  pub poly-within : (poly_line_of s c key wanted).cursor.at ≤ length s
  unfolding poly_line_of
  poly-within = chosen (λ (d : PolyLine). d.cursor.at ≤ length s) wanted _ _ (poly-in s (opened_at s key c) (opened-within s key c h)) h

  pub ratio-within : (ratio_line_of s c key wanted).cursor.at ≤ length s
  unfolding ratio_line_of
  ratio-within =
      let o = opened-within s key c h in
      chosen (λ (d : RatioLine). d.cursor.at ≤ length s) wanted _ _ (chosen (λ (d : RatioLine). d.cursor.at ≤ length s) (opened_at s key c).bad _ _ o (step-within s (opened_at s key c) o (ratio_from (value_at s (opened_at s key c).at)))) h

  pub budget-within : (budget_line_of s c key wanted).cursor.at ≤ length s
  unfolding budget_line_of
  budget-within =
      let o = opened-within s key c h in
      chosen (λ (d : BudgetLine). d.cursor.at ≤ length s) wanted _ _
      (chosen (λ (d : BudgetLine). d.cursor.at ≤ length s) (begins key (drop c.at s)) _ _
      (chosen (λ (d : BudgetLine). d.cursor.at ≤ length s) (opened_at s key c).bad _ _ o (number-within s (opened_at s key c) o (budget_from (value_at s (opened_at s key c).at)))) h) h

  pub float-within : (tolerance : Bool) → (float_line_of s c key wanted tolerance).cursor.at ≤ length s
  unfolding float_line_of
  float-within tolerance =
      let o = opened-within s key c h in
      chosen (λ (d : FloatLine). d.cursor.at ≤ length s) wanted _ _ (chosen (λ (d : FloatLine). d.cursor.at ≤ length s) (opened_at s key c).bad _ _ o (real-within s (opened_at s key c) o (limited_of tolerance (float_from (value_at s (opened_at s key c).at))))) h

pub op-within : (s : List ℕ) → (op_line_of s).cursor.at ≤ length s
unfolding op_line_of
op-within s =
    let v = opened_at s (bytes "op=") (standing_at 0 false) in
    let o = opened-within s (bytes "op=") (standing_at 0 false) (omega arith) in
    chosen (λ (d : OpLine). d.cursor.at ≤ length s) v.bad _ _ o (name-within s v o (op_of (value_at s v.at)))

-- ---- the lines of a job

pub a-within : (s : List ℕ) → (a_of s).cursor.at ≤ length s
unfolding a_of
a-within s = poly-within s (op_line_of s).cursor (bytes "a=") true (op-within s)

pub b-within : (s : List ℕ) → (b_of s).cursor.at ≤ length s
unfolding b_of
b-within s = poly-within s (a_of s).cursor (bytes "b=") (keys_of s).b (a-within s)

pub x-within : (s : List ℕ) → (x_of s).cursor.at ≤ length s
unfolding x_of
x-within s = ratio-within s (b_of s).cursor (bytes "x=") (keys_of s).x (b-within s)

pub n_within : (s : List ℕ) → (budget_of s).cursor.at ≤ length s
unfolding budget_of
n_within s = budget-within s (x_of s).cursor (bytes "budget=") (keys_of s).budget (x-within s)

pub lo-within : (s : List ℕ) → (lo_of s).cursor.at ≤ length s
unfolding lo_of
lo-within s = float-within s (budget_of s).cursor (bytes "lo=") (keys_of s).ends (n_within s) false

pub hi-within : (s : List ℕ) → (hi_of s).cursor.at ≤ length s
unfolding hi_of
hi-within s = float-within s (lo_of s).cursor (bytes "hi=") (keys_of s).ends (lo-within s) false

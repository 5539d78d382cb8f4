-- What a job that is read holds, and with what a text is refused.
use Rattle.std.specs.Prelude.{Ok, Err}
use mathlib.Core.Path.{◌≡◌, refl, sym, ap, subst}
use mathlib.Core.Bool.{Bool, true, false, cond}
use mathlib.Core.List.{List}
use Prim.Native.Nat.{ℕ}
use native.Mathlib.Omega.{arith}
use lib.Dec.{ltb}
use lib.ListN.{length, drop}
use Rattle.ratio.specs.Refusal.{number_of, Outcome, no_refusal}
use Rattle.ratio.specs.declared.Reason.{Reason}
use Rattle.ratio.specs.declared.Reason.TheVariants as R
use Rattle.ratio.proofs.Steps.{zero-lowest}
use Rattle.text.specs.Ascii.{bytes}
use Rattle.reading.proofs.Polys.{zero-canonical}
use Rattle.ops.specs.declared.Op.{Op}
use Rattle.ops.specs.declared.Op.TheVariants.{Unknown}
use Rattle.request.specs.declared.BudgetLine.{BudgetLine}
use Rattle.request.specs.declared.Cursor.{Cursor}
use Rattle.request.specs.declared.OpLine.{OpLine}
use Rattle.request.specs.declared.Request.{Request}
use Rattle.request.specs.Ops.{begins, op_of, is_known, wants_of}
use Rattle.request.specs.Lines.{stopped_at, standing_at, opened_at, end_of, value_at, closed_at, poly_line_of, ratio_line_of, budget_line_of, float_line_of}
use Rattle.request.specs.Request.{op_by, op_line_of, keys_of, a_of, b_of, x_of, budget_of, lo_of, hi_of, tol_of, finished_at, refused_for, longest, made_by, made_of, request_of}
use Rattle.request.specs.Promise.{Job}
use Rattle.request.proofs.Within.{chosen}
use Rattle.request.proofs.Held.{poly-held, ratio-held, budget-held, end-held, tol-held, zero-inside}

-- ---- what is bad stays bad

module _ (s : List ℕ) (c : Cursor) (key : List ℕ) (b : c.bad ≡ true) where
  poly-stays : (wanted : Bool) → (poly_line_of s c key wanted).cursor.bad ≡ true
  unfolding poly_line_of
  poly-stays true = rw b
  poly-stays false = b

  ratio-stays : (wanted : Bool) → (ratio_line_of s c key wanted).cursor.bad ≡ true
  unfolding ratio_line_of
  ratio-stays true = rw b
  ratio-stays false = b

  budget-stays : (wanted : Bool) → (budget_line_of s c key wanted).cursor.bad ≡ true
  unfolding budget_line_of
  budget-stays true = rw b (chosen (λ (l : BudgetLine). l.cursor.bad ≡ true) (begins key (drop c.at s)) _ _ refl refl)
  budget-stays false = b

  float-stays : (wanted tolerance : Bool) → (float_line_of s c key wanted tolerance).cursor.bad ≡ true
  unfolding float_line_of
  float-stays true tolerance = rw b
  float-stays false tolerance = b

unknown-by : (s : List ℕ) (v : Cursor) (op : Op) (t : Bool) → is_known op ≡ t
    → (let l : OpLine = cond t (record { op = op; cursor = closed_at s (end_of s v.at) false }) (record { op = Unknown; cursor = stopped_at v.at }) in is_known l.op ≡ false → l.cursor.bad ≡ true)
unknown-by s v op true e h = let z : ◌≡◌ {A = ℕ} 0 1 = cc in absurd (omega arith)
unknown-by s v op false e h = refl

unknown-in : (s : List ℕ) (v : Cursor) (b : Bool) → v.bad ≡ b
    → (let l : OpLine = cond b (record { op = Unknown; cursor = v }) (op_by s v (op_of (value_at s v.at))) in is_known l.op ≡ false → l.cursor.bad ≡ true)
unknown-in s v true e h = e
unknown-in s v false e h = unknown-by s v (op_of (value_at s v.at)) (is_known (op_of (value_at s v.at))) refl h

unknown-bad : (s : List ℕ) → is_known (op_line_of s).op ≡ false → (op_line_of s).cursor.bad ≡ true
unfolding op_line_of
unknown-bad s h = let v = opened_at s (bytes "op=") (standing_at 0 false) in unknown-in s v v.bad refl h

unknown-last : (s : List ℕ) → is_known (op_line_of s).op ≡ false → (tol_of s).cursor.bad ≡ true
unfolding a_of b_of x_of budget_of lo_of hi_of tol_of
unknown-last s h =
    let a = poly-stays s (op_line_of s).cursor (bytes "a=") (unknown-bad s h) true in
    let b = poly-stays s (a_of s).cursor (bytes "b=") a (keys_of s).b in
    let x = ratio-stays s (b_of s).cursor (bytes "x=") b (keys_of s).x in
    let n = budget-stays s (x_of s).cursor (bytes "budget=") x (keys_of s).budget in
    let l = float-stays s (budget_of s).cursor (bytes "lo=") n (keys_of s).ends false in
    let k = float-stays s (lo_of s).cursor (bytes "hi=") l (keys_of s).ends false in
    float-stays s (hi_of s).cursor (bytes "tol=") k (keys_of s).tol true

-- ---- the end

finished-chosen : (at : ℕ) (b t l : Bool) → cond b (Err (R.Malformed at)) (cond t (Err (R.Malformed at)) (cond l (Err R.TooLong) no_refusal)) ≡ no_refusal → b ≡ false
finished-chosen at true t l h = let z : ◌≡◌ {A = ℕ} 0 1 = cc in absurd (omega arith)
finished-chosen at false t l h = refl

refused-chosen : (at : ℕ) (b t l : Bool) (why : Reason) → cond b (Err (R.Malformed at)) (cond t (Err (R.Malformed at)) (cond l (Err R.TooLong) no_refusal)) ≡ Err why → (number_of why ≡ 5 → ⊥) → number_of why ≡ 4
refused-chosen at true t l why h f = let z : R.Malformed at ≡ why = cc in absurd (f (sym (ap number_of z)))
refused-chosen at false true l why h f = let z : R.Malformed at ≡ why = cc in absurd (f (sym (ap number_of z)))
refused-chosen at false false true why h f = let z : R.TooLong ≡ why = cc in sym (ap number_of z)
refused-chosen at false false false why h f = let z : ◌≡◌ {A = ℕ} 0 1 = cc in absurd (omega arith)

known_by : (s : List ℕ) (t : Bool) → is_known (op_line_of s).op ≡ t → (tol_of s).cursor.bad ≡ false → t ≡ true
known_by s true e h = refl
known_by s false e h = let q = unknown-last s e in let z : ◌≡◌ {A = ℕ} 0 1 = cc in absurd (omega arith)

refused-holds : (op : Op) (why : Reason) → ((number_of why ≡ 5 → ⊥) → number_of why ≡ 4) → (number_of why ≡ 0 → ⊥) → Job (refused_for op why)
refused-holds op why f g = record {
  a-canonical = zero-canonical;
  b-canonical = zero-canonical;
  x-lowest = zero-lowest;
  lo-inside = zero-inside;
  hi-inside = zero-inside;
  known = λ z. absurd (g z);
  budget-some = λ z. absurd (g z);
  budget-most = omega arith;
  tol-limited = λ z. absurd (g z);
  refused = λ z h. f h;
}

not_done : (s : List ℕ) (c : Cursor) (why : Reason) → finished_at s c ≡ Err why → number_of why ≡ 0 → ⊥
not_done s c why e z = not_chosen c.at c.bad (ltb c.at (length s)) c.long why e z
  where
    not_chosen : (at : ℕ) (b t l : Bool) (why : Reason) → cond b (Err (R.Malformed at)) (cond t (Err (R.Malformed at)) (cond l (Err R.TooLong) no_refusal)) ≡ Err why → number_of why ≡ 0 → ⊥
    not_chosen at true t l why h z = let y : R.Malformed at ≡ why = cc in omega (arith, ap number_of y)
    not_chosen at false true l why h z = let y : R.Malformed at ≡ why = cc in omega (arith, ap number_of y)
    not_chosen at false false true why h z = let y : R.TooLong ≡ why = cc in omega (arith, ap number_of y)
    not_chosen at false false false why h z = let y : ◌≡◌ {A = ℕ} 0 1 = cc in omega arith

made_holds : (s : List ℕ) (o : Outcome) → finished_at s (tol_of s).cursor ≡ o → Job (made_by s o)
unfolding a_of b_of x_of budget_of lo_of hi_of tol_of
made_holds s (Ok _) e =
    let c = (tol_of s).cursor in
    let b : c.bad ≡ false = finished-chosen c.at c.bad (ltb c.at (length s)) c.long e in
    record {
      a-canonical = poly-held s (op_line_of s).cursor (bytes "a=") true;
      b-canonical = poly-held s (a_of s).cursor (bytes "b=") (keys_of s).b;
      x-lowest = ratio-held s (b_of s).cursor (bytes "x=") (keys_of s).x;
      lo-inside = end-held s (budget_of s).cursor (bytes "lo=") (keys_of s).ends;
      hi-inside = end-held s (lo_of s).cursor (bytes "hi=") (keys_of s).ends;
      known = λ z. known_by s (is_known (op_line_of s).op) refl b;
      budget-some = λ z. (budget-held s (x_of s).cursor (bytes "budget=") (keys_of s).budget).0;
      budget-most = (budget-held s (x_of s).cursor (bytes "budget=") (keys_of s).budget).1;
      tol-limited = λ z q. tol-held s (hi_of s).cursor (bytes "tol=") (keys_of s).tol (ap (λ o. (wants_of o).tol) q) b;
      refused = λ z. absurd (z refl);
    }
made_holds s (Err why) e =
    let c = (tol_of s).cursor in
    refused-holds (op_line_of s).op why (refused-chosen c.at c.bad (ltb c.at (length s)) c.long why e) (not_done s c why e)

request-holds : (s : List ℕ) → Job (request_of s)
unfolding request_of made_of
request-holds s =
    chosen Job (ltb longest (length s)) _ _ (refused-holds (op_line_of s).op (R.Malformed longest) (λ h. absurd (h refl)) (λ z. omega arith))
    (made_holds s (finished_at s (tol_of s).cursor) refl)

pub request-both : (s : List ℕ) {r : Request} → r ≡ request_of s → (r ≡ request_of s) × Job r
request-both s e = (e, subst Job (sym e) (request-holds s))

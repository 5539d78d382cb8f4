-- What each line holds lies within its limits.
use Rattle.ratio.specs.declared.Reason.{Reason}
use Rattle.ratio.specs.declared.Ratio.{Ratio}
use Rattle.std.specs.Prelude.{Result, Ok, Err, Option, Some, None}
use mathlib.Core.Path.{◌≡◌, refl, ap₂}
use mathlib.Core.Bool.{Bool, true, false, cond}
use mathlib.Core.List.{List}
use Prim.Native.Nat.{ℕ, ◌≤◌}
use native.Mathlib.Omega.{arith}
use borrow.Author.Tests.{ltb-false, eqb-false}
use lib.Dec.{ltb, eqb}
use lib.Ieee.{Float, binary64, of_bits, le, neg}
use lib.ListN.{drop}
use Rattle.ratio.specs.Promise.{Lowest}
use Rattle.ratio.specs.Refusal.{Outcome}
use Rattle.ratio.proofs.Steps.{zero-lowest}
use Rattle.terms.specs.declared.Answer.{Answer}
use Rattle.terms.specs.Answer.{done_with}
use Rattle.tokens.specs.Spelling.{natural_of}
use Rattle.sturm.specs.Count.{inside}
use Rattle.reading.specs.Numbers.{ratio_from, float_from, budget_of, budget_from}
use Rattle.reading.specs.Coefficients.{read_poly}
use Rattle.reading.specs.Promise.{CanonicalPoly}
use Rattle.reading.proofs.Polys.{ratio-both, poly-both, zero-canonical}
use Rattle.reading.proofs.Places.{poly-steps}
use Rattle.request.specs.declared.Cursor.{Cursor}
use Rattle.request.specs.declared.PolyLine.{PolyLine}
use Rattle.request.specs.declared.RatioLine.{RatioLine}
use Rattle.request.specs.declared.BudgetLine.{BudgetLine}
use Rattle.request.specs.declared.FloatLine.{FloatLine}
use Rattle.request.specs.Ops.{begins}
use Rattle.request.specs.Lines.{opened_at, value_at, poly_by, poly_line_of, ratio_by, ratio_line_of, budget_by, budget_line_of, is_limited, limited_of, no_float, float_by, float_line_of}
use Rattle.request.proofs.Within.{chosen}

-- ---- coefficients

poly-by : (s : List ℕ) (v : Cursor) (t : List ℕ) (o : Outcome) → (read_poly t).outcome ≡ o → CanonicalPoly (poly_by s v o (read_poly t).poly).poly
poly-by s v t (Ok _) e =
    let q : read_poly t ≡ done_with (read_poly t).poly 0 = ap₂ {C = Answer} (λ (o : Outcome) (n : ℕ). record { outcome = o; poly = (read_poly t).poly; steps = n }) e (poly-steps t) in
    (poly-both t {r = read_poly t} refl).1.canonical (read_poly t).poly q
poly-by s v t (Err why) e = zero-canonical

pub poly-held : (s : List ℕ) (c : Cursor) (key : List ℕ) (wanted : Bool) → CanonicalPoly (poly_line_of s c key wanted).poly
unfolding poly_line_of
poly-held s c key wanted =
    let v = opened_at s key c in
    chosen (λ (l : PolyLine). CanonicalPoly l.poly) wanted _ _ (chosen (λ (l : PolyLine). CanonicalPoly l.poly) v.bad _ _ zero-canonical (poly-by s v (value_at s v.at) (read_poly (value_at s v.at)).outcome refl)) zero-canonical

-- ---- a fraction

ratio-by : (s : List ℕ) (v : Cursor) (t : List ℕ) (r : Result Ratio Reason) → ratio_from t ≡ r → Lowest (ratio_by s v r).ratio
ratio-by s v t (Ok x) e = (ratio-both t {s = ratio_from t} refl).1.lowest x e
ratio-by s v t (Err why) e = zero-lowest

pub ratio-held : (s : List ℕ) (c : Cursor) (key : List ℕ) (wanted : Bool) → Lowest (ratio_line_of s c key wanted).ratio
unfolding ratio_line_of
ratio-held s c key wanted =
    let v = opened_at s key c in
    chosen (λ (l : RatioLine). Lowest l.ratio) wanted _ _ (chosen (λ (l : RatioLine). Lowest l.ratio) v.bad _ _ zero-lowest (ratio-by s v (value_at s v.at) (ratio_from (value_at s v.at)) refl)) zero-lowest

-- ---- a budget

abbrev Budgeted : ℕ → Type 0
Budgeted n = (1 ≤ n) × (n ≤ 65536)

budget-chosen : (m n : ℕ) (t u : Bool) → eqb m 0 ≡ t → ltb 65536 m ≡ u → cond t None (cond u None (Some m)) ≡ Some n → Budgeted n
budget-chosen m n true u e f h = let z : ◌≡◌ {A = ℕ} 0 1 = cc in absurd (omega arith)
budget-chosen m n false true e f h = let z : ◌≡◌ {A = ℕ} 0 1 = cc in absurd (omega arith)
budget-chosen m n false false e f h = let z : m ≡ n = cc in (omega (arith, eqb-false m 0 e), omega (arith, ltb-false 65536 m f))

budget-number : (x : Option ℕ) (n : ℕ) → budget_of x ≡ Some n → Budgeted n
budget-number (Some m) n h = budget-chosen m n (eqb m 0) (ltb 65536 m) refl refl h
budget-number None n h = let z : ◌≡◌ {A = ℕ} 0 1 = cc in absurd (omega arith)

budget-by : (s : List ℕ) (v : Cursor) (t : List ℕ) (x : Option ℕ) → budget_from t ≡ x → Budgeted (budget_by s v x).budget
unfolding budget_from
budget-by s v t (Some n) e = budget-number (natural_of t) n e
budget-by s v t None e = (omega arith, omega arith)

pub budget-held : (s : List ℕ) (c : Cursor) (key : List ℕ) (wanted : Bool) → Budgeted (budget_line_of s c key wanted).budget
unfolding budget_line_of
budget-held s c key wanted =
    let v = opened_at s key c in
    let d : Budgeted 65536 = (omega arith, omega arith) in
    chosen (λ (l : BudgetLine). Budgeted l.budget) wanted _ _
    (chosen (λ (l : BudgetLine). Budgeted l.budget) (begins key (drop c.at s)) _ _
    (chosen (λ (l : BudgetLine). Budgeted l.budget) v.bad _ _ d (budget-by s v (value_at s v.at) (budget_from (value_at s v.at)) refl)) d) d

-- ---- floats

limited-chosen : (t : Bool) (x y : Float) → cond t (Some x) None ≡ Some y → (t ≡ true) × (x ≡ y)
limited-chosen true x y h = (refl, cc)
limited-chosen false x y h = let z : ◌≡◌ {A = ℕ} 0 1 = cc in absurd (omega arith)

limited-is : (tolerance : Bool) (r : Option Float) (y : Float) → limited_of tolerance r ≡ Some y → is_limited tolerance y ≡ true
limited-is tolerance (Some x) y h = let p = limited-chosen (is_limited tolerance x) x y h in rw p.1 at p.0
limited-is tolerance None y h = let z : ◌≡◌ {A = ℕ} 0 1 = cc in absurd (omega arith)

pub zero-inside : inside (of_bits binary64 0) ≡ true
unfolding of_bits le neg
zero-inside = refl

end_by : (s : List ℕ) (v : Cursor) (t : List ℕ) (r : Option Float) → limited_of false (float_from t) ≡ r → inside (float_by s v r).float ≡ true
end_by s v t (Some x) e = limited-is false (float_from t) x e
end_by s v t None e = zero-inside

pub end-held : (s : List ℕ) (c : Cursor) (key : List ℕ) (wanted : Bool) → inside (float_line_of s c key wanted false).float ≡ true
unfolding float_line_of
end-held s c key wanted =
    let v = opened_at s key c in
    chosen (λ (l : FloatLine). inside l.float ≡ true) wanted _ _ (chosen (λ (l : FloatLine). inside l.float ≡ true) v.bad _ _ zero-inside (end_by s v (value_at s v.at) (limited_of false (float_from (value_at s v.at))) refl)) zero-inside

-- a tolerance, unless something is bad
tol-by : (s : List ℕ) (v : Cursor) (t : List ℕ) (r : Option Float) → limited_of true (float_from t) ≡ r → (float_by s v r).cursor.bad ≡ false → is_limited true (float_by s v r).float ≡ true
tol-by s v t (Some x) e h = limited-is true (float_from t) x e
tol-by s v t None e h = let z : ◌≡◌ {A = ℕ} 0 1 = cc in absurd (omega arith)

tol-in : (s : List ℕ) (v : Cursor) (b : Bool) → v.bad ≡ b → (cond b (no_float v) (float_by s v (limited_of true (float_from (value_at s v.at))))).cursor.bad ≡ false → is_limited true (cond b (no_float v) (float_by s v (limited_of true (float_from (value_at s v.at))))).float ≡ true
tol-in s v true e h = let z : ◌≡◌ {A = ℕ} 0 1 = cc in absurd (omega arith)
tol-in s v false e h = tol-by s v (value_at s v.at) (limited_of true (float_from (value_at s v.at))) refl h

pub tol-held : (s : List ℕ) (c : Cursor) (key : List ℕ) (wanted : Bool) → wanted ≡ true → (float_line_of s c key wanted true).cursor.bad ≡ false → is_limited true (float_line_of s c key wanted true).float ≡ true
unfolding float_line_of
tol-held s c key true w h = tol-in s (opened_at s key c) (opened_at s key c).bad refl h
tol-held s c key false w h = let z : ◌≡◌ {A = ℕ} 0 1 = cc in absurd (omega arith)

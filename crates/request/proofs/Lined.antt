-- Each kind of line, by the cases that the code tells apart.
use Rattle.ratio.specs.Refusal.{no_refusal}
use Rattle.std.specs.Prelude.{Ok, Err, Some, None}
use mathlib.Core.Path.{◌≡◌, refl, sym, ap, ◌∙◌}
use mathlib.Core.Bool.{Bool, true, false, cond}
use mathlib.Core.List.{List, [], ◌∷◌}
use Prim.Native.Nat.{ℕ, ◌+◌, ◌-◌}
use denote.Enum.Declared.{tag_of}
use types.Run.{OneOf, miss}
use lib.ListN.{length, take, drop}
use Rattle.ratio.specs.declared.Ratio.{Ratio}
use Rattle.ratio.specs.declared.Reason.{Reason}
use Rattle.ratio.specs.declared.Reason.TheVariants as R
use Rattle.ratio.specs.contracts.Reason as Reasons
use Rattle.terms.specs.declared.Answer.{Answer}
use lib.Ieee.{Float}
use Rattle.reading.specs.Numbers.{ratio_from, float_from, budget_from}
use Rattle.reading.specs.Coefficients.{read_poly}
use Rattle.request.specs.declared.Cursor.{Cursor}
use Rattle.request.specs.declared.PolyLine.{PolyLine}
use Rattle.request.specs.declared.RatioLine.{RatioLine}
use Rattle.request.specs.declared.BudgetLine.{BudgetLine}
use Rattle.request.specs.declared.FloatLine.{FloatLine}
use Rattle.request.specs.Ops.{begins}
use Rattle.request.specs.Lines.{stopped_at, standing_at, too_long, cursor_for, opened_at, end_of, closed_at, value_at, no_poly, poly_by, poly_in, poly_line_of, no_ratio, ratio_by, ratio_in_line, ratio_line_of, no_budget, budget_by, budget_in, budget_line_of, limited_of, no_float, float_by, float_in, float_line_of}
use Rattle.request.proofs.Within.{value-is}

pub pick_true : {X : Type 0} {t : Bool} → t ≡ true → (a b : X) → a ≡ cond t a b
pick_true e a b = rw e

pub pick-false : {X : Type 0} {t : Bool} → t ≡ false → (a b : X) → b ≡ cond t a b
pick-false e a b = rw e

-- a key that is there, and one that isn't
module _ (s key : List ℕ) (c : Cursor) (b : c.bad ≡ false) where
  pub opened-yes : begins key (drop c.at s) ≡ true → standing_at (c.at + length key) c.long ≡ opened_at s key c
  opened-yes t = rw (b, t)

  pub opened-no : begins key (drop c.at s) ≡ false → stopped_at c.at ≡ opened_at s key c
  opened-no t = rw (b, t)

-- a line that isn't wanted, and one that is
module _ (s : List ℕ) (c : Cursor) (key : List ℕ) (wanted : Bool) where
  module _ (w : wanted ≡ false) where
    pub poly-not : no_poly c ≡ poly_line_of s c key wanted
    unfolding poly_line_of
    poly-not = rw w

    pub ratio-not : no_ratio c ≡ ratio_line_of s c key wanted
    unfolding ratio_line_of
    ratio-not = rw w

    pub budget-not : no_budget c ≡ budget_line_of s c key wanted
    unfolding budget_line_of
    budget-not = rw w

    pub float-not : (tolerance : Bool) → no_float c ≡ float_line_of s c key wanted tolerance
    unfolding float_line_of
    float-not tolerance = rw w

  module _ (w : wanted ≡ true) where
    pub budget-missing : begins key (drop c.at s) ≡ false → no_budget c ≡ budget_line_of s c key wanted
    unfolding budget_line_of
    budget-missing t = rw (w, t)

    module _ (v : Cursor) (e : v ≡ opened_at s key c) where
      pub poly-wanted : {r : PolyLine} → r ≡ poly_in s v → r ≡ poly_line_of s c key wanted
      unfolding poly_line_of
      poly-wanted h = rw w (h ∙ ap (poly_in s) e)

      pub ratio-wanted : {r : RatioLine} → r ≡ ratio_in_line s v → r ≡ ratio_line_of s c key wanted
      unfolding ratio_line_of
      ratio-wanted h = rw w (h ∙ ap (ratio_in_line s) e)

      pub budget-wanted : begins key (drop c.at s) ≡ true → {r : BudgetLine} → r ≡ budget_in s v → r ≡ budget_line_of s c key wanted
      unfolding budget_line_of
      budget-wanted t h = h ∙ ap (budget_in s) e ∙ pick_true t _ _ ∙ pick_true w _ _

      pub float-wanted : (tolerance : Bool) {r : FloatLine} → r ≡ float_in s v tolerance → r ≡ float_line_of s c key wanted tolerance
      unfolding float_line_of
      float-wanted tolerance h = rw w (h ∙ ap (λ d. float_in s d tolerance) e)

-- a key that is bad
module _ (s : List ℕ) (v : Cursor) (b : v.bad ≡ true) where
  pub poly-bad : no_poly v ≡ poly_in s v
  poly-bad = rw b

  pub ratio-bad : no_ratio v ≡ ratio_in_line s v
  ratio-bad = rw b

  pub budget-bad : no_budget v ≡ budget_in s v
  budget-bad = rw b

  pub float-bad : (tolerance : Bool) → no_float v ≡ float_in s v tolerance
  float-bad tolerance = rw b

-- a reason other than a bad word
abbrev pub Others : Reason → Type 0
Others why = OneOf (0 ∷ 1 ∷ 2 ∷ 3 ∷ 4 ∷ 6 ∷ 7 ∷ 8 ∷ []) (tag_of Reasons.the_type why)

others : (s : List ℕ) (v : Cursor) (why : Reason) → Others why → too_long s v ≡ cursor_for s v why
others s v (R.Malformed k) m = absurd (miss (0 ∷ 1 ∷ 2 ∷ 3 ∷ 4 ∷ 6 ∷ 7 ∷ 8 ∷ []) 5 tt m)
others s v R.TooLong m = refl
others s v R.NotPolynomial m = refl
others s v R.CoeffOverflow m = refl
others s v R.DivByZero m = refl
others s v R.BadInput m = refl
others s v R.Budget m = refl
others s v R.TooDeep m = refl
others s v R.NoRoom m = refl

-- a value, from behind the key to an end
module _ (s : List ℕ) (v : Cursor) (b : v.bad ≡ false) (end : ℕ) (e : end ≡ end_of s v.at) where
  here : take (end - v.at) (drop v.at s) ≡ value_at s v.at
  here = value-is s v.at end e

  module _ (r : Answer) (h : r ≡ read_poly (take (end - v.at) (drop v.at s))) where
    sealed : poly_by s v r.outcome r.poly ≡ poly_in s v
    sealed = ap (λ (x : Answer). poly_by s v x.outcome x.poly) (h ∙ ap read_poly here) ∙ pick-false b _ _

    pub poly-done : r.outcome ≡ no_refusal → ◌≡◌ {A = PolyLine} (record { cursor = closed_at s end v.long; poly = r.poly }) (poly_in s v)
    poly-done o = ap {B = PolyLine} (λ n. record { cursor = closed_at s n v.long; poly = r.poly }) e ∙ sym (ap (λ x. poly_by s v x r.poly) o) ∙ sealed

    pub poly-malformed : {why : Reason} → r.outcome ≡ Err why → (k : ℕ) → why ≡ R.Malformed k → no_poly (stopped_at (v.at + k)) ≡ poly_in s v
    poly-malformed o k m = sym (ap (λ x. poly_by s v x r.poly) (o ∙ ap Err m)) ∙ sealed

    pub poly-long : (why : Reason) → r.outcome ≡ Err why → Others why → no_poly (closed_at s end true) ≡ poly_in s v
    poly-long why o m = ap (λ n. no_poly (closed_at s n true)) e ∙ ap no_poly (others s v why m) ∙ sym (ap (λ x. poly_by s v x r.poly) o) ∙ sealed

  module _ (w : List ℕ) (i : w ≡ take (end - v.at) (drop v.at s)) where
    at_value : w ≡ value_at s v.at
    at_value = i ∙ here

    pub ratio-done : (x : Ratio) → ratio_from w ≡ Ok x → ◌≡◌ {A = RatioLine} (record { cursor = closed_at s end v.long; ratio = x }) (ratio_in_line s v)
    ratio-done x o = ap {B = RatioLine} (λ n. record { cursor = closed_at s n v.long; ratio = x }) e ∙ ap (ratio_by s v) (sym o ∙ ap ratio_from at_value) ∙ pick-false b _ _

    pub ratio-refused : {why : Reason} → ratio_from w ≡ Err why → no_ratio (stopped_at v.at) ≡ ratio_in_line s v
    ratio-refused o = ap (ratio_by s v) (sym o ∙ ap ratio_from at_value) ∙ pick-false b _ _

    pub budget-done : (n : ℕ) → budget_from w ≡ Some n → ◌≡◌ {A = BudgetLine} (record { cursor = closed_at s end v.long; budget = n }) (budget_in s v)
    budget-done n o = ap {B = BudgetLine} (λ m. record { cursor = closed_at s m v.long; budget = n }) e ∙ ap (budget_by s v) (sym o ∙ ap budget_from at_value) ∙ pick-false b _ _

    pub budget-refused : budget_from w ≡ None → no_budget (stopped_at v.at) ≡ budget_in s v
    budget-refused o = ap (budget_by s v) (sym o ∙ ap budget_from at_value) ∙ pick-false b _ _

    module _ (tolerance : Bool) where
      pub float-done : (x : Float) → limited_of tolerance (float_from w) ≡ Some x → ◌≡◌ {A = FloatLine} (record { cursor = closed_at s end v.long; float = x }) (float_in s v tolerance)
      float-done x o = ap {B = FloatLine} (λ n. record { cursor = closed_at s n v.long; float = x }) e ∙ ap (float_by s v) (sym o ∙ ap (λ l. limited_of tolerance (float_from l)) at_value) ∙ pick-false b _ _

      pub float-refused : limited_of tolerance (float_from w) ≡ None → no_float (stopped_at v.at) ≡ float_in s v tolerance
      float-refused o = ap (float_by s v) (sym o ∙ ap (λ l. limited_of tolerance (float_from l)) at_value) ∙ pick-false b _ _

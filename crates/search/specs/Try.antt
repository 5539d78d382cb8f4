-- Document 01, module 5, roots: every quotient p / q of two listings is tried, in listing order, and kept where the value is zero. A value that is refused refuses the search with 2.
use Rattle.ratio.specs.declared.Reason.{Reason}
use Rattle.std.specs.Prelude.{Bool, true, false, List, [], ◌∷◌, ℕ, ◌+◌, ℤ, pos, Result, Ok, Err}
use Rattle.ratio.specs.Refusal.{zero_r}
use Rattle.ratio.specs.Step.{is_nil, new_of}
use Rattle.ratio.specs.declared.Ratio.{Ratio}
use Rattle.terms.specs.Machine.{Ran, fine, over, and_then, whole_r, plain}
use Rattle.terms.specs.Work.{valued}
use Rattle.search.specs.Keep.{inserted}

-- the candidates tried, and the rational steps made at it
pub record Count : Type 0 where
  pub tried : ℕ
  pub steps : ℕ

-- one candidate more
abbrev pub noted : ℕ → Ran ℕ Ratio → Ran Count Ratio
noted n (fine k v) = fine (record { tried = n + 1; steps = k }) v
noted n (over k) = over (record { tried = n + 1; steps = k })

-- the value of l at x
abbrev pub value_at : List Ratio → Ratio → Count → Ran Count Ratio
value_at l x c = noted c.tried (valued plain l x (whole_r (pos 1)) zero_r c.steps)

abbrev pub kept_if : Bool → Ratio → List Ratio → List Ratio
kept_if true x kept = inserted x kept
kept_if false x kept = kept

abbrev pub try_at : List Ratio → Result Ratio Reason → Count → List Ratio → Ran Count (List Ratio)
try_at l (Ok x) c kept = and_then (value_at l x c) (λ c v. fine c (kept_if (is_nil v.num) x kept))
try_at l (Err why) c kept = over c

abbrev pub unless_zero : Bool → Count → List Ratio → Ran Count (List Ratio) → Ran Count (List Ratio)
unless_zero true c kept r = fine c kept
unless_zero false c kept r = r

-- the candidate p / q in lowest terms; there is none where q is zero
unfoldable pub try_one : List Ratio → ℤ → ℤ → Count → List Ratio → Ran Count (List Ratio)
try_one l p q c kept = unless_zero (is_nil q) c kept (try_at l (new_of p q) c kept)

unfoldable pub try_row : List Ratio → ℤ → List ℤ → Count → List Ratio → Ran Count (List Ratio)
try_row l p [] c kept = fine c kept
try_row l p (q ∷ qs) c kept = and_then (try_one l p q c kept) (λ c kept. try_row l p qs c kept)

unfoldable pub try_all : List Ratio → List ℤ → List ℤ → Count → List Ratio → Ran Count (List Ratio)
try_all l [] qs c kept = fine c kept
try_all l (p ∷ ps) qs c kept = and_then (try_row l p qs c kept) (λ c kept. try_all l ps qs c kept)

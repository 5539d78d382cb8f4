-- Document 01, "the job program": the operation that a name is, and the keys that each operation has after a.
use Rattle.std.specs.Prelude.{Bool, true, false, cond, List, [], ◌∷◌, ℕ, eqb, length}
use Rattle.ops.specs.declared.Op.{Op}
use Rattle.ops.specs.declared.Op.TheVariants.{Add, Sub, Mul, Divide, Gcd, Resultant, Neg, Diff, Discriminant, Roots, Factor, Rebuild, Eval, Count, Isolate, Unknown}
use Rattle.request.specs.declared.Wants.{Wants}
use Rattle.ops.specs.Op.{name_of}

-- whether a text begins with a key
unfoldable pub begins : List ℕ → List ℕ → Bool
begins [] s = true
begins (k ∷ key) [] = false
begins (k ∷ key) (b ∷ s) = cond (eqb b k) (begins key s) false

-- whether a word is a name
abbrev pub is_name : List ℕ → List ℕ → Bool
is_name name w = cond (eqb (length w) (length name)) (begins name w) false

abbrev pub or_op : List ℕ → Op → Op → Op
or_op w op rest = cond (is_name (name_of op) w) op rest

-- a with numbers
unfoldable pub op_with_numbers : List ℕ → Op
op_with_numbers w = or_op w Eval (or_op w Count (or_op w Isolate Unknown))

-- a alone
unfoldable pub op_of_one : List ℕ → Op
op_of_one w = or_op w Neg (or_op w Diff (or_op w Discriminant (or_op w Roots (or_op w Factor (or_op w Rebuild (op_with_numbers w))))))

-- a and b, or one of the others
unfoldable pub op_of : List ℕ → Op
op_of w = or_op w Add (or_op w Sub (or_op w Mul (or_op w Divide (or_op w Gcd (or_op w Resultant (op_of_one w))))))

abbrev pub is_known : Op → Bool
is_known Add = true
is_known Sub = true
is_known Mul = true
is_known Divide = true
is_known Gcd = true
is_known Resultant = true
is_known Neg = true
is_known Diff = true
is_known Discriminant = true
is_known Roots = true
is_known Factor = true
is_known Rebuild = true
is_known Eval = true
is_known Count = true
is_known Isolate = true
is_known Unknown = false

-- a alone; a and b; a and x; a and perhaps a budget; a, lo and hi; a, lo, hi and tol
abbrev pub wants_a : Wants
wants_a = record { b = false; x = false; budget = false; ends = false; tol = false }

abbrev pub wants_b : Wants
wants_b = record { b = true; x = false; budget = false; ends = false; tol = false }

abbrev pub wants_x : Wants
wants_x = record { b = false; x = true; budget = false; ends = false; tol = false }

abbrev pub wants_budget : Wants
wants_budget = record { b = false; x = false; budget = true; ends = false; tol = false }

abbrev pub wants_ends : Wants
wants_ends = record { b = false; x = false; budget = false; ends = true; tol = false }

abbrev pub wants_tol : Wants
wants_tol = record { b = false; x = false; budget = false; ends = true; tol = true }

abbrev pub wants_of : Op → Wants
wants_of Add = wants_b
wants_of Sub = wants_b
wants_of Mul = wants_b
wants_of Divide = wants_b
wants_of Gcd = wants_b
wants_of Resultant = wants_b
wants_of Neg = wants_a
wants_of Diff = wants_a
wants_of Discriminant = wants_a
wants_of Roots = wants_budget
wants_of Factor = wants_budget
wants_of Rebuild = wants_budget
wants_of Eval = wants_x
wants_of Count = wants_ends
wants_of Isolate = wants_tol
wants_of Unknown = wants_a

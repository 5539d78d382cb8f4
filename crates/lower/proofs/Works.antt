-- What work does to the values, the top one first; and that a token does what the work that it asks for does.
use Rattle.ratio.specs.declared.Ratio.{Ratio}
use Rattle.std.specs.Prelude.{Result, Ok, Err, Option, Some, None}
use mathlib.Core.Path.{◌≡◌, refl}
use mathlib.Core.Bool.{Bool, true, false, cond}
use mathlib.Core.List.{List}
use Prim.Native.Nat.{ℕ, ◌≤◌}
use native.Mathlib.Omega.{arith}
use lib.Dec.{eqb}
use lib.Ieee.{Float}
use Rattle.ratio.specs.declared.Reason.{Reason}
use Rattle.ratio.specs.declared.Reason.TheVariants.{NotPolynomial}
use Rattle.bridge.specs.Search.{to_ratio}
use Rattle.terms.specs.declared.Poly.{Poly}
use Rattle.terms.specs.Answer.{refused_with}
use Rattle.poly.specs.declared.Gate.TheVariants.{Open}
use Rattle.poly.specs.Door.{door_of}
use Rattle.poly.specs.Operations.{monomial_of}
use Rattle.poly.proofs.Canonical.{open-nil}
use Rattle.poly.proofs.Gives.{constant-gives, monomial-gives, add-gives, sub-gives, mul-gives, neg_gives, pow-gives}
use Rattle.tokens.specs.declared.Token.{Token}
use Rattle.tokens.specs.declared.Token.TheVariants as T
use Rattle.lower.specs.declared.Binary.{Binary}
use Rattle.lower.specs.declared.Binary.TheVariants as B
use Rattle.lower.specs.declared.Unary.{Unary}
use Rattle.lower.specs.declared.Unary.TheVariants as U
use Rattle.lower.specs.declared.Work.{Work}
use Rattle.lower.specs.declared.Work.TheVariants.{Constant, Variable, Change, Combine, Stop}
use Rattle.lower.specs.Exponent.{exponent_of}
use Rattle.lower.specs.Stack.{Left, stopped, constant_by, constant_from, variable_if, combined, changed, pushed, one, two, raised, applied}
use Rattle.lower.specs.Work.{raising, work_of, takes_of}

abbrev pub worked : ℕ → Work → List Poly → Left
worked wrt (Constant x) l = pushed (constant_from x) l
worked wrt (Variable i) l = pushed (variable_if i wrt) l
worked wrt (Change op) l = one op l
worked wrt (Combine op) l = two op l
worked wrt (Stop why) l = stopped why

pub takes-few : (w : Work) → takes_of w ≤ 2
takes-few (Constant x) = omega arith
takes-few (Variable i) = omega arith
takes-few (Change op) = omega arith
takes-few (Combine op) = omega arith
takes-few (Stop why) = omega arith

raised-worked : (wrt : ℕ) (e : Option ℕ) (l : List Poly) → worked wrt (raising e) l ≡ raised e l
raised-worked wrt (Some n) l = refl
raised-worked wrt None l = refl

pub worked-applied : (wrt : ℕ) (t : Token) (l : List Poly) → worked wrt (work_of t) l ≡ applied wrt t l
worked-applied wrt (T.Const x) l = refl
worked-applied wrt (T.Var i) l = refl
worked-applied wrt T.Add l = refl
worked-applied wrt T.Sub l = refl
worked-applied wrt T.Mul l = refl
worked-applied wrt T.Neg l = refl
worked-applied wrt (T.Pow x) l = raised-worked wrt (exponent_of x) l
worked-applied wrt T.Other l = refl
worked-applied wrt T.Malformed l = refl

-- ---- every value is canonical

constant-by-open : (s : Result Ratio Reason) → door_of (constant_by s).poly ≡ Open
constant-by-open (Ok c) = (constant-gives c).canonical
constant-by-open (Err why) = open-nil

pub constant-open : (x : Float) → door_of (constant_from x).poly ≡ Open
constant-open x = constant-by-open (to_ratio x)

variable-by-open : (t : Bool) → door_of (cond t (monomial_of 1) (refused_with NotPolynomial 0)).poly ≡ Open
variable-by-open true = (monomial-gives 1).canonical
variable-by-open false = open-nil

pub variable-open : (i wrt : ℕ) → door_of (variable_if i wrt).poly ≡ Open
variable-open i wrt = variable-by-open (eqb i wrt)

pub combined-open : (op : Binary) (a b : Poly) → door_of (combined op a b).poly ≡ Open
combined-open B.Add a b = (add-gives a b).canonical
combined-open B.Sub a b = (sub-gives a b).canonical
combined-open B.Mul a b = (mul-gives a b).canonical

pub changed-open : (op : Unary) (a : Poly) → door_of (changed op a).poly ≡ Open
changed-open U.Neg a = (neg_gives a).canonical
changed-open (U.Pow n) a = (pow-gives a n).canonical

pub refused-open : (why : Reason) → door_of (refused_with why 0).poly ≡ Open
refused-open why = open-nil

-- Document 01, module 7: what each token asks for, and how many values that takes off the stack.
use Rattle.std.specs.Prelude.{ℕ, Option, Some, None}
use Rattle.ratio.specs.declared.Reason.TheVariants.{NotPolynomial, BadInput}
use Rattle.tokens.specs.declared.Token.{Token}
use Rattle.tokens.specs.declared.Token.TheVariants as T
use Rattle.lower.specs.declared.Binary.TheVariants as B
use Rattle.lower.specs.declared.Unary.TheVariants as U
use Rattle.lower.specs.declared.Work.{Work}
use Rattle.lower.specs.declared.Work.TheVariants.{Constant, Variable, Change, Combine, Stop}
use Rattle.lower.specs.Exponent.{exponent_of}

abbrev pub raising : Option ℕ → Work
raising (Some n) = Change (U.Pow n)
raising None = Stop NotPolynomial

abbrev pub work_of : Token → Work
work_of (T.Const x) = Constant x
work_of (T.Var i) = Variable i
work_of T.Add = Combine B.Add
work_of T.Sub = Combine B.Sub
work_of T.Mul = Combine B.Mul
work_of T.Neg = Change U.Neg
work_of (T.Pow x) = raising (exponent_of x)
work_of T.Other = Stop NotPolynomial
work_of T.Malformed = Stop BadInput

abbrev pub takes_of : Work → ℕ
takes_of (Constant x) = 0
takes_of (Variable i) = 0
takes_of (Change op) = 1
takes_of (Combine op) = 2
takes_of (Stop why) = 0

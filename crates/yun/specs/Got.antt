-- Document 01, module 3: an operation whose intermediate is refused hands that refusal on as its own. Here the steps aren't reported.
use Rattle.std.specs.Prelude.{List, [], ◌∷◌, ℕ}
use Rattle.ratio.specs.declared.Ratio.{Ratio}
use Rattle.ratio.specs.declared.Reason.{Reason}
use Rattle.ratio.specs.declared.Reason.TheVariants.{CoeffOverflow, DivByZero}
use Rattle.terms.specs.Machine.{Ran, fine, over, plain}
use Rattle.terms.specs.Poly.{trim}
use Rattle.remainders.specs.Divide.{Split, divided}

-- what a part of the work comes to: its result, or why there is none
pub data Got (X : Type 0) : Type 0 where
  got : X → Got X
  none : Reason → Got X

abbrev pub then_got : {X Y : Type 0} → Got X → (X → Got Y) → Got Y
then_got (got x) k = k x
then_got (none why) k = none why

-- a polynomial, without zeros at the top
abbrev pub list_from : Ran ℕ (List Ratio) → Got (List Ratio)
list_from (fine k l) = got (trim l)
list_from (over k) = none CoeffOverflow

abbrev pub split_from : Ran ℕ (Split Ratio) → Got (Split Ratio)
split_from (fine k s) = got s
split_from (over k) = none CoeffOverflow

-- quotient and rest; by zero it is 3
unfoldable pub parts_of : List Ratio → List Ratio → Got (Split Ratio)
parts_of a [] = none DivByZero
parts_of a (y ∷ b) = split_from (divided plain a (y ∷ b) 0)

-- Document 01, module 4: what the work of division and of resultants answers; the steps are reported with every answer.
use Rattle.std.specs.Prelude.{List, [], ◌∷◌, ℕ, Err}
use Rattle.ratio.specs.Refusal.{zero_r, no_refusal}
use Rattle.ratio.specs.declared.Ratio.{Ratio}
use Rattle.ratio.specs.declared.Reason.{Reason}
use Rattle.ratio.specs.declared.Reason.TheVariants.{CoeffOverflow, DivByZero}
use Rattle.terms.specs.Poly.{poly_of}
use Rattle.terms.specs.Machine.{Ran, fine, over, plain}
use Rattle.remainders.specs.declared.Division.{Division}
use Rattle.remainders.specs.declared.Number.{Number}
use Rattle.remainders.specs.Divide.{Split, divided}

abbrev pub no_division : Reason → ℕ → Division
no_division why k = record { outcome = Err why; quotient = poly_of []; rest = poly_of []; steps = k }

abbrev pub division_of : Ran ℕ (Split Ratio) → Division
division_of (fine k s) = record { outcome = no_refusal; quotient = poly_of s.quotient; rest = poly_of s.rest; steps = k }
division_of (over k) = no_division CoeffOverflow k

-- a zero divisor is 3, also for a zero dividend
unfoldable pub divided_of : List Ratio → List Ratio → Division
divided_of a [] = no_division DivByZero 0
divided_of a (y ∷ b) = division_of (divided plain a (y ∷ b) 0)

-- a fraction that was worked out, or why there is none
abbrev pub no_number : ℕ → Number
no_number k = record { outcome = Err CoeffOverflow; value = zero_r; steps = k }

abbrev pub number_of : Ran ℕ Ratio → Number
number_of (fine k r) = record { outcome = no_refusal; value = r; steps = k }
number_of (over k) = no_number k

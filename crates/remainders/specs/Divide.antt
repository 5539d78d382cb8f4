-- Document 01, module 4, division: per quotient term one multiplication by the inverse leading coefficient, then a multiplication and a subtraction for each coefficient of the divisor, zeros included.
use Rattle.std.specs.Prelude.{Bool, true, false, List, [], ◌∷◌, ℕ, zero, suc, ◌+◌, ◌-◌, ltb, length, get_or, take}
use Rattle.ratio.specs.Step.{is_nil}
use Rattle.terms.specs.Machine.{minus, times, Ran, fine, and_then, Machine}
use Rattle.terms.specs.Poly.{drop_top}
use Rattle.terms.specs.Work.{nil, rowed}

-- quotient and rest
pub record Split (W : Type 0) : Type 0 where
  pub quotient : List W
  pub rest : List W

abbrev pub split : {W : Type 0} → List W → List W → Split W
split q r = record { quotient = q; rest = r }

module _ {W Log : Type 0} (M : Machine W Log) where
  -- the zeros at the top are dropped
  abbrev pub dropped : List W → List W
  dropped l = drop_top (λ w. is_nil (M.value w).num) l

  -- the leading coefficient
  abbrev pub lead : List W → W
  lead l = get_or l (length l - 1) (nil M)

  -- the quotient's terms, the highest first; k of them are left. The term for x^k comes from the coefficient of x^(k + m), m the divisor's degree
  unfoldable pub quotients : List W → List W → ℕ → List W → Log → Ran Log (Split W)
  quotients rem b zero quot log = fine log (split quot rem)
  quotients rem b (suc k) quot log =
      and_then (M.make times (get_or rem (k + (length b - 1)) (nil M)) (M.inverse (lead b)) log) (λ log t.
      and_then (rowed M minus rem k t b log) (λ log rem. quotients rem b k (t ∷ quot) log))

  -- what is left of the dividend below the divisor's degree is the rest
  abbrev pub finished : List W → Log → Split W → Ran Log (Split W)
  finished b log s = fine log (split (dropped s.quotient) (dropped (take (length b - 1) s.rest)))

  abbrev pub divided_if : Bool → List W → List W → Log → Ran Log (Split W)
  divided_if true a b log = fine log (split [] (dropped a))
  divided_if false a b log = and_then (quotients a b (length a - length b + 1) [] log) (finished b)

  -- a lower dividend is its own rest, without zeros at the top
  unfoldable pub divided : List W → List W → Log → Ran Log (Split W)
  divided a b log = divided_if (ltb (length a) (length b)) a b log

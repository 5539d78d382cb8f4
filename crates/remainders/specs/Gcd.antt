-- Document 01, module 4, gcd: divides until the remainder is zero, then scales by the inverse leading coefficient; the square-free part as the original makes it.
use Rattle.std.specs.Prelude.{List, [], ◌∷◌, ℕ, zero, suc, length}
use Rattle.terms.specs.Machine.{Ran, fine, and_then, Machine}
use Rattle.terms.specs.Work.{scaled, derived}
use Rattle.remainders.specs.Divide.{dropped, lead, divided}

module _ {W Log : Type 0} (M : Machine W Log) where
  -- scaled so that the leading coefficient is 1; zero stays zero
  unfoldable pub monic : List W → Log → Ran Log (List W)
  monic [] log = fine log []
  monic (a ∷ u) log = scaled M (a ∷ u) (M.inverse (lead M (a ∷ u))) log

  -- the rest is shorter than the divisor, so that as many divisions as the divisor is long are enough
  unfoldable pub gcd_by : ℕ → List W → List W → Log → Ran Log (List W)
  gcd_by zero u [] log = monic u log
  gcd_by zero u (b ∷ v) log = fine log []
  gcd_by (suc f) u [] log = monic u log
  gcd_by (suc f) u (b ∷ v) log = and_then (divided M u (b ∷ v) log) (λ log s. gcd_by f (b ∷ v) s.rest log)

  unfoldable pub gcd_of : List W → List W → Log → Ran Log (List W)
  gcd_of a b log = gcd_by (length b) a b log

  abbrev pub monic_if : List W → List W → List W → Log → Ran Log (List W)
  monic_if [] f q log = monic q log
  monic_if (r ∷ rs) f q log = fine log f

  -- f over the gcd g of f and its derivative, monic; f itself where g is constant or doesn't divide it
  abbrev pub freed : List W → List W → Log → Ran Log (List W)
  freed f [] log = fine log f
  freed f (g ∷ []) log = fine log f
  freed f (g ∷ h ∷ l) log = and_then (divided M f (g ∷ h ∷ l) log) (λ log s. monic_if s.rest f s.quotient log)

  unfoldable pub square_free : List W → Log → Ran Log (List W)
  square_free [] log = fine log []
  square_free (a ∷ f) log =
      and_then (derived M (a ∷ f) log) (λ log d. and_then (gcd_of (a ∷ f) (dropped M d) log) (λ log g. freed (a ∷ f) (dropped M g) log))

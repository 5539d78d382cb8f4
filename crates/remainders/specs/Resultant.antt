-- Document 01, module 4, resultant and discriminant, by the original's recursion.
use Rattle.std.specs.Prelude.{Bool, true, false, List, [], ◌∷◌, ℕ, zero, suc, ◌-◌, ◌*◌, ◌/◌, ◌%◌, ltb, eqb, ℤ, pos, negsuc, length}
use Rattle.terms.specs.Machine.{times, Ran, fine, and_then, Machine}
use Rattle.terms.specs.Work.{nil, derived}
use Rattle.remainders.specs.Divide.{dropped, lead, divided}

-- 1 for an even number, −1 for an odd one
abbrev pub sign_if : Bool → ℤ
sign_if true = pos 1
sign_if false = negsuc 0

abbrev pub sign_of : ℕ → ℤ
sign_of n = sign_if (eqb (n % 2) 0)

abbrev pub degree_of : {W : Type 0} → List W → ℕ
degree_of l = length l - 1

module _ {W Log : Type 0} (M : Machine W Log) where
  abbrev pub unit : W
  unit = M.whole (pos 1)

  -- acc times cᵏ, one multiplication per exponent
  unfoldable pub powered : W → ℕ → W → Log → Ran Log W
  powered c zero acc log = fine log acc
  powered c (suc k) acc log = and_then (M.make times acc c log) (λ log acc. powered c k acc log)

  abbrev pub signed : ℕ → W
  signed n = M.whole (sign_of n)

  -- the last two multiplications: the sign times the leading power, times the inner resultant
  abbrev pub joined : W → W → W → Log → Ran Log W
  joined sign p sub log = and_then (M.make times sign p log) (λ log t. M.make times t sub log)

  -- a rest that is not zero: the leading power, the resultant of b and the rest, then two multiplications
  abbrev pub onward : List W → List W → (Log → Ran Log W) → List W → Log → Ran Log W
  onward a b inner [] log = fine log (nil M)
  onward a b inner (r ∷ rs) log =
      and_then (powered (lead M b) (length a - length (r ∷ rs)) unit log) (λ log p.
      and_then (inner log) (λ log sub. joined (signed (degree_of a * degree_of b)) p sub log))

  -- the first of degree at least 1 and not below the second's, which is not zero; f bounds the divisions
  unfoldable pub ordered : ℕ → List W → List W → Log → Ran Log W
  ordered zero a [] log = fine log (nil M)
  ordered zero a (y ∷ []) log = powered y (degree_of a) unit log
  ordered zero a (y ∷ z ∷ b) log = fine log (nil M)
  ordered (suc f) a [] log = fine log (nil M)
  ordered (suc f) a (y ∷ []) log = powered y (degree_of a) unit log
  ordered (suc f) a (y ∷ z ∷ b) log =
      and_then (divided M a (y ∷ z ∷ b) log) (λ log s. onward a (y ∷ z ∷ b) (λ log. ordered f (y ∷ z ∷ b) s.rest log) s.rest log)

  abbrev pub swapped_if : Bool → List W → List W → Log → Ran Log W
  swapped_if true a b log = and_then (ordered (length a) b a log) (λ log r. M.make times r (signed (degree_of a * degree_of b)) log)
  swapped_if false a b log = ordered (length b) a b log

  -- constant against degree k: k multiplications from 1
  unfoldable pub resultant_of : List W → List W → Log → Ran Log W
  resultant_of [] b log = fine log (nil M)
  resultant_of (x ∷ a) [] log = fine log (nil M)
  resultant_of (x ∷ []) (y ∷ b) log = powered x (length b) unit log
  resultant_of (x ∷ x' ∷ a) (y ∷ []) log = powered y (suc (length a)) unit log
  resultant_of (x ∷ x' ∷ a) (y ∷ y' ∷ b) log = swapped_if (ltb (length (x ∷ x' ∷ a)) (length (y ∷ y' ∷ b))) (x ∷ x' ∷ a) (y ∷ y' ∷ b) log

  -- the derivative, the resultant, one multiplication for the sign, one by the inverse lead
  unfoldable pub discriminant_of : List W → Log → Ran Log W
  discriminant_of [] log = fine log (nil M)
  discriminant_of (x ∷ []) log = fine log unit
  discriminant_of (x ∷ y ∷ f) log =
      and_then (derived M (x ∷ y ∷ f) log) (λ log d.
      and_then (resultant_of (x ∷ y ∷ f) (dropped M d) log) (λ log r. joined (signed (suc (length f) * length f / 2)) r (M.inverse (lead M (x ∷ y ∷ f))) log))

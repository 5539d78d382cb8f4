-- Document 01, module 3, in the original's order of work: sum, difference, product, multiple, derivative and value, on lists of any length.
use Rattle.std.specs.Prelude.{List, [], ◌∷◌, ℕ, zero, suc, ◌+◌, ◌-◌, max, pos, length, get_or, set, replicate}
use Rattle.terms.specs.Machine.{Op, plus, times, Ran, fine, and_then, Machine}

-- f i, f (i + 1), .., n of them
unfoldable pub each : {W Log : Type 0} → (ℕ → Log → Ran Log W) → ℕ → ℕ → Log → Ran Log (List W)
each f zero i log = fine log []
each f (suc n) i log = and_then (f i log) (λ log y. and_then (each f n (suc i) log) (λ log ys. fine log (y ∷ ys)))

module _ {W Log : Type 0} (M : Machine W Log) where
  abbrev pub nil : W
  nil = M.whole (pos 0)

  -- coefficient by coefficient, up to the longer list's end
  unfoldable pub zipped : Op → List W → List W → Log → Ran Log (List W)
  zipped op a b log = each (λ i. M.make op (get_or a i nil) (get_or b i nil)) (max (length a) (length b)) 0 log

  unfoldable pub scaled : List W → W → Log → Ran Log (List W)
  scaled a c log = each (λ i. M.make times (get_or a i nil) c) (length a) 0 log

  -- coefficient i of the derivative is coefficient i + 1 times i + 1
  unfoldable pub derived : List W → Log → Ran Log (List W)
  derived a log = each (λ i. M.make times (get_or a (i + 1) nil) (M.whole (pos (i + 1)))) (length a - 1) 0 log

  -- acc with x b added or subtracted, from place k on
  unfoldable pub rowed : Op → List W → ℕ → W → List W → Log → Ran Log (List W)
  rowed op acc k x [] log = fine log acc
  rowed op acc k x (b ∷ bs) log =
      and_then (M.make times x b log) (λ log t. and_then (M.make op (get_or acc k nil) t log) (λ log s. rowed op (set acc k s) (k + 1) x bs log))

  -- row after row
  unfoldable pub rows : List W → ℕ → List W → List W → Log → Ran Log (List W)
  rows acc k [] b log = fine log acc
  rows acc k (x ∷ a) b log = and_then (rowed plus acc k x b log) (λ log acc. rows acc (k + 1) a b log)

  unfoldable pub multiplied : List W → List W → Log → Ran Log (List W)
  multiplied a b log = rows (replicate (length a + length b - 1) nil) 0 a b log

  -- the value at x, given the power of x for the first coefficient and the sum so far; after the last coefficient one power more is taken
  unfoldable pub valued : List W → W → W → W → Log → Ran Log W
  valued [] x power sum log = fine log sum
  valued (a ∷ l) x power sum log =
      and_then (M.make times a power log) (λ log t. and_then (M.make plus sum t log) (λ log sum. and_then (M.make times power x log) (λ log power. valued l x power sum log)))

-- How many elements the results of the work have.
use mathlib.Core.Path.{◌≡◌, refl, ap, ◌∙◌}
use mathlib.Core.List.{List, [], ◌∷◌}
use Prim.Native.Nat.{ℕ, zero, suc, ◌+◌, ◌-◌, max}
use lib.ListN.{length, get_or, set, replicate, length-set, length-replicate}
use Rattle.terms.specs.Machine.{Op, plus, times, Ran, fine, over, and_then, Machine}
use Rattle.terms.specs.Work.{nil, each, zipped, scaled, derived, rowed, rows, multiplied}

-- a result has n elements
abbrev pub Long : {W Log : Type 0} → ℕ → Ran Log (List W) → Type 0
Long n (fine log l) = length l ≡ n
Long n (over log) = Unit {0}

long-then : {W X Log : Type 0} (n : ℕ) (r : Ran Log W) (f : Log → W → Ran Log (List X)) → ((log : Log) (x : W) → Long n (f log x)) → Long n (and_then r f)
long-then n (fine log x) f h = h log x
long-then n (over log) f h = tt

long-next : {W Log : Type 0} (n : ℕ) (r : Ran Log (List W)) (f : Log → List W → Ran Log (List W)) → Long n r → ((log : Log) (l : List W) → length l ≡ n → Long n (f log l)) → Long n (and_then r f)
long-next n (fine log l) f e h = h log l e
long-next n (over log) f e h = tt

one_more : {W Log : Type 0} (n : ℕ) (y : W) (r : Ran Log (List W)) → Long n r → Long (suc n) (and_then r (λ log ys. fine log (y ∷ ys)))
one_more n y (fine log ys) e = ap suc e
one_more n y (over log) e = tt

pub each_long : {W Log : Type 0} (f : ℕ → Log → Ran Log W) (n i : ℕ) (log : Log) → Long n (each f n i log)
unfolding each
each_long f zero i log = refl
each_long f (suc n) i log = long-then (suc n) (f i log) _ (λ log y. one_more n y (each f n (suc i) log) (each_long f n (suc i) log))

module _ {W Log : Type 0} (M : Machine W Log) where
  pub zipped-long : (op : Op) (a b : List W) (log : Log) → Long (max (length a) (length b)) (zipped M op a b log)
  unfolding zipped
  zipped-long op a b log = each_long _ (max (length a) (length b)) 0 log

  pub scaled-long : (a : List W) (c : W) (log : Log) → Long (length a) (scaled M a c log)
  unfolding scaled
  scaled-long a c log = each_long _ (length a) 0 log

  pub derived-long : (a : List W) (log : Log) → Long (length a - 1) (derived M a log)
  unfolding derived
  derived-long a log = each_long _ (length a - 1) 0 log

  pub rowed-long : (op : Op) (n : ℕ) (acc : List W) (k : ℕ) (x : W) (b : List W) (log : Log) → length acc ≡ n → Long n (rowed M op acc k x b log)
  unfolding rowed
  rowed-long op n acc k x [] log e = e
  rowed-long op n acc k x (y ∷ b) log e =
      long-then n (M.make times x y log) _ (λ log t.
      long-then n (M.make op (get_or acc k (nil M)) t log) _ (λ log s. rowed-long op n (set acc k s) (k + 1) x b log (length-set acc k s ∙ e)))

  pub rows_long : (n : ℕ) (acc : List W) (k : ℕ) (a b : List W) (log : Log) → length acc ≡ n → Long n (rows M acc k a b log)
  unfolding rows
  rows_long n acc k [] b log e = e
  rows_long n acc k (x ∷ a) b log e =
      long-next n (rowed M plus acc k x b log) _ (rowed-long plus n acc k x b log e) (λ log l f. rows_long n l (k + 1) a b log f)

  pub multiplied-long : (a b : List W) (log : Log) → Long (length a + length b - 1) (multiplied M a b log)
  unfolding multiplied
  multiplied-long a b log = rows_long (length a + length b - 1) (replicate (length a + length b - 1) (nil M)) 0 a b log (length-replicate (length a + length b - 1) (nil M))

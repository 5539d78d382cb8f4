-- Whether a text begins with a key, byte by byte.
use mathlib.Core.Path.{◌≡◌}
use mathlib.Core.Bool.{true, false}
use mathlib.Core.List.{List}
use Prim.Native.Nat.{ℕ, ◌+◌, ◌<◌, ◌≤◌}
use native.Mathlib.Numerals.{add-one}
use borrow.Author.Tests.{eq-eqb, ne_eqb}
use lib.ListN.{length, drop, get_or, drop_of_length-le}
use lib.Seq.{drop-cons}
use Rattle.request.specs.Ops.{begins}

module _ (key s : List ℕ) (i j : ℕ) (h : i < length key) where
  pub begins-none : length s ≤ j → false ≡ begins (drop i key) (drop j s)
  unfolding begins
  begins-none e = rw (drop-cons key i 0 h, drop_of_length-le s e)

  pub begins-not : j < length s → (get_or s j 0 ≡ get_or key i 0 → ⊥) → false ≡ begins (drop i key) (drop j s)
  unfolding begins
  begins-not k e = rw (drop-cons key i 0 h, drop-cons s j 0 k, ne_eqb (get_or s j 0) (get_or key i 0) e)

  pub begins-more : j < length s → get_or s j 0 ≡ get_or key i 0 → begins (drop (i + 1) key) (drop (j + 1) s) ≡ begins (drop i key) (drop j s)
  unfolding begins
  begins-more k e = rw (add-one, add-one, drop-cons key i 0 h, drop-cons s j 0 k, eq-eqb (get_or s j 0) (get_or key i 0) e)

pub begins-all : (key s : List ℕ) (i : ℕ) → length key ≤ i → true ≡ begins (drop i key) s
unfolding begins
begins-all key s i h = rw (drop_of_length-le key h)

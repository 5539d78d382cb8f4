-- Document 01, module 4, the written chain, operation by operation: erased it is the plain work, the number reported is its length, and it is faithful.
use mathlib.Core.Path.{◌≡◌, subst}
use mathlib.Core.List.{List, [], ◌∷◌, ◌++◌}
use Prim.Native.Nat.{◌≤◌}
use lib.ListN.{length}
use Rattle.ratio.specs.Range.{limit}
use Rattle.ratio.specs.declared.Ratio.{Ratio}
use Rattle.terms.specs.Machine.{fine, over, plain}
use Rattle.terms.proofs.StepsCount.{steps_of}
use Rattle.remainders.specs.Chain.{first, second, Wire, Written, writer, wires, chain_of, Finished, Stopped}
use Rattle.remainders.specs.Divide.{Split, divided}
use Rattle.remainders.specs.Gcd.{gcd_of, square_free}
use Rattle.remainders.specs.Resultant.{resultant_of, discriminant_of}
use Rattle.remainders.proofs.ChainWritten.{forgotten, value_of, values_of, split_of, Ended, Fractions, division-tells, gcd-tells, resultant-tells, discriminant-tells, square_free-tells}

-- the coefficients of the inputs, named
abbrev pub firsts : List Ratio → List Wire
firsts a = wires first 0 a

abbrev pub seconds : List Ratio → List Wire
seconds b = wires second 0 b

module _ (a b : List Ratio) (fa : Fractions a) (fb : Fractions b) where
  -- ---- division

  pub division-erased : forgotten split_of (divided writer (firsts a) (seconds b) []) ≡ divided plain a b 0
  division-erased = (division-tells a b fa fb).erased

  pub division-written : steps_of (divided plain a b 0) ≡ length (chain_of (divided writer (firsts a) (seconds b) []))
  division-written = (division-tells a b fa fb).counter

  pub division-finished : (chain : List Written) (x : Split Wire) → divided writer (firsts a) (seconds b) [] ≡ fine chain x → Finished a b chain (x.quotient ++ x.rest)
  division-finished chain x e = subst (Ended a b (λ (s : Split Wire). s.quotient ++ s.rest)) e (division-tells a b fa fb).ended

  pub division-stopped : (chain : List Written) → divided writer (firsts a) (seconds b) [] ≡ over chain → Stopped a b chain
  division-stopped chain e = subst (Ended a b (λ (s : Split Wire). s.quotient ++ s.rest)) e (division-tells a b fa fb).ended

  -- ---- gcd

  pub gcd-erased : forgotten values_of (gcd_of writer (firsts a) (seconds b) []) ≡ gcd_of plain a b 0
  gcd-erased = (gcd-tells a b fa fb).erased

  pub gcd-written : steps_of (gcd_of plain a b 0) ≡ length (chain_of (gcd_of writer (firsts a) (seconds b) []))
  gcd-written = (gcd-tells a b fa fb).counter

  pub gcd-finished : (chain : List Written) (x : List Wire) → gcd_of writer (firsts a) (seconds b) [] ≡ fine chain x → Finished a b chain x
  gcd-finished chain x e = subst (Ended a b (λ (l : List Wire). l)) e (gcd-tells a b fa fb).ended

  pub gcd-stopped : (chain : List Written) → gcd_of writer (firsts a) (seconds b) [] ≡ over chain → Stopped a b chain
  gcd-stopped chain e = subst (Ended a b (λ (l : List Wire). l)) e (gcd-tells a b fa fb).ended

  -- ---- resultant

  pub resultant-erased : forgotten value_of (resultant_of writer (firsts a) (seconds b) []) ≡ resultant_of plain a b 0
  resultant-erased = (resultant-tells a b fa fb).erased

  pub resultant-written : steps_of (resultant_of plain a b 0) ≡ length (chain_of (resultant_of writer (firsts a) (seconds b) []))
  resultant-written = (resultant-tells a b fa fb).counter

  pub resultant-finished : (chain : List Written) (x : Wire) → resultant_of writer (firsts a) (seconds b) [] ≡ fine chain x → Finished a b chain (x ∷ [])
  resultant-finished chain x e = subst (Ended a b (λ (w : Wire). w ∷ [])) e (resultant-tells a b fa fb).ended

  pub resultant-stopped : (chain : List Written) → resultant_of writer (firsts a) (seconds b) [] ≡ over chain → Stopped a b chain
  resultant-stopped chain e = subst (Ended a b (λ (w : Wire). w ∷ [])) e (resultant-tells a b fa fb).ended

-- of one input; an index of the derivative is a number within the range
module _ (f : List Ratio) (fractions : Fractions f) (short : length f ≤ limit) where
  -- ---- discriminant

  pub discriminant-erased : forgotten value_of (discriminant_of writer (firsts f) []) ≡ discriminant_of plain f 0
  discriminant-erased = (discriminant-tells f fractions short).erased

  pub discriminant-written : steps_of (discriminant_of plain f 0) ≡ length (chain_of (discriminant_of writer (firsts f) []))
  discriminant-written = (discriminant-tells f fractions short).counter

  pub discriminant-finished : (chain : List Written) (x : Wire) → discriminant_of writer (firsts f) [] ≡ fine chain x → Finished f [] chain (x ∷ [])
  discriminant-finished chain x e = subst (Ended f [] (λ (w : Wire). w ∷ [])) e (discriminant-tells f fractions short).ended

  pub discriminant-stopped : (chain : List Written) → discriminant_of writer (firsts f) [] ≡ over chain → Stopped f [] chain
  discriminant-stopped chain e = subst (Ended f [] (λ (w : Wire). w ∷ [])) e (discriminant-tells f fractions short).ended

  -- ---- square-free part

  pub square_free-erased : forgotten values_of (square_free writer (firsts f) []) ≡ square_free plain f 0
  square_free-erased = (square_free-tells f fractions short).erased

  pub square_free-written : steps_of (square_free plain f 0) ≡ length (chain_of (square_free writer (firsts f) []))
  square_free-written = (square_free-tells f fractions short).counter

  pub square_free-finished : (chain : List Written) (x : List Wire) → square_free writer (firsts f) [] ≡ fine chain x → Finished f [] chain x
  square_free-finished chain x e = subst (Ended f [] (λ (l : List Wire). l)) e (square_free-tells f fractions short).ended

  pub square_free-stopped : (chain : List Written) → square_free writer (firsts f) [] ≡ over chain → Stopped f [] chain
  square_free-stopped chain e = subst (Ended f [] (λ (l : List Wire). l)) e (square_free-tells f fractions short).ended

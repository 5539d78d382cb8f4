-- Whole numbers as numerals: the image of a natural number is itself, and the ring solver reads literals (`reifyℤ` for `reify`).
use mathlib.Core.Path.{◌≡◌, refl, sym, ◌∙◌, ap}
use mathlib.Core.List.{List, [], ◌∷◌}
use Prim.Native.Nat.{ℕ, zero, suc, ◌+◌, ◌*◌, ◌^◌}
use native.Mathlib.Numerals.{add-one}
use lib.Dec.{T}
use lib.IntN.{ℤ, pos, negsuc, neg_ℤ, ◌+ℤ◌, ◌*ℤ◌}
use Rattle.algebra.proofs.Ring.{nat, nat-pow, pow, by1}
use Rattle.algebra.proofs.Solver.{num, ⊝◌}
use Rattle.algebra.proofs.Reflect.{ring!, reify, literal, Closed, Rep, rep_add, rep_mul, rep-closed}
use Rattle.algebra.proofs.Whole.{ℤ-ring}

pub nat-ℤ : (n : ℕ) → nat ℤ-ring n ≡ pos n
unfolding nat
nat-ℤ zero = refl
nat-ℤ (suc n) = ap (λ z. z +ℤ pos 1) (nat-ℤ n) ∙ ap pos (add-one n)

pub pow_pos : (m n : ℕ) → pow ℤ-ring (pos m) n ≡ pos (m ^ n)
pow_pos m n = sym (ap (λ z. pow ℤ-ring z n) (nat-ℤ m)) ∙ sym (nat-pow ℤ-ring m n) ∙ nat-ℤ (m ^ n)

abbrev pub pos-closed : (k : ℕ) → T (literal k) → Closed ℤ-ring (pos k)
pos-closed k t = record { expr = num k; value = λ ρ. nat-ℤ k }

abbrev pub negsuc-closed : (k : ℕ) → T (literal k) → Closed ℤ-ring (negsuc k)
negsuc-closed k t = record { expr = ⊝ num (suc k); value = λ ρ. ap neg_ℤ (nat-ℤ (suc k)) }

-- a sum or a product of naturals under `pos`
abbrev pub rep-pos-add : {ρ : List ℤ} (m n : ℕ) → Rep ℤ-ring ρ (pos m) → Rep ℤ-ring ρ (pos n) → Rep ℤ-ring ρ (pos (m + n))
rep-pos-add m n x y = rep_add x y

abbrev pub rep-pos-mul : {ρ : List ℤ} (m n : ℕ) → Rep ℤ-ring ρ (pos m) → Rep ℤ-ring ρ (pos n) → Rep ℤ-ring ρ (pos (m * n))
rep-pos-mul m n x y = rep_mul x y

pub ruleset reifyℤ = (reify, rep-closed, pos-closed, negsuc-closed, rep-pos-add, rep-pos-mul)

-- examples
literals : (a b : ℤ) → (a +ℤ negsuc 1) *ℤ (pos 3 *ℤ b) ≡ pos 3 *ℤ (a *ℤ b) +ℤ negsuc 5 *ℤ b
literals a b = ring! ℤ-ring (a ∷ b ∷ []) (search reifyℤ depth 30 fits 20000) tt

negated : (a b : ℤ) → a ≡ b +ℤ pos 5 → pos 10 +ℤ pos 2 *ℤ b ≡ a *ℤ pos 2
negated a b e = by1 ℤ-ring (negsuc 1) e (ring! ℤ-ring (a ∷ b ∷ []) (search reifyℤ depth 30 fits 20000) tt)

naturals : (a : ℤ) (m n : ℕ) → a *ℤ pos (m * n + n) ≡ pos n *ℤ a *ℤ (pos m +ℤ pos 1)
naturals a m n = ring! ℤ-ring (a ∷ pos m ∷ pos n ∷ []) (search reifyℤ depth 30 fits 20000) tt

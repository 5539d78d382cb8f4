-- What stripping zero roots means: the roots are those of the stripped list, and zero where a zero stood at the bottom.
use mathlib.Core.Path.{◌≡◌, refl, sym, ap, ◌∙◌}
use mathlib.Core.Logic.{◌⊎◌, inl, inr}
use mathlib.Core.Bool.{Bool, true, false}
use mathlib.Core.List.{List, [], ◌∷◌}
use Prim.Native.Nat.{ℕ, suc, ◌<◌, ◌+◌, ◌-◌}
use native.Mathlib.Omega.{arith}
use lib.ListN.{length, drop, get_or, length-drop}
use lib.Seq.{get_or-drop}
use Rattle.algebra.specs.Rational.{Rat, zero_q, mul_q}
use Rattle.algebra.specs.Polynomial as P
use Rattle.algebra.specs.Textbook.{IsRoot}
use Rattle.algebra.proofs.Ring.{mul-nil, nil-mul, nil-add, nil-factor}
use Rattle.algebra.proofs.Rational.{ℚ-ring, ℚ-domain, 0ℚ, ◌+ℚ◌, ◌*ℚ◌, val, val_same, same-val, val-zero, val-add, val-mul}
use Rattle.ratio.specs.Promise.{rat}
use Rattle.ratio.specs.Refusal.{zero_r}
use Rattle.ratio.specs.Step.{is_nil}
use Rattle.ratio.specs.declared.Ratio.{Ratio}
use Rattle.ratio.proofs.Steps.{value, zero-value}
use Rattle.terms.specs.Meaning.{rats}
use Rattle.terms.proofs.Meaning.{nil-num}
use Rattle.search.specs.Strip.{one_more_if, zeros}

-- the value of a + x l
value-cons : (a : Ratio) (l : List Ratio) (x : Rat) → val (P.value (rats (a ∷ l)) x) ≡ value a +ℚ val x *ℚ val (P.value (rats l) x)
unfolding P.value
value-cons a l x = val-add (rat a) (mul_q x (P.value (rats l) x)) ∙ ap (λ z. value a +ℚ z) (val-mul x (P.value (rats l) x))

-- of x l
value_shifted : (a : Ratio) (l : List Ratio) (x : Rat) → is_nil a.num ≡ true → val (P.value (rats (a ∷ l)) x) ≡ val x *ℚ val (P.value (rats l) x)
value_shifted a l x e = value-cons a l x ∙ ap (λ z. z +ℚ val x *ℚ val (P.value (rats l) x)) (nil-num a e) ∙ nil-add ℚ-ring (val x *ℚ val (P.value (rats l) x))

root-val : (l : List Ratio) (x : Rat) → IsRoot (rats l) x → val (P.value (rats l) x) ≡ 0ℚ
root-val l x r = val_same (P.value (rats l) x) zero_q r ∙ val-zero

val-root : (l : List Ratio) (x : Rat) → val (P.value (rats l) x) ≡ 0ℚ → IsRoot (rats l) x
val-root l x e = same-val (P.value (rats l) x) zero_q (e ∙ sym val-zero)

pub strip-sound : (l : List Ratio) (x : Rat) → IsRoot (rats (drop (zeros l) l)) x → IsRoot (rats l) x
unfolding zeros
strip-sound [] x r = r
strip-sound (a ∷ l) x r = go (is_nil a.num) refl r (strip-sound l x)
  where
    go : (t : Bool) → is_nil a.num ≡ t → IsRoot (rats (drop (one_more_if t (zeros l)) (a ∷ l))) x → (IsRoot (rats (drop (zeros l) l)) x → IsRoot (rats l) x) → IsRoot (rats (a ∷ l)) x
    go true e r again = val-root (a ∷ l) x (value_shifted a l x e ∙ ap (λ z. val x *ℚ z) (root-val l x (again r)) ∙ mul-nil ℚ-ring (val x))
    go false e r again = r

pub strip-zero : (l : List Ratio) → 0 < zeros l → IsRoot (rats l) (rat zero_r)
unfolding zeros
strip-zero [] h = absurd (omega arith)
strip-zero (a ∷ l) h = go (is_nil a.num) refl h
  where
    go : (t : Bool) → is_nil a.num ≡ t → 0 < one_more_if t (zeros l) → IsRoot (rats (a ∷ l)) (rat zero_r)
    go true e h = val-root (a ∷ l) (rat zero_r) (value_shifted a l (rat zero_r) e ∙ ap (λ z. z *ℚ val (P.value (rats l) (rat zero_r))) zero-value ∙ nil-mul ℚ-ring (val (P.value (rats l) (rat zero_r))))
    go false e h = absurd (omega arith)

pub strip-complete : (l : List Ratio) (x : Rat) → IsRoot (rats l) x → ((0 < zeros l) × (val x ≡ 0ℚ)) ⊎ IsRoot (rats (drop (zeros l) l)) x
unfolding zeros
strip-complete [] x r = inr r
strip-complete (a ∷ l) x r = go (is_nil a.num) refl (strip-complete l x)
  where
    wider : ((0 < zeros l) × (val x ≡ 0ℚ)) ⊎ IsRoot (rats (drop (zeros l) l)) x → ((0 < suc (zeros l)) × (val x ≡ 0ℚ)) ⊎ IsRoot (rats (drop (zeros l) l)) x
    wider (inl (h, e)) = inl (omega arith, e)
    wider (inr s) = inr s

    by : (val x ≡ 0ℚ) ⊎ (val (P.value (rats l) x) ≡ 0ℚ) → (IsRoot (rats l) x → ((0 < zeros l) × (val x ≡ 0ℚ)) ⊎ IsRoot (rats (drop (zeros l) l)) x) → ((0 < suc (zeros l)) × (val x ≡ 0ℚ)) ⊎ IsRoot (rats (drop (zeros l) l)) x
    by (inl e) again = inl (omega arith, e)
    by (inr e) again = wider (again (val-root l x e))

    go : (t : Bool) → is_nil a.num ≡ t → (IsRoot (rats l) x → ((0 < zeros l) × (val x ≡ 0ℚ)) ⊎ IsRoot (rats (drop (zeros l) l)) x)
        → ((0 < one_more_if t (zeros l)) × (val x ≡ 0ℚ)) ⊎ IsRoot (rats (drop (one_more_if t (zeros l)) (a ∷ l))) x
    go true e again = by (nil-factor ℚ-domain (val x) (val (P.value (rats l) x)) (sym (value_shifted a l x e) ∙ root-val (a ∷ l) x r)) again
    go false e again = inr r

-- where the top isn't zero, something is left, and it starts with what isn't zero
pub strip-some : (l : List Ratio) → 0 < length l → is_nil (get_or l (length l - 1) zero_r).num ≡ false → (0 < length (drop (zeros l) l)) × (is_nil (get_or (drop (zeros l) l) 0 zero_r).num ≡ false)
unfolding zeros
strip-some [] h e = absurd (omega arith)
strip-some (a ∷ []) h e = go (is_nil a.num) refl
  where
    go : (t : Bool) → is_nil a.num ≡ t → (0 < length (drop (one_more_if t 0) (a ∷ []))) × (is_nil (get_or (drop (one_more_if t 0) (a ∷ [])) 0 zero_r).num ≡ false)
    go true f = let z : ◌≡◌ {A = ℕ} 0 1 = cc in absurd (omega arith)
    go false f = (omega arith, f)
strip-some (a ∷ b ∷ l) h e =
    let m : length (a ∷ b ∷ l) - 1 ≡ suc (length (b ∷ l) - 1) = omega arith in
    let f : is_nil (get_or (b ∷ l) (length (b ∷ l) - 1) zero_r).num ≡ false = ap (λ i. is_nil (get_or (a ∷ b ∷ l) i zero_r).num) (sym m) ∙ e in
    go (is_nil a.num) refl (strip-some (b ∷ l) (omega arith) f)
  where
    go : (t : Bool) → is_nil a.num ≡ t → (0 < length (drop (zeros (b ∷ l)) (b ∷ l))) × (is_nil (get_or (drop (zeros (b ∷ l)) (b ∷ l)) 0 zero_r).num ≡ false)
        → (0 < length (drop (one_more_if t (zeros (b ∷ l))) (a ∷ b ∷ l))) × (is_nil (get_or (drop (one_more_if t (zeros (b ∷ l))) (a ∷ b ∷ l)) 0 zero_r).num ≡ false)
    go true f again = again
    go false f again = (omega arith, f)

-- the top of what is left is the top
pub strip-top : (k : ℕ) (l : List Ratio) → 0 < length (drop k l) → get_or (drop k l) (length (drop k l) - 1) zero_r ≡ get_or l (length l - 1) zero_r
strip-top k l h =
    let n : length (drop k l) ≡ length l - k = length-drop k l in
    let m : k + (length (drop k l) - 1) ≡ length l - 1 = omega arith in
    get_or-drop k l (length (drop k l) - 1) zero_r ∙ ap (λ i. get_or l i zero_r) m

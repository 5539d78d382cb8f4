-- A fraction that was worked out is handed back as a whole number, or refused with 2.
use mathlib.Core.Path.{◌≡◌, sym, ap, ◌∙◌}
use mathlib.Core.Bool.{Bool, true, false}
use Prim.{⊥}
use Prim.Native.Nat.{ℕ}
use borrow.Author.Tests.{eq-eqb, ne_eqb}
use lib.Dec.{eqb}
use lib.IntN.{nat_abs}
use Rattle.ratio.specs.Refusal.{Outcome, no_refusal}
use Rattle.ratio.specs.declared.Ratio.{Ratio}
use Rattle.ratio.specs.declared.Reason.TheVariants.{CoeffOverflow}
use Rattle.euclid.specs.declared.Whole.{Whole}
use Rattle.euclid.specs.Answer.{no_whole, whole_if, whole_from_if}

-- a fraction is a whole number exactly when its denominator's size is 1
module _ (r : Ratio) (k m : ℕ) (e : m ≡ nat_abs r.den) (o : Outcome) (d : o ≡ no_refusal) where
  whole-test : (b : Bool) → eqb m 1 ≡ b → whole_if b r.num k ≡ whole_from_if o r k
  whole-test b t = ap (λ (b : Bool). whole_if b r.num k) (sym t ∙ ap (λ (n : ℕ). eqb n 1) e) ∙ sym (ap (λ (o : Outcome). whole_from_if o r k) d)

  pub whole-kept : m ≡ 1 → whole_if true r.num k ≡ whole_from_if o r k
  whole-kept t = whole-test true (eq-eqb m 1 t)

  pub whole-refused : (m ≡ 1 → ⊥) → (a : Whole) → a ≡ no_whole CoeffOverflow k → a ≡ whole_from_if o r k
  whole-refused t a h = h ∙ whole-test false (ne_eqb m 1 t)

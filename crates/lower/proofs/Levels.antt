-- A constant's polynomial: the fraction that the bridge finds stands behind an open door.
use Rattle.ratio.specs.declared.Reason.{Reason}
use Rattle.std.specs.Prelude.{Result, Ok}
use mathlib.Core.Path.{◌≡◌, refl, sym, ap, subst, ◌∙◌}
use mathlib.Core.Bool.{true, false}
use mathlib.Core.List.{[], ◌∷◌}
use lib.Ieee.{Float}
use lib.ListN.{set}
use Rattle.ratio.specs.Promise.{Lowest}
use Rattle.ratio.specs.Refusal.{status_of, ratio_of}
use Rattle.ratio.specs.Step.{is_lowest, is_nil}
use Rattle.ratio.specs.declared.Ratio.{Ratio}
use Rattle.ratio.proofs.Answers.{lowest-tells}
use Rattle.bridge.specs.Search.{to_ratio}
use Rattle.bridge.specs.Promise.{Finds}
use Rattle.terms.specs.declared.Poly.{Poly}
use Rattle.terms.specs.declared.Answer.{Answer}
use Rattle.terms.specs.Poly.{poly_of, trim, drop_top}
use Rattle.terms.specs.Answer.{done_with}
use Rattle.poly.specs.Door.{open_if, enter}
use Rattle.lower.specs.Stack.{constant_by, constant_from}

module _ (c : Ratio) where
  pub level-none : is_nil c.num ≡ true → poly_of [] ≡ poly_of (trim (c ∷ []))
  unfolding drop_top
  level-none e = rw e

  pub level-some : is_nil c.num ≡ false → (z : Poly) → z ≡ poly_of [] → ◌≡◌ {A = Poly} (record { coeffs = set z.coeffs 0 c; len = 1 }) (poly_of (trim (c ∷ [])))
  unfolding drop_top
  level-some e z f = rw (f, e)

  -- what is found is in lowest terms
  pub constant-found : (x : Float) (s : Result Ratio Reason) → s ≡ Ok c → s ≡ to_ratio x → Finds x s → (r : Answer) → r ≡ done_with (poly_of (trim (c ∷ []))) 0 → r ≡ constant_from x
  constant-found x s e f g r h =
      let k : Lowest c = subst (λ (t : Result Ratio Reason). status_of t ≡ 0 → Lowest (ratio_of t)) e g.lowest refl in
      let l : is_lowest c ≡ true = (lowest-tells c).tells k in
      h ∙ ap (λ t. enter (open_if t) (done_with (poly_of (trim (c ∷ []))) 0)) (sym l) ∙ ap constant_by (sym e ∙ f)

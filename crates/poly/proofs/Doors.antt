-- Behind the door: what an operation hands back where the door is open, and where it isn't.
use Rattle.std.specs.Prelude.{Result, Err}
use mathlib.Core.Path.{◌≡◌, refl, sym, ap, ◌∙◌}
use mathlib.Core.Logic.{inl, inr}
use mathlib.Core.List.{[], ◌∷◌}
use Prim.Native.Nat.{◌<◌}
use native.Mathlib.Omega.{arith}
use borrow.Author.Tests.{lt-ltb}
use denote.Enum.Declared.{tag_of}
use types.Run.{OneOf}
use Rattle.ratio.specs.declared.Ratio.{Ratio}
use Rattle.ratio.specs.declared.Reason.{Reason}
use Rattle.terms.specs.declared.Poly.{Poly}
use Rattle.poly.specs.declared.Gate.{Gate}
use Rattle.poly.specs.declared.Gate.TheVariants.{Open, Long, Bad}
use Rattle.poly.specs.Door.{door_of, entered, enter_step, reason_of}
use Rattle.poly.specs.contracts.Gate as G

-- ---- the tests of the door

module _ (p : Poly) where
  pub door-long : 32 < p.len → Long ≡ door_of p
  door-long h = rw (lt-ltb 32 p.len h)

-- ---- a door that isn't open

-- the door d is one of two that aren't open
abbrev pub Shut : Gate → Type 0
Shut d = OneOf (1 ∷ 2 ∷ []) (tag_of G.the_type d)

shut-refuses : {X : Type 0} (refuse : Reason → X) (d : Gate) (r : X) → Shut d → refuse (reason_of d) ≡ entered refuse d r
shut-refuses refuse Open r (inl e) = absurd (omega arith)
shut-refuses refuse Open r (inr e) = absurd (omega arith)
shut-refuses refuse Long r s = refl
shut-refuses refuse Bad r s = refl

-- the door found is the model's
module _ (d m : Gate) (e : d ≡ m) (s : Shut d) (w : Reason) (f : w ≡ reason_of d) where
  pub shut-entered : {X : Type 0} (refuse : Reason → X) (r a : X) → a ≡ refuse w → a ≡ entered refuse m r
  shut-entered refuse r a h = h ∙ ap refuse f ∙ shut-refuses refuse d r s ∙ ap (λ (g : Gate). entered refuse g r) e

-- ---- a door that is

module _ (d m : Gate) (e : d ≡ m) (o : d ≡ Open) where
  pub open-entered : {X : Type 0} (refuse : Reason → X) (r a : X) → a ≡ r → a ≡ entered refuse m r
  open-entered refuse r a h = h ∙ ap (λ (g : Gate). entered refuse g r) (sym o ∙ e)

  pub open_step : (r a : Result Ratio Reason) → a ≡ r → a ≡ enter_step m r
  open_step = open-entered Err

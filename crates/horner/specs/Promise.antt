-- Demand 2 for `to_lowered`: what it writes is the same polynomial when it is read again in the same variable, exactly where each coefficient comes back from its float and the stack suffices.
use Rattle.std.specs.Prelude.{◌≡◌, List, ℕ, ◌≤◌, ◌<◌, pos, nat_abs, length, get_or, Ok}
use Rattle.ratio.specs.Refusal.{zero_r}
use Rattle.ratio.specs.declared.Ratio.{Ratio}
use Rattle.ratio.specs.declared.Reason.TheVariants.{TooLong}
use Rattle.bridge.specs.Value.{value_of}
use Rattle.bridge.specs.Search.{to_ratio}
use Rattle.bridge.specs.Promise.{exact}
use Rattle.terms.specs.declared.Poly.{Poly}
use Rattle.terms.specs.Poly.{terms_of}
use Rattle.terms.specs.Answer.{done_with, refused_with}
use Rattle.lower.specs.Run.{lower_of}
use Rattle.horner.specs.Back.{back_of}

-- each coefficient is what the bridge makes of its float
abbrev pub Survive : List Ratio → Type 0
Survive l = (i : ℕ) → i < length l → to_ratio (value_of (get_or l i zero_r)) ≡ Ok (get_or l i zero_r)

-- a whole number of at most 2^53 in size; each of these survives
abbrev pub Small : Ratio → Type 0
Small c = (c.den ≡ pos 1) × (nat_abs c.num ≤ exact)

-- the text s, read in the variable wrt; a degree above 7 needs over 16 values
pub record ReadsBack (p : Poly) (wrt : ℕ) (s : List ℕ) : Type 0 where
  pub is : lower_of wrt s ≡ back_of (terms_of p)
  pub same : length (terms_of p) ≤ 8 → Survive (terms_of p) → lower_of wrt s ≡ done_with p 0
  pub only : lower_of wrt s ≡ done_with p 0 → (length (terms_of p) ≤ 8) × Survive (terms_of p)
  pub small : length (terms_of p) ≤ 8 → ((i : ℕ) → i < length (terms_of p) → Small (get_or (terms_of p) i zero_r)) → lower_of wrt s ≡ done_with p 0
  pub deep : 8 < length (terms_of p) → lower_of wrt s ≡ refused_with TooLong 0

-- What a fraction's float is, and the promise of it.
use Rattle.std.proofs.Common.{◌≡◌, ◌≤◌, Bool, true, false, pos, nat_abs, sym, refl, ap, ◌∙◌, subst, true≢false, arith}
use lib.Signed.{lt_z}
use lib.Ieee.{Float, binary64, of_int, round}
use Rattle.std.specs.Prelude.{Result, Ok, Err}
use Rattle.ratio.specs.Refusal.{status_of}
use Rattle.ratio.specs.Step.{is_fraction, differ}
use Rattle.ratio.specs.Promise.{Fraction}
use Rattle.ratio.specs.declared.Ratio.{Ratio}
use Rattle.ratio.specs.declared.Reason.{Reason}
use Rattle.ratio.specs.declared.Reason.TheVariants.{BadInput}
use Rattle.ratio.proofs.Words.{differ-is, size_above}
use Rattle.ratio.proofs.Fractions.{fraction-of, fraction-is}
use Rattle.bridge.specs.Refusal.{float_of}
use Rattle.bridge.specs.Value.{value_of, to_float}
use Rattle.bridge.specs.Promise.{exact, Floats}
use Rattle.bridge.proofs.Whole.{has_value, div-at}

pub float-no : (r : Ratio) → is_fraction r ≡ false → Err BadInput ≡ to_float r
unfolding to_float
float-no r h = rw h

pub float-yes : (r : Ratio) → is_fraction r ≡ true → Ok (value_of r) ≡ to_float r
unfolding to_float
float-yes r h = rw h

value-nearest : (r : Ratio) → Fraction r → nat_abs r.num ≤ exact → nat_abs r.den ≤ exact
    → value_of r ≡ round binary64 (differ (lt_z r.num (pos 0)) (lt_z r.den (pos 0))) (nat_abs r.num) (nat_abs r.den)
unfolding value_of
value-nearest r f n d =
    div-at binary64 (of_int binary64 r.num) (of_int binary64 r.den) (lt_z r.num (pos 0)) (lt_z r.den (pos 0)) (nat_abs r.num) (nat_abs r.den)
    (size_above r.den f.den-some) (has_value r.num n) (has_value r.den d)
    ∙ ap (λ (s : Bool). round binary64 s (nat_abs r.num) (nat_abs r.den)) (differ-is (lt_z r.num (pos 0)) (lt_z r.den (pos 0)))

floats-by : (r : Ratio) (t : Bool) → is_fraction r ≡ t → Floats r (to_float r)
floats-by r true e =
    let is = float-yes r e in
    let f = fraction-of r e in
    record {
      answered = λ g. ap status_of (sym is);
      only = λ z. f;
      bad = λ no. absurd (no f);
      nearest = λ g n d. ap float_of (sym is) ∙ value-nearest r f n d;
    }
floats-by r false e =
    let is = float-no r e in
    let no : Fraction r → ⊥ = λ f. true≢false (sym (fraction-is r f) ∙ e) in
    record {
      answered = λ f. absurd (no f);
      only = λ z. absurd (omega (arith, ap status_of is));
      bad = λ g. ap status_of (sym is);
      nearest = λ f n d. absurd (no f);
    }

pub floats-both : (r : Ratio) (x : Result Float Reason) → x ≡ to_float r → (x ≡ to_float r) × Floats r x
floats-both r x e = (e, subst (λ (y : Result Float Reason). Floats r y) (sym e) (floats-by r (is_fraction r) refl))

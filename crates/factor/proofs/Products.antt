-- Laws of the product of the factors: a loop over the multiplicity, and one over the factors.
use Rattle.std.specs.Prelude.{Ok, Err}
use mathlib.Core.Path.{◌≡◌, refl, sym, ap, ◌∙◌}
use mathlib.Core.Bool.{Bool, true, false}
use mathlib.Core.List.{List, [], ◌∷◌}
use Prim.Native.Nat.{ℕ, suc, ◌+◌, ◌-◌, ◌<◌, ◌≤◌}
use native.Mathlib.Numerals.{add-one}
use native.Mathlib.Omega.{arith}
use lib.Dec.{ltb}
use lib.ListN.{length, drop, get_or, drop_of_length-le}
use lib.Seq.{drop-cons}
use Rattle.ratio.specs.Refusal.{Outcome, no_refusal}
use Rattle.ratio.specs.declared.Ratio.{Ratio}
use Rattle.ratio.specs.declared.Reason.{Reason}
use Rattle.terms.specs.declared.Answer.{Answer}
use Rattle.terms.specs.declared.Poly.{Poly}
use Rattle.terms.specs.Poly.{terms_of, poly_of}
use Rattle.terms.specs.Machine.{Ran, fine, plain}
use Rattle.terms.specs.Work.{multiplied}
use Rattle.terms.specs.Answer.{done_with, answer_of, unless_long, product_of}
use Rattle.terms.proofs.Lists.{terms-of-poly}
use Rattle.remainders.proofs.CodeAnswer.{done_refused}
use Rattle.yun.specs.declared.Piece.{Piece}
use Rattle.yun.specs.Got.{Got, got, none}
use Rattle.yun.proofs.CodeGot.{answer-poly}
use Rattle.splitting.specs.Pair.{Padded}
use Rattle.splitting.proofs.Places.{padded-made}
use Rattle.factor.specs.declared.Factorization.{Factorization}
use Rattle.factor.specs.Factors.{got_of, factor_for}
use Rattle.factor.specs.Rebuild.{answer_from, refused_from, raised, rebuilt, rebuilt_if, rebuild_for}
use Rattle.factor.proofs.Works.{answer-got, answer-none}

-- what a product hands back is the polynomial of its coefficients
unless-made : (t : Bool) (r : Ran ℕ (List Ratio)) → (unless_long t (answer_of r)).poly ≡ poly_of (terms_of (unless_long t (answer_of r)).poly)
unless-made true r = refl
unless-made false r = answer-poly (answer_of r) r refl

product-made : (a b : List Ratio) → (product_of a b).poly ≡ poly_of (terms_of (product_of a b).poly)
unfolding product_of
product-made [] b = answer-poly (answer_of (fine 0 [])) (fine 0 []) refl
product-made (x ∷ a) [] = answer-poly (answer_of (fine 0 [])) (fine 0 []) refl
product-made (x ∷ a) (y ∷ b) = unless-made (ltb 32 (length (x ∷ a) + length (y ∷ b) - 1)) (multiplied plain (x ∷ a) (y ∷ b) 0)

pub product-padded : (a b : List Ratio) → (r : Answer) → r ≡ product_of a b → Padded r.poly
product-padded a b r e = record { is = rw e (product-made a b) }

-- an answer of the model
pub from-got : (a : Answer) (g : Got (List Ratio)) → a ≡ answer_from g → a.outcome ≡ no_refusal → g ≡ got (terms_of a.poly)
from-got a (got l) e o = ap got (sym (terms-of-poly l) ∙ sym (ap (λ (t : Answer). terms_of t.poly) e))
from-got a (none why) e o = done_refused a.outcome why o (ap (λ (t : Answer). t.outcome) e)

pub from-none : (a : Answer) (g : Got (List Ratio)) (why : Reason) → a ≡ answer_from g → a.outcome ≡ Err why → g ≡ none why
from-none a (got l) why e o = done_refused a.outcome why (ap (λ (t : Answer). t.outcome) e) o
from-none a (none w) why e o =
    let q : Err w ≡ Err why = sym (ap (λ (t : Answer). t.outcome) e) ∙ o in
    cc

pub from-padded : (a : Answer) (g : Got (List Ratio)) → a ≡ answer_from g → Padded a.poly
from-padded a (got l) e = padded-made a.poly l (ap (λ (t : Answer). t.poly) e)
from-padded a (none why) e = padded-made a.poly [] (ap (λ (t : Answer). t.poly) e)

-- ---- a factor, as often as its multiplicity

module _ (times : ℕ) (q start : List Ratio) where
  pub record Raising (i : ℕ) (now : Poly) : Type 0 where
    pub whole : raised (times - i) q (terms_of now) ≡ raised times q start
    pub padded : Padded now

  pub raising-none : (now : Poly) → terms_of now ≡ start → Padded now → Raising 0 now
  raising-none now e p = let s : times - 0 ≡ times = omega arith in record { whole = rw (s, e); padded = p }

  module _ (i : ℕ) (now : Poly) (h : i < times) (r : Raising i now) (a : Answer) (e : a ≡ product_of (terms_of now) q) where
    pub raising-more : a.outcome ≡ no_refusal → Raising (i + 1) a.poly
    unfolding raised
    raising-more o =
        let k : times - i ≡ suc (times - suc i) = omega arith in
        let g : got_of (product_of (terms_of now) q) ≡ got (terms_of a.poly) = ap got_of (sym e) ∙ answer-got a o in
        record { whole = rw (add-one i) (rw (k, g) at r.whole); padded = product-padded (terms_of now) q a e }

    pub raising-over : (why : Reason) → a.outcome ≡ Err why → refused_from why ≡ answer_from (raised times q start)
    unfolding raised
    raising-over why o =
        let k : times - i ≡ suc (times - suc i) = omega arith in
        let g : got_of (product_of (terms_of now) q) ≡ none why = ap got_of (sym e) ∙ answer-none a why o in
        ap answer_from (rw (k, g) at r.whole)

  pub raising-all : (i : ℕ) (now : Poly) → times ≤ i → Raising i now → done_with now 0 ≡ answer_from (raised times q start)
  unfolding raised
  raising-all i now h r =
      let k : times - i ≡ 0 = omega arith in
      ap (λ (p : Poly). done_with p 0) r.padded.is ∙ ap answer_from (rw k at r.whole)

-- ---- factor after factor

module _ (all : List Piece) (start : List Ratio) where
  pub record Building (i : ℕ) (now : Poly) : Type 0 where
    pub whole : rebuilt (drop i all) (terms_of now) ≡ rebuilt all start
    pub padded : Padded now

  pub building-none : (now : Poly) → now ≡ poly_of start → Building 0 now
  building-none now e = record { whole = ap (rebuilt all) (ap terms_of e ∙ terms-of-poly start); padded = padded-made now start e }

  module _ (i : ℕ) (now : Poly) (z : Piece) (h : i < length all) (b : Building i now) (y : Piece) (g : y ≡ get_or all i z) (a : Answer) (e : a ≡ answer_from (raised y.times (terms_of y.poly) (terms_of now))) where
    same : a ≡ answer_from (raised (get_or all i z).times (terms_of (get_or all i z).poly) (terms_of now))
    same = e ∙ ap (λ (t : Piece). answer_from (raised t.times (terms_of t.poly) (terms_of now))) g

    pub building-more : a.outcome ≡ no_refusal → Building (i + 1) a.poly
    unfolding rebuilt
    building-more o =
        let n = from-got a (raised (get_or all i z).times (terms_of (get_or all i z).poly) (terms_of now)) same o in
        record { whole = rw (add-one i) (rw (drop-cons all i z h, n) at b.whole); padded = from-padded a (raised (get_or all i z).times (terms_of (get_or all i z).poly) (terms_of now)) same }

    pub building-over : (why : Reason) → a.outcome ≡ Err why → refused_from why ≡ answer_from (rebuilt all start)
    unfolding rebuilt
    building-over why o =
        let n = from-none a (raised (get_or all i z).times (terms_of (get_or all i z).poly) (terms_of now)) why same o in
        ap answer_from (rw (drop-cons all i z h, n) at b.whole)

  pub building-all : (i : ℕ) (now : Poly) → length all ≤ i → Building i now → done_with now 0 ≡ answer_from (rebuilt all start)
  unfolding rebuilt
  building-all i now h b =
      let e : drop i all ≡ [] = drop_of_length-le all h in
      ap (λ (p : Poly). done_with p 0) b.padded.is ∙ ap answer_from (rw e at b.whole)

-- ---- at the door

pub rebuild-refused : (p : Poly) (budget : ℕ) (r : Factorization) (why : Reason) → r ≡ factor_for p budget → r.outcome ≡ Err why → refused_from why ≡ rebuild_for p budget
rebuild-refused p budget r why e o = ap (λ (t : Outcome). rebuilt_if t r) (sym o) ∙ ap (λ (t : Factorization). rebuilt_if t.outcome t) e

pub rebuild-done : (p : Poly) (budget : ℕ) (r : Factorization) → r ≡ factor_for p budget → r.outcome ≡ no_refusal → rebuilt_if no_refusal r ≡ rebuild_for p budget
rebuild-done p budget r e o = ap (λ (t : Outcome). rebuilt_if t r) (sym o) ∙ ap (λ (t : Factorization). rebuilt_if t.outcome t) e

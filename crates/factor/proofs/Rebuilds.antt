-- The promise of rebuilding: an answered one is the content times the powers of the factors.
use Rattle.std.specs.Prelude.{Ok, Err}
use mathlib.Core.Path.{◌≡◌, refl, sym, ap, ap₂, subst, ◌∙◌}
use mathlib.Core.List.{List, [], ◌∷◌}
use Prim.Native.Nat.{ℕ, zero, suc, ◌≤◌}
use native.Mathlib.Omega.{arith}
use lib.ListN.{length}
use Rattle.algebra.specs.Polynomial.{scaled, product}
use Rattle.algebra.proofs.Ring.{pow, pow-zero, pow-suc}
use Rattle.algebra.proofs.Reflect.{ring!, reify}
use Rattle.algebra.proofs.Rational.{ℚ-ring}
use Rattle.algebra.proofs.Poly.{Poly-ring}
use Rattle.algebra.proofs.Lists.{ℚP, ◌*P◌, poly-equal, equal-poly, poly-product, poly-scaled, poly-constant}
use Rattle.ratio.specs.Promise.{rat, Lowest}
use Rattle.ratio.specs.Refusal.{Outcome, status_of}
use Rattle.ratio.specs.declared.Ratio.{Ratio}
use Rattle.terms.specs.declared.Answer.{Answer}
use Rattle.terms.specs.declared.Poly.{Poly}
use Rattle.terms.specs.Meaning.{rats}
use Rattle.terms.specs.Poly.{terms_of, trim}
use Rattle.terms.specs.Answer.{product_of}
use Rattle.terms.proofs.Lists.{terms-of-poly, trim-short}
use Rattle.terms.proofs.Meaning.{poly_r, poly_r-trim}
use Rattle.terms.proofs.MeaningCanonical.{Canonical, trim-canonical}
use Rattle.terms.proofs.MeaningLowest.{none-lowest, cons-lowest}
use Rattle.poly.specs.Promise.{Gives}
use Rattle.poly.proofs.Canonical.{opened, open-poly}
use Rattle.poly.proofs.Gives.{product-gives, refused-gives}
use Rattle.yun.specs.declared.Piece.{Piece}
use Rattle.yun.specs.Got.{Got, got, none}
use Rattle.yun.specs.Promise.{powers}
use Rattle.yun.proofs.MeaningPieces.{powers_p, powers-none, powers-poly}
use Rattle.splitting.proofs.MeaningAll.{powers-cons}
use Rattle.factor.specs.Factors.{got_of, factor_for}
use Rattle.factor.specs.Rebuild.{answer_from, raised, rebuilt, factors_in, rebuilt_if, rebuild_for}
use Rattle.factor.specs.Promise.{rebuilt_as}
use Rattle.factor.proofs.Promises.{then-got, got-answer, content-is-lowest}

-- what a product under way is
record Made (l : List Ratio) (p : ℚP) : Type 0 where
  is : poly_r l ≡ p
  canonical : Canonical l
  short : length l ≤ 32

-- one multiplication
times-made : (acc q l : List Ratio) → got_of (product_of acc q) ≡ got l → Made l (poly_r acc *P poly_r q)
times-made acc q l e =
    let a = got-answer (product_of acc q).outcome (terms_of (product_of acc q).poly) l e in
    let g = product-gives acc q in
    let o = opened (product_of acc q).poly g.canonical in
    record {
      is = ap poly_r (sym a.1) ∙ equal-poly _ (product (rats acc) (rats q)) (g.is (ap status_of a.0)) ∙ poly-product (rats acc) (rats q);
      canonical = subst Canonical a.1 o.canonical;
      short = subst (λ t. length t ≤ 32) a.1 o.few;
    }

turn : (a x y : ℚP) → (a *P x) *P y ≡ a *P (y *P x)
turn a x y = ring! (Poly-ring ℚ-ring) (a ∷ x ∷ y ∷ []) (search reify depth 30 fits 20000) tt

straight : (a x y : ℚP) → (a *P x) *P y ≡ a *P (x *P y)
straight a x y = ring! (Poly-ring ℚ-ring) (a ∷ x ∷ y ∷ []) (search reify depth 30 fits 20000) tt

raised-made : (n : ℕ) (q acc : List Ratio) → Canonical acc → length acc ≤ 32 → (l : List Ratio) → raised n q acc ≡ got l → Made l (poly_r acc *P pow (Poly-ring ℚ-ring) (poly_r q) n)
unfolding raised
raised-made zero q acc c h l e =
    let z : acc ≡ l = cc in
    record {
      is = ap poly_r (sym z) ∙ sym (ap (λ t. poly_r acc *P t) (pow-zero (Poly-ring ℚ-ring) (poly_r q)) ∙ (Poly-ring ℚ-ring).mul-one (poly_r acc));
      canonical = subst Canonical z c;
      short = subst (λ t. length t ≤ 32) z h;
    }
raised-made (suc n) q acc c h l e =
    let t = then-got (got_of (product_of acc q)) (λ acc. raised n q acc) l e in
    let m = times-made acc q t.value t.first in
    let r = raised-made n q t.value m.canonical m.short l t.then in
    record {
      is =
          r.is ∙ ap (λ z. z *P pow (Poly-ring ℚ-ring) (poly_r q) n) m.is ∙ turn (poly_r acc) (poly_r q) (pow (Poly-ring ℚ-ring) (poly_r q) n)
          ∙ ap (λ z. poly_r acc *P z) (sym (pow-suc (Poly-ring ℚ-ring) (poly_r q) n));
      canonical = r.canonical;
      short = r.short;
    }

rebuilt-made : (all : List Piece) (acc : List Ratio) → Canonical acc → length acc ≤ 32 → (l : List Ratio) → rebuilt all acc ≡ got l → Made l (poly_r acc *P powers_p all)
unfolding rebuilt
rebuilt-made [] acc c h l e =
    let z : acc ≡ l = cc in
    record {
      is = ap poly_r (sym z) ∙ sym (ap (λ t. poly_r acc *P t) powers-none ∙ (Poly-ring ℚ-ring).mul-one (poly_r acc));
      canonical = subst Canonical z c;
      short = subst (λ t. length t ≤ 32) z h;
    }
rebuilt-made (p ∷ all) acc c h l e =
    let t = then-got (raised p.times (terms_of p.poly) acc) (λ acc. rebuilt all acc) l e in
    let m = raised-made p.times (terms_of p.poly) acc c h t.value t.first in
    let r = rebuilt-made all t.value m.canonical m.short l t.then in
    record {
      is =
          r.is ∙ ap (λ z. z *P powers_p all) m.is ∙ straight (poly_r acc) (pow (Poly-ring ℚ-ring) (poly_r (terms_of p.poly)) p.times) (powers_p all)
          ∙ ap (λ z. poly_r acc *P z) (sym (powers-cons p all));
      canonical = r.canonical;
      short = r.short;
    }

-- ---- what is handed back

module _ (c : Ratio) (low : Lowest c) (all : List Piece) where
  start-canonical : Canonical (trim (c ∷ []))
  start-canonical = trim-canonical (c ∷ []) (cons-lowest c [] low none-lowest)

  from_gives : (g : Got (List Ratio)) → rebuilt all (trim (c ∷ [])) ≡ g → Gives (scaled (rat c) (powers all)) (answer_from g)
  from_gives (got l) e =
      let m = rebuilt-made all (trim (c ∷ [])) start-canonical (omega (arith, trim-short (c ∷ []))) l e in
      record {
        is = λ s. poly-equal _ (scaled (rat c) (powers all))
            (ap poly_r (terms-of-poly l) ∙ m.is ∙ ap₂ ◌*P◌ (poly_r-trim (c ∷ []) ∙ poly-constant (rat c)) (sym (powers-poly all)) ∙ sym (poly-scaled (rat c) (powers all)));
        canonical = open-poly l m.short m.canonical;
      }
  from_gives (none why) e = refused-gives (scaled (rat c) (powers all)) why 0

module _ (p : Poly) (budget : ℕ) where
  outcome-gives : (o : Outcome) → (factor_for p budget).outcome ≡ o → Gives (rebuilt_as p budget) (rebuilt_if o (factor_for p budget))
  outcome-gives (Ok _) e = from_gives (factor_for p budget).content (content-is-lowest p budget (ap status_of e)) (factors_in (factor_for p budget)) (rebuilt (factors_in (factor_for p budget)) (trim ((factor_for p budget).content ∷ []))) refl
  outcome-gives (Err why) e = refused-gives (rebuilt_as p budget) why 0

  pub rebuild-both : (r : Answer) → r ≡ rebuild_for p budget → (r ≡ rebuild_for p budget) × Gives (rebuilt_as p budget) r
  rebuild-both r e = (e, subst (Gives (rebuilt_as p budget)) (sym e) (outcome-gives (factor_for p budget).outcome refl))

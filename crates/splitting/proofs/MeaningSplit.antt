-- Splitting: the powers of the factors multiply to what was to be split, and every factor has degree at least 1.
use Rattle.std.specs.Prelude.{Ok, Err}
use mathlib.Core.Path.{◌≡◌, refl, sym, ap, subst, ◌∙◌}
use mathlib.Core.Bool.{Bool, true, false, cond}
use mathlib.Core.List.{List, [], ◌∷◌}
use Prim.Native.Nat.{ℕ, zero, suc, ◌+◌, ◌≤◌}
use native.Mathlib.Omega.{arith}
use borrow.Author.Tests.{ltb-true, ltb-false, eqb-false}
use lib.Dec.{ltb, eqb}
use lib.ListN.{length}
use Rattle.algebra.proofs.Ring.{pow, pow-mul}
use Rattle.algebra.proofs.Reflect.{ring!, reify}
use Rattle.algebra.proofs.Rational.{ℚ-ring}
use Rattle.algebra.proofs.Poly.{Poly-ring}
use Rattle.algebra.proofs.Lists.{ℚP, ◌*P◌}
use Rattle.algebra.proofs.ListWords.{root-from}
use Rattle.ratio.specs.Refusal.{Outcome, no_refusal}
use Rattle.ratio.specs.declared.Ratio.{Ratio}
use Rattle.terms.specs.Meaning.{rats}
use Rattle.terms.proofs.Meaning.{poly_r}
use Rattle.terms.proofs.MeaningCanonical.{Canonical}
use Rattle.remainders.specs.Divide.{split}
use Rattle.search.specs.Answer.{roots_of}
use Rattle.search.proofs.Kept.{Has, here, there}
use Rattle.search.proofs.MeaningAnswer.{roots-found}
use Rattle.yun.specs.declared.Piece.{Piece}
use Rattle.yun.specs.Got.{Got, got, none, then_got}
use Rattle.yun.proofs.MeaningPieces.{powers_p}
use Rattle.splitting.specs.Peel.{added, Peel, start, peeled, roots_in}
use Rattle.splitting.specs.Pair.{Halves, whole, both, pair_of}
use Rattle.splitting.specs.Split.{Found, on_roots, on_halves, split_onto}
use Rattle.splitting.proofs.Shorter.{parts_below, halved, cut, factor-is, factor-long}
use Rattle.splitting.proofs.MeaningParts.{NoRoot, rootless-divisor, rootless, Ready, Grown, constant-grown, added-grown}
use Rattle.splitting.proofs.MeaningPeel.{Whole, parts_whole, Peels, all-peels}

-- ---- an answered search that found nothing

none_has : {P : Ratio → Type 0} (l : List Ratio) → length l ≡ 0 → Has P l → ⊥
none_has {P = P} [] e x'' = elim x'' [ ]
none_has (a ∷ l) e (here p) = omega arith
none_has (a ∷ l) e (there h) = omega arith

no-roots : (f : List Ratio) (budget : ℕ) → Canonical f → 1 ≤ length f → length f ≤ 32 → (roots_of f budget).outcome ≡ no_refusal → (roots_of f budget).len ≤ 0 → NoRoot (poly_r f)
unfolding NoRoot
no-roots f budget c s h o z x e =
    let r = roots-found f budget h (omega (arith, ap length c.trimmed)) o in
    none_has r.kept (omega (arith, r.size)) (r.complete x (root-from (rats f) x e))

-- ---- one call, given that the inner ones are right

module _ (times budget : ℕ) where
  Meant : List Piece → List Ratio → Found → Type 0
  Meant found f g = (l : List Piece) → g ≡ got l → Grown times found f l

  -- what an inner call is told
  Inner : ℕ → Type 0
  Inner k = (f : List Ratio) (found : List Piece) → length f ≤ k → Ready found f → Meant found f (split_onto k f times budget found)

  got-meant : (found : List Piece) (f : List Ratio) (m : List Piece) → Grown times found f m → Meant found f (got m)
  unfolding Meant
  got-meant found f m g l e = let z : m ≡ l = cc in subst (Grown times found f) z g

  module _ (k : ℕ) (inner : Inner k) (f : List Ratio) (found : List Piece) (bound : length f ≤ suc k) (r : Ready found f) where
    -- dividing out the roots, and Kronecker's method
    abbrev peel_work : Found
    peel_work = then_got (peeled times (roots_in (roots_of f budget)) (start found f)) (λ m. cond (ltb (length m.rest) (length f)) (split_onto k m.rest times budget m.found) (got (added m.rest times m.found)))

    abbrev pair_work : Found
    pair_work = then_got (pair_of f budget) (λ h. on_halves h (got (added f times found)) (λ g q. then_got (split_onto k g times budget found) (λ m. split_onto k q times budget m)))

    abbrev root_work : Found
    root_work = cond (ltb 0 (roots_of f budget).len) peel_work pair_work

    whole-meant : 2 ≤ length f → Meant found f (got (added f times found))
    whole-meant h = got-meant found f _ (added-grown times found f r.parts r.canonical h r.short (omega (arith, r.room)))

    -- what was peeled off and what is left of it
    rest-meant : (m : Peel) → Peels times found f m → 3 ≤ length f → (b : Bool) → ltb (length m.rest) (length f) ≡ b → Meant found f (cond b (split_onto k m.rest times budget m.found) (got (added m.rest times m.found)))
    unfolding Meant Inner
    rest-meant m p h true t l e =
        let g = inner m.rest m.found (omega (arith, ltb-true (length m.rest) (length f) t)) p.ready l e in
        record { is = g.is ∙ p.is; parts = g.parts; few = omega (arith, g.few, p.few) }
    rest-meant m p h false t l e =
        let s : length f ≤ length m.rest = ltb-false (length m.rest) (length f) t in
        let g = added-grown times m.found m.rest p.ready.parts p.ready.canonical (omega arith) p.ready.short (omega (arith, p.ready.room)) in
        got-meant found f (added m.rest times m.found) (record { is = g.is ∙ p.is; parts = g.parts; few = omega (arith, g.few, p.few) }) l e

    peel-meant : 3 ≤ length f → (g : Got Peel) → peeled times (roots_in (roots_of f budget)) (start found f) ≡ g
        → Meant found f (then_got g (λ m. cond (ltb (length m.rest) (length f)) (split_onto k m.rest times budget m.found) (got (added m.rest times m.found))))
    unfolding Meant
    peel-meant h (got m) q = rest-meant m (all-peels times (roots_in (roots_of f budget)) found f r m q) h (ltb (length m.rest) (length f)) refl
    peel-meant h (none why) q = λ l e. absurd (let z : ◌≡◌ {A = ℕ} 0 1 = cc in omega arith)

    -- two factors, neither with a root
    module _ (h : 3 ≤ length f) (n : NoRoot (poly_r f)) (g q : List Ratio) (p : pair_of f budget ≡ got (both g q)) where
      g-canonical : Canonical g
      g-canonical =
          let c = cut f budget g q p in
          let e = factor-is f budget g q p in
          subst Canonical e (record { lowest = c.lowest; trimmed = c.trimmed })

      exact : Whole f g q
      exact = parts_whole f g q r.canonical g-canonical (halved f budget g q p).parts

      g-long : 2 ≤ length g
      g-long = factor-long f budget g q p

      q-long : 2 ≤ length q
      q-long = (halved f budget g q p).long

      sizes : length q + length g ≤ length f + 1
      sizes = omega (arith, g-long, q-long, (parts_below f g (split q []) r.some (omega (arith, g-long)) (halved f budget g q p).parts).few-terms)

      g-ready : Ready found g
      g-ready = record {
        parts = r.parts;
        canonical = g-canonical;
        some = omega (arith, g-long);
        short = omega (arith, sizes, q-long, r.short);
        sound = rootless g-long (rootless-divisor (poly_r g) (poly_r f) (poly_r q, exact.is) n);
        room = omega (arith, sizes, q-long, r.room);
      }

      q-ready : (m : List Piece) → Grown times found g m → Ready m q
      q-ready m u = record {
        parts = u.parts;
        canonical = exact.canonical;
        some = omega (arith, q-long);
        short = omega (arith, sizes, g-long, r.short);
        sound = rootless q-long (rootless-divisor (poly_r q) (poly_r f) (poly_r g, exact.is ∙ (Poly-ring ℚ-ring).mul_comm (poly_r q) (poly_r g)) n);
        room = omega (arith, sizes, u.few, r.room);
      }

      regroup : (a x y : ℚP) → (a *P x) *P y ≡ a *P (y *P x)
      regroup a x y = ring! (Poly-ring ℚ-ring) (a ∷ x ∷ y ∷ []) (search reify depth 30 fits 20000) tt

      both-grown : (m l : List Piece) → Grown times found g m → Grown times m q l → Grown times found f l
      both-grown m l u v = record {
        is =
            v.is ∙ ap (λ t. t *P pow (Poly-ring ℚ-ring) (poly_r q) times) u.is
            ∙ regroup (powers_p found) (pow (Poly-ring ℚ-ring) (poly_r g) times) (pow (Poly-ring ℚ-ring) (poly_r q) times)
            ∙ ap (λ t. powers_p found *P t) (sym (ap (λ t. pow (Poly-ring ℚ-ring) t times) exact.is ∙ pow-mul (Poly-ring ℚ-ring) (poly_r q) (poly_r g) times));
        parts = v.parts;
        few = omega (arith, u.few, v.few, sizes);
      }

      both-meant : (w : Found) → split_onto k g times budget found ≡ w → Meant found f (then_got w (λ m. split_onto k q times budget m))
      unfolding Meant Inner
      both-meant (got m) e l z =
          let u = inner g found (omega (arith, sizes, q-long, bound)) g-ready m e in
          both-grown m l u (inner q m (omega (arith, sizes, g-long, bound)) (q-ready m u) l z)
      both-meant (none why) e l z = absurd (let z : ◌≡◌ {A = ℕ} 0 1 = cc in omega arith)

    halves-meant : 3 ≤ length f → NoRoot (poly_r f) → (w : Halves) → pair_of f budget ≡ got w → Meant found f (on_halves w (got (added f times found)) (λ g q. then_got (split_onto k g times budget found) (λ m. split_onto k q times budget m)))
    halves-meant h n whole p = whole-meant (omega arith)
    halves-meant h n (both g q) p = both-meant h n g q p (split_onto k g times budget found) refl

    pair-meant : 3 ≤ length f → NoRoot (poly_r f) → (w : Got Halves) → pair_of f budget ≡ w
        → Meant found f (then_got w (λ h. on_halves h (got (added f times found)) (λ g q. then_got (split_onto k g times budget found) (λ m. split_onto k q times budget m))))
    unfolding Meant
    pair-meant h n (got w) p = halves-meant h n w p
    pair-meant h n (none why) p = λ l e. absurd (let z : ◌≡◌ {A = ℕ} 0 1 = cc in omega arith)

    roots-meant : 3 ≤ length f → (roots_of f budget).outcome ≡ no_refusal → (b : Bool) → ltb 0 (roots_of f budget).len ≡ b
        → Meant found f (cond b peel_work pair_work)
    roots-meant h o true t = peel-meant h (peeled times (roots_in (roots_of f budget)) (start found f)) refl
    roots-meant h o false t = pair-meant h (no-roots f budget r.canonical r.some r.short o (ltb-false 0 (roots_of f budget).len t)) (pair_of f budget) refl

    outcome-meant : 3 ≤ length f → (o : Outcome) → (roots_of f budget).outcome ≡ o
        → Meant found f (on_roots o root_work)
    unfolding Meant
    outcome-meant h (Ok _) e = roots-meant h e (ltb 0 (roots_of f budget).len) refl
    outcome-meant h (Err why) e = λ l z. absurd (let z : ◌≡◌ {A = ℕ} 0 1 = cc in omega arith)

    longer : 2 ≤ length f → (length f ≡ 2 → ⊥) → 3 ≤ length f
    longer h n = omega arith

    line-meant : 2 ≤ length f → (b : Bool) → eqb (length f) 2 ≡ b → Meant found f (cond b (got (added f times found)) (on_roots (roots_of f budget).outcome root_work))
    line-meant h true e = whole-meant h
    line-meant h false e = outcome-meant (longer h (eqb-false (length f) 2 e)) (roots_of f budget).outcome refl

    call-meant : (b : Bool) → ltb (length f) 2 ≡ b → Meant found f (cond b (got found) (cond (eqb (length f) 2) (got (added f times found)) (on_roots (roots_of f budget).outcome root_work)))
    call-meant true e = got-meant found f found (constant-grown times found f r (ltb-true (length f) 2 e))
    call-meant false e = line-meant (ltb-false (length f) 2 e) (eqb (length f) 2) refl

  inner-meant : (k : ℕ) → Inner k
  unfolding Inner split_onto Meant
  inner-meant zero f found h r = absurd (omega (arith, r.some))
  inner-meant (suc k) f found h r = call-meant k (inner-meant k) f found h r (ltb (length f) 2) refl

  pub split-means : (k : ℕ) (f : List Ratio) (found : List Piece) → length f ≤ k → Ready found f → (l : List Piece) → split_onto k f times budget found ≡ got l → Grown times found f l
  unfolding Inner Meant
  split-means k f found h r l e = inner-meant k f found h r l e

-- Dividing out a root: what was found times what is left stays the same, and what is left may be split still.
use Rattle.ratio.specs.declared.Reason.{Reason}
use Rattle.std.specs.Prelude.{Result, Ok, Err}
use mathlib.Core.Path.{◌≡◌, refl, sym, ap, subst, ◌∙◌}
use mathlib.Core.List.{List, [], ◌∷◌}
use Prim.Native.Nat.{ℕ, zero, suc, ◌+◌, ◌-◌, ◌≤◌}
use native.Mathlib.Omega.{arith}
use lib.IntN.{pos}
use lib.ListN.{length}
use Rattle.algebra.specs.Rational.{zero_q, one_q}
use Rattle.algebra.specs.Polynomial.{coeff, Equal}
use Rattle.algebra.proofs.Ring.{pow, pow-mul}
use Rattle.algebra.proofs.Reflect.{ring!, reify}
use Rattle.algebra.proofs.Rational.{ℚ-ring, ℚ-domain, 0ℚ, same_refl}
use Rattle.algebra.proofs.Poly.{Poly-ring}
use Rattle.algebra.proofs.Divides.{Dvd}
use Rattle.algebra.proofs.Evaluation.{ev}
use Rattle.algebra.proofs.Roots.{linear, monic-linear, divides-root}
use Rattle.algebra.proofs.Monic.{MonicP, monic-quotient, monic-not-nil}
use Rattle.algebra.proofs.Lists.{ℚP, ◌*P◌, x_minus, poly-x_minus, equal-poly, poly-empty}
use Rattle.ratio.specs.Promise.{rat}
use Rattle.ratio.specs.Step.{neg_of}
use Rattle.ratio.specs.declared.Ratio.{Ratio}
use Rattle.ratio.proofs.Steps.{value, neg-done}
use Rattle.terms.specs.Machine.{whole_r, Ran, fine, over, plain}
use Rattle.terms.specs.Meaning.{rats}
use Rattle.terms.proofs.Meaning.{poly_r}
use Rattle.terms.proofs.MeaningCanonical.{Canonical}
use Rattle.terms.proofs.MeaningLowest.{none-lowest, cons-lowest}
use Rattle.terms.proofs.MeaningRefusal.{whole-lowest}
use Rattle.terms.proofs.MeaningTop.{trim-nothing}
use Rattle.remainders.specs.Divide.{Split, split, divided}
use Rattle.remainders.proofs.MeaningDivision.{cons-some, Divided, divided-poly, divided-means}
use Rattle.remainders.proofs.MeaningFree.{nothing-remains}
use Rattle.yun.specs.declared.Piece.{Piece}
use Rattle.yun.specs.Got.{Got, got, none, then_got, split_from, parts_of}
use Rattle.yun.proofs.MeaningPieces.{powers_p}
use Rattle.splitting.specs.Peel.{added, line, line_from, Peel, start, peel_if, peel_one, peeled}
use Rattle.splitting.proofs.Shorter.{parts_below}
use Rattle.splitting.proofs.MeaningParts.{NoRoot, Sound, monic, rootless, Ready, added-grown}

-- ---- a division without a rest

split-worked : (r : Ran ℕ (Split Ratio)) (s : Split Ratio) → split_from r ≡ got s → (k : ℕ) × (r ≡ fine k s)
split-worked (fine k m) s e = (k, cc)
split-worked (over k) s e = absurd (let z : ◌≡◌ {A = ℕ} 0 1 = cc in omega arith)

pub record Whole (a b q : List Ratio) : Type 0 where
  pub is : poly_r a ≡ poly_r q *P poly_r b
  pub canonical : Canonical q

pub parts_whole : (a b q : List Ratio) → Canonical a → Canonical b → parts_of a b ≡ got (split q []) → Whole a b q
unfolding parts_of
parts_whole a [] q ca cb e = absurd (let z : ◌≡◌ {A = ℕ} 0 1 = cc in omega arith)
parts_whole a (y ∷ b) q ca cb e =
    let (k, f) = split-worked (divided plain a (y ∷ b) 0) (split q []) e in
    let d : Divided a (y ∷ b) (split q []) = divided-means a (y ∷ b) ca cb (cons-some y b) 0 k (split q []) f in
    record { is = nothing-remains a (y ∷ b) q (divided-poly a (y ∷ b) (split q []) d); canonical = d.quotient-canonical }

-- ---- x less r

module _ (r n : Ratio) (e : neg_of r ≡ Ok n) where
  line-equal : Equal (rats (line n)) (x_minus (rat r))
  unfolding coeff
  line-equal zero = (neg-done r n e).0
  line-equal (suc zero) = same_refl one_q
  line-equal (suc (suc i)) = same_refl zero_q

  line-is : poly_r (line n) ≡ linear ℚ-ring (value r)
  line-is = equal-poly (rats (line n)) (x_minus (rat r)) line-equal ∙ poly-x_minus (rat r)

  line-monic : MonicP ℚ-ring (poly_r (line n))
  line-monic = subst (MonicP ℚ-ring) (sym line-is) (monic-linear ℚ-ring (value r))

  line-canonical : Canonical (line n)
  line-canonical = record {
    lowest = cons-lowest n (whole_r (pos 1) ∷ []) (neg-done r n e).1 (cons-lowest (whole_r (pos 1)) [] (whole-lowest 1 (omega arith)) none-lowest);
    trimmed = trim-nothing (line n) 1 refl refl;
  }

  line-root : (p : ℚP) → Dvd (Poly-ring ℚ-ring) (poly_r (line n)) p → ev ℚ-ring p (value r) ≡ 0ℚ
  line-root p d = divides-root ℚ-ring p (value r) (subst (λ t. Dvd (Poly-ring ℚ-ring) t p) line-is d)

-- ---- one root

module _ (times : ℕ) where
  -- what was found times what is left
  abbrev total : List Piece → List Ratio → ℚP
  total found f = powers_p found *P pow (Poly-ring ℚ-ring) (poly_r f) times

  pub record Peels (found : List Piece) (f : List Ratio) (l : Peel) : Type 0 where
    pub is : total l.found l.rest ≡ total found f
    pub ready : Ready l.found l.rest
    pub few : length l.found + length l.rest ≤ length found + length f

  same-peels : (found : List Piece) (f : List Ratio) → Ready found f → Peels found f (start found f)
  same-peels found f r = record { is = refl; ready = r; few = omega arith }

  regroup : (a x q : ℚP) → (a *P x) *P q ≡ a *P (q *P x)
  regroup a x q = ring! (Poly-ring ℚ-ring) (a ∷ x ∷ q ∷ []) (search reify depth 30 fits 20000) tt

  module _ (found : List Piece) (f : List Ratio) (r : Ready found f) (root n : Ratio) (e : neg_of root ≡ Ok n) where
    module _ (q : List Ratio) (p : parts_of f (line n) ≡ got (split q [])) where
      exact : Whole f (line n) q
      exact = parts_whole f (line n) q r.canonical (line-canonical root n e) p

      shorter : length q ≤ length f - 1
      shorter = omega (arith, (parts_below f (line n) (split q []) r.some (omega arith) p).few-terms)

      -- a polynomial without a root has no such divisor
      no-root : NoRoot (poly_r f) → ⊥
      unfolding NoRoot
      no-root k = k (rat root) (line-root root n e (poly_r f) (poly_r q, exact.is))

      left-monic : Sound f → MonicP ℚ-ring (poly_r q)
      left-monic (monic m) = monic-quotient ℚ-domain (poly_r q) (poly_r (line n)) (line-monic root n e) (subst (MonicP ℚ-ring) exact.is m)
      left-monic (rootless h k) = absurd (no-root k)

      left-some : (q : List Ratio) → MonicP ℚ-ring (poly_r q) → 1 ≤ length q
      left-some [] m = absurd (monic-not-nil ℚ-domain (poly_r []) m poly-empty)
      left-some (x ∷ q) m = omega arith

      divided-peels : Peels found f (start (added (line n) times found) q)
      divided-peels =
          let m = left-monic r.sound in
          let s = left-some q m in
          let g = added-grown times found (line n) r.parts (line-canonical root n e) (omega arith) (omega arith) (omega (arith, r.room, shorter)) in
          record {
            is =
                ap (λ t. t *P pow (Poly-ring ℚ-ring) (poly_r q) times) g.is
                ∙ regroup (powers_p found) (pow (Poly-ring ℚ-ring) (poly_r (line n)) times) (pow (Poly-ring ℚ-ring) (poly_r q) times)
                ∙ ap (λ t. powers_p found *P t) (sym (ap (λ t. pow (Poly-ring ℚ-ring) t times) exact.is ∙ pow-mul (Poly-ring ℚ-ring) (poly_r q) (poly_r (line n)) times));
            ready = record { parts = g.parts; canonical = exact.canonical; some = s; short = omega (arith, r.short, shorter); sound = monic m; room = omega (arith, g.few, r.room, shorter) };
            few = omega (arith, g.few, shorter, s);
          }

    rest-peels : (s : Split Ratio) → parts_of f (line n) ≡ got s → (l : List Ratio) → s.rest ≡ l → Peels found f (peel_if l times (line n) s.quotient (start found f))
    rest-peels s p (y ∷ l) t = same-peels found f r
    rest-peels s p [] t = divided-peels s.quotient (p ∙ ap (λ z. got (split s.quotient z)) t)

    parts-peel : (g : Got (Split Ratio)) → parts_of f (line n) ≡ g → (l : Peel) → then_got g (λ s. got (peel_if s.rest times (line n) s.quotient (start found f))) ≡ got l → Peels found f l
    parts-peel (got s) p l h = let z : peel_if s.rest times (line n) s.quotient (start found f) ≡ l = cc in subst (Peels found f) z (rest-peels s p s.rest refl)
    parts-peel (none why) p l h = absurd (let z : ◌≡◌ {A = ℕ} 0 1 = cc in omega arith)

  line-peels : (found : List Piece) (f : List Ratio) → Ready found f → (root : Ratio) (s : Result Ratio Reason) → neg_of root ≡ s → (l : Peel) → then_got (line_from s) (λ x. then_got (parts_of f x) (λ s. got (peel_if s.rest times x s.quotient (start found f)))) ≡ got l → Peels found f l
  line-peels found f r root (Ok n) e l h = parts-peel found f r root n e (parts_of f (line n)) refl l h
  line-peels found f r root (Err why) e l h = absurd (let z : ◌≡◌ {A = ℕ} 0 1 = cc in omega arith)

  one-peels : (found : List Piece) (f : List Ratio) → Ready found f → (root : Ratio) (l : Peel) → peel_one times root (start found f) ≡ got l → Peels found f l
  unfolding peel_one
  one-peels found f r root l h = line-peels found f r root (neg_of root) refl l h

  -- ---- all roots

  then-peels : (found : List Piece) (f : List Ratio) (m l : Peel) → Peels found f m → Peels m.found m.rest l → Peels found f l
  then-peels found f m l p q = record { is = q.is ∙ p.is; ready = q.ready; few = omega (arith, p.few, q.few) }

  step-peels : (root : Ratio) (roots : List Ratio) → ((found : List Piece) (f : List Ratio) → Ready found f → (l : Peel) → peeled times roots (start found f) ≡ got l → Peels found f l)
      → (found : List Piece) (f : List Ratio) → Ready found f → (g : Got Peel) → peel_one times root (start found f) ≡ g → (l : Peel) → then_got g (peeled times roots) ≡ got l → Peels found f l
  step-peels root roots more found f r (got m) e l h =
      let p = one-peels found f r root m e in
      then-peels found f m l p (more m.found m.rest p.ready l h)
  step-peels root roots more found f r (none why) e l h = absurd (let z : ◌≡◌ {A = ℕ} 0 1 = cc in omega arith)

  pub all-peels : (roots : List Ratio) (found : List Piece) (f : List Ratio) → Ready found f → (l : Peel) → peeled times roots (start found f) ≡ got l → Peels found f l
  unfolding peeled
  all-peels [] found f r l h = let z : start found f ≡ l = cc in subst (Peels found f) z (same-peels found f r)
  all-peels (root ∷ roots) found f r l h = step-peels root roots (all-peels roots) found f r (peel_one times root (start found f)) refl l h

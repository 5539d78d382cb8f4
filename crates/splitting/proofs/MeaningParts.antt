-- What splitting works on and what it hands back: factors of degree at least 1 whose powers multiply to what was to be split.
use mathlib.Core.Path.{◌≡◌, sym, ap, subst, ◌∙◌}
use mathlib.Core.List.{List, [], ◌∷◌, ◌++◌}
use Prim.Native.Nat.{ℕ, ◌+◌, ◌<◌, ◌≤◌}
use native.Mathlib.Omega.{arith}
use borrow.Author.Tests.{lt-ltb}
use lib.ListN.{length, length-append}
use Rattle.algebra.specs.Rational.{Rat}
use Rattle.algebra.proofs.Ring.{pow, one-pow}
use Rattle.algebra.proofs.Rational.{ℚ-ring, ℚ-domain, 0ℚ, 1ℚ, val}
use Rattle.algebra.proofs.Poly.{con_p, Poly-ring}
use Rattle.algebra.proofs.Divides.{Dvd}
use Rattle.algebra.proofs.Evaluation.{ev}
use Rattle.algebra.proofs.Roots.{root-multiple}
use Rattle.algebra.proofs.Monic.{MonicP, monic-constant}
use Rattle.algebra.proofs.Lists.{ℚP, ◌*P◌}
use Rattle.ratio.specs.declared.Ratio.{Ratio}
use Rattle.terms.specs.Poly.{terms_of, poly_of}
use Rattle.terms.proofs.Lists.{terms-of-poly}
use Rattle.terms.proofs.Meaning.{poly_r, poly_r-below}
use Rattle.terms.proofs.MeaningCanonical.{Canonical}
use Rattle.yun.specs.declared.Piece.{Piece}
use Rattle.yun.specs.Promise.{Every}
use Rattle.yun.specs.Round.{piece}
use Rattle.yun.proofs.MeaningPieces.{powers_p, powers-more, every_more}
use Rattle.splitting.specs.Peel.{added}

-- a factor: canonical, of degree at least 1
pub record Part (p : Piece) : Type 0 where
  pub canonical : Canonical (terms_of p.poly)
  pub made : p.poly ≡ poly_of (terms_of p.poly)
  pub long : 2 ≤ length (terms_of p.poly)
  pub short : length (terms_of p.poly) ≤ 32

unfoldable pub NoRoot : ℚP → Type 0
NoRoot p = (x : Rat) → ev ℚ-ring p (val x) ≡ 0ℚ → ⊥

-- a root of a divisor is a root
pub rootless-divisor : (d p : ℚP) → Dvd (Poly-ring ℚ-ring) d p → NoRoot p → NoRoot d
unfolding NoRoot
rootless-divisor d p z h x e = h x (root-multiple ℚ-ring d p (val x) z e)

-- what may be split so that no constant is lost: it is monic, or has degree at least 1 and no rational root
pub data Sound (f : List Ratio) : Type 0 where
  monic : MonicP ℚ-ring (poly_r f) → Sound f
  rootless : 2 ≤ length f → NoRoot (poly_r f) → Sound f

-- there is room for as many factors as the degree says
pub record Ready (found : List Piece) (f : List Ratio) : Type 0 where
  pub parts : Every Part found
  pub canonical : Canonical f
  pub some : 1 ≤ length f
  pub short : length f ≤ 32
  pub sound : Sound f
  pub room : length found + length f ≤ 33

module _ (times : ℕ) where
  pub record Grown (found : List Piece) (f : List Ratio) (l : List Piece) : Type 0 where
    pub is : powers_p l ≡ powers_p found *P pow (Poly-ring ℚ-ring) (poly_r f) times
    pub parts : Every Part l
    pub few : length l + 1 ≤ length found + length f

  -- a constant that is monic is 1
  pub constant-grown : (found : List Piece) (f : List Ratio) → Ready found f → length f < 2 → Grown found f found
  constant-grown found f r h = record { is = go r.sound; parts = r.parts; few = omega (arith, r.some) }
    where
      go : Sound f → powers_p found ≡ powers_p found *P pow (Poly-ring ℚ-ring) (poly_r f) times
      go (monic m) =
          let e : poly_r f ≡ con_p ℚ-ring 1ℚ = monic-constant ℚ-domain (poly_r f) m (λ i k. poly_r-below f i (omega arith)) in
          sym (ap (λ t. powers_p found *P t) (ap (λ t. pow (Poly-ring ℚ-ring) t times) e ∙ one-pow (Poly-ring ℚ-ring) times) ∙ (Poly-ring ℚ-ring).mul-one (powers_p found))
      go (rootless k n) = absurd (omega arith)

  pub added_is : (p : List Ratio) (found : List Piece) → length found < 32 → added p times found ≡ found ++ (piece p times ∷ [])
  unfolding added
  added_is p found h = rw (lt-ltb (length found) 32 h)

  -- one factor more
  pub added-grown : (found : List Piece) (p : List Ratio) → Every Part found → Canonical p → 2 ≤ length p → length p ≤ 32 → length found < 32 → Grown found p (added p times found)
  added-grown found p parts c h few room =
      let e = added_is p found room in
      record {
        is = ap powers_p e ∙ powers-more found (piece p times) ∙ ap (λ t. powers_p found *P pow (Poly-ring ℚ-ring) (poly_r t) times) (terms-of-poly p);
        parts = subst (Every Part) (sym e) (every_more Part found (piece p times) parts (record {
          canonical = subst Canonical (sym (terms-of-poly p)) c;
          made = ap poly_of (sym (terms-of-poly p));
          long = subst (λ t. 2 ≤ length t) (sym (terms-of-poly p)) h;
          short = subst (λ t. length t ≤ 32) (sym (terms-of-poly p)) few;
        }));
        few = omega (arith, ap length e, length-append found (piece p times ∷ []));
      }

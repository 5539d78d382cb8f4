-- All rounds, and what stands around them: the factors found are all or none. As many rounds as there are coefficients are enough.
use mathlib.Core.Path.{◌≡◌, refl, sym, ap, ap₂, subst, ◌∙◌}
use mathlib.Core.List.{List, [], ◌∷◌}
use Prim.Native.Nat.{ℕ, zero, suc, ◌+◌, ◌*◌, ◌≤◌, ◌<◌}
use native.Mathlib.Nat.{mul-le-mul_left}
use native.Mathlib.Omega.{arith}
use lib.ListN.{length}
use Rattle.algebra.proofs.Ring.{pow-one, one-mul}
use Rattle.algebra.proofs.Rational.{ℚ-ring, ℚ-domain, 1ℚ}
use Rattle.algebra.proofs.Characteristic.{rational-char}
use Rattle.algebra.proofs.Poly.{con_p, Poly-ring}
use Rattle.algebra.proofs.Degree.{HasDeg}
use Rattle.algebra.proofs.Monic.{MonicP, monic-not-nil, monic-quotient}
use Rattle.algebra.proofs.Derivative.{der_p}
use Rattle.algebra.proofs.Yun.{monic-der-nil}
use Rattle.algebra.proofs.Lists.{ℚP, ◌+P◌, ◌*P◌, poly-empty}
use Rattle.ratio.specs.declared.Ratio.{Ratio}
use Rattle.ratio.specs.declared.Reason.{Reason}
use Rattle.ratio.specs.declared.Reason.TheVariants.{CoeffOverflow}
use Rattle.terms.specs.Machine.{plain}
use Rattle.terms.specs.Work.{derived}
use Rattle.terms.proofs.Meaning.{poly_r, poly_r-trim}
use Rattle.terms.proofs.MeaningSum.{derived-poly}
use Rattle.terms.proofs.MeaningLowest.{derived-lowest}
use Rattle.terms.proofs.MeaningCanonical.{Canonical, trim-canonical, canonical-degree}
use Rattle.remainders.specs.Divide.{Split}
use Rattle.remainders.specs.Gcd.{gcd_of}
use Rattle.remainders.proofs.MeaningDivision.{cons-some}
use Rattle.remainders.proofs.MeaningGcd.{Euclid}
use Rattle.yun.specs.declared.Piece.{Piece}
use Rattle.yun.specs.Got.{Got, got, none, then_got, list_from, parts_of}
use Rattle.yun.specs.Round as Y
use Rattle.yun.specs.Round.{pushed, Turn, on, turn_of}
use Rattle.yun.specs.Yun.{go_on, rounds, unless_rest, split_by, sharing, split_of, or_whole}
use Rattle.yun.specs.Loop.{Loop, ends, again}
use Rattle.yun.proofs.CodeTurn.{turn-constant}
use Rattle.yun.proofs.MeaningRound.{Round, SquareFreeP, one-square-free, round-one, first-square-free, round-degree}
use Rattle.yun.proofs.MeaningPieces.{powers_p, powers-none, bases_p, bases-none}
use Rattle.yun.proofs.MeaningTurn.{list-worked, list_over, parts-over, Exact, parts-exact, gcd-worked, More, pushed_more, Complete, Found, State, Meant, turn-meant}

module _ (n : ℕ) where
  -- ---- as many rounds as f has coefficients are enough

  -- in round i the i-th power of b divides f
  ends-constant : (f : ℚP) (i m : ℕ) (b c : List Ratio) (found : List Piece) → State n f i b c found → HasDeg ℚ-ring f m → m < i → length b < 2
  ends-constant f i m [] c found s d h = omega arith
  ends-constant f i m (x ∷ []) c found s d h = omega arith
  ends-constant f i m (x ∷ y ∷ b) c found s d h =
      let e : i * suc (length b) ≤ m = round-degree f (powers_p found) (poly_r (x ∷ y ∷ b)) (poly_r c) i m (suc (length b)) s.round d (canonical-degree x (y ∷ b) s.canonical-b) in
      let o : 1 ≤ suc (length b) = omega arith in
      absurd (omega (arith, mul-le-mul_left i o))

  go-loop : (f : ℚP) (i : ℕ) (b c : List Ratio) (found : List Piece) (t : Turn) → turn_of i b c found ≡ t → Meant n f i t → (k : List Piece → List Ratio → List Ratio → Got (List Piece))
      → ((l : List Piece) (b c : List Ratio) → State n f (suc i) b c l → Loop (suc i) b c l (k l b c)) → Loop i b c found (go_on t k)
  go-loop f i b c found (Y.over r) e m k h = ends e
  go-loop f i b c found (on l b₁ c₁) e m k h = again e (h l b₁ c₁ m)

  rounds-loop : (k : ℕ) (f : ℚP) (i m : ℕ) → 1 ≤ i → (b c : List Ratio) (found : List Piece) → State n f i b c found → HasDeg ℚ-ring f m → m < i + k → Loop i b c found (rounds (suc k) i b c found)
  unfolding rounds
  rounds-loop zero f i m h b c found s d j =
      let e = turn-constant i b c found (ends-constant f i m b c found s d (omega arith)) in
      subst (λ t. Loop i b c found (go_on t (λ found b c. got []))) e (ends (sym e))
  rounds-loop (suc k) f i m h b c found s d j = go-loop f i b c found (turn_of i b c found) refl (turn-meant n f i h b c found s) _ (λ l b c z. rounds-loop k f (suc i) m (omega arith) b c l z d (omega arith))

  -- where the loop ends, the factors found are all
  loop-found : {i : ℕ} {b c : List Ratio} {found : List Piece} {r : Got (List Piece)} → Loop i b c found r → (f : ℚP) → 1 ≤ i → State n f i b c found → Found n f r
  loop-found {i} {b} {c} {found} (ends e) f h s = subst (Meant n f i) e (turn-meant n f i h b c found s)
  loop-found {i} {b} {c} {found} (again e l) f h s = loop-found l f (omega arith) (subst (Meant n f i) e (turn-meant n f i h b c found s))

  -- ---- around the loop

  then_found : {X : Type 0} (f : ℚP) (g : Got X) (k : X → Got (List Piece)) → ((why : Reason) → g ≡ none why → why ≡ CoeffOverflow) → ((x : X) → g ≡ got x → Found n f (k x)) → Found n f (then_got g k)
  then_found f (got x) k o h = h x refl
  then_found f (none why) k o h = o why refl

  no-rest : (f : ℚP) (l : List Ratio) (r : Got (List Piece)) → l ≡ [] → Found n f r → Found n f (unless_rest l r)
  no-rest f [] r e h = h
  no-rest f (x ∷ l) r e h = absurd (cons-some x l e)

  -- the first round
  module _ (m df a : List Ratio) (cm : Canonical m) (mm : MonicP ℚ-ring (poly_r m)) (ed : poly_r df ≡ der_p ℚ-ring (poly_r m)) (g : Euclid m df a)
      (q r : Split Ratio) (x : Exact m a q) (y : Exact df a r) where
    first-state : State n (poly_r m) 1 q.quotient r.quotient []
    first-state =
        let b : ℚP = poly_r q.quotient in
        let c : ℚP = poly_r r.quotient in
        let ec : der_p ℚ-ring (poly_r m) ≡ c *P poly_r a = sym ed ∙ y.is in
        record {
          round = subst (λ P. Round (poly_r m) P b c 1) (sym powers-none) (round-one (poly_r m) b c (poly_r a) g.monic x.is ec);
          once = subst SquareFreeP (sym (ap (λ z. z *P b) bases-none ∙ one-mul (Poly-ring ℚ-ring) b))
              (first-square-free (poly_r m) b c (poly_r a) g.left g.right g.monic x.is ec (g.combines ∙ ap (λ z. g.left *P poly_r m +P g.right *P z) ed));
          monic = monic-quotient ℚ-domain b (poly_r a) g.monic (subst (MonicP ℚ-ring) x.is mm);
          canonical-b = x.canonical;
          canonical-c = y.canonical;
          earlier = record { factors = tt; rising = tt; fewer = tt };
        }

    -- the bound is never reached: the rounds are those of the original's loop
    pub rounds-original : Loop 1 q.quotient r.quotient [] (rounds (length m) 1 q.quotient r.quotient [])
    rounds-original = go m mm cm first-state
      where
        go : (l : List Ratio) → MonicP ℚ-ring (poly_r l) → Canonical l → State n (poly_r l) 1 q.quotient r.quotient [] → Loop 1 q.quotient r.quotient [] (rounds (length l) 1 q.quotient r.quotient [])
        go [] k c s = absurd (monic-not-nil ℚ-domain (poly_r []) k poly-empty)
        go (z ∷ l) k c s = rounds-loop (length l) (poly_r (z ∷ l)) 1 (length l) (omega arith) q.quotient r.quotient [] s (canonical-degree z l c) (omega arith)

    rounds-found : Found n (poly_r m) (rounds (length m) 1 q.quotient r.quotient [])
    rounds-found = loop-found rounds-original (poly_r m) (omega arith) first-state

  module _ (m : List Ratio) (cm : Canonical m) (mm : MonicP ℚ-ring (poly_r m)) where
    by-found : (df a : List Ratio) → Canonical df → poly_r df ≡ der_p ℚ-ring (poly_r m) → Euclid m df a → Found n (poly_r m) (split_by m df a)
    unfolding split_by
    by-found df a cd ed g = then_found (poly_r m) (parts_of m a) _ (λ why. parts-over m a why g.monic) (λ q e.
        let x : Exact m a q = parts-exact m a q cm g.canonical g.divides-u e in
        no-rest (poly_r m) q.rest _ x.none (then_found (poly_r m) (parts_of df a) _ (λ why. parts-over df a why g.monic) (λ r k.
        let y : Exact df a r = parts-exact df a r cd g.canonical g.divides-v k in
        no-rest (poly_r m) r.rest _ y.none (rounds-found m df a cm mm ed g q r x y))))

    -- without a derivative it is 1
    sharing-found : (df : List Ratio) → Canonical df → poly_r df ≡ der_p ℚ-ring (poly_r m) → Found n (poly_r m) (sharing m df)
    sharing-found [] cd ed = record {
      is = monic-der-nil ℚ-domain rational-char (poly_r m) mm (sym ed ∙ poly-empty) ∙ sym powers-none;
      once = subst SquareFreeP (sym bases-none) one-square-free;
      factors = tt;
      rising = tt;
    }
    sharing-found (x ∷ df) cd ed = then_found (poly_r m) (list_from (gcd_of plain m (x ∷ df) 0)) _ (list_over (gcd_of plain m (x ∷ df) 0)) (λ a e. by-found (x ∷ df) a cd ed (gcd-worked m (x ∷ df) a cm cd (cons-some x df) e))

    pub split-found : Found n (poly_r m) (split_of m)
    unfolding split_of
    split-found = then_found (poly_r m) (list_from (derived plain m 0)) _ (list_over (derived plain m 0)) (λ d e.
        let w = list-worked (derived plain m 0) d e in
        sharing-found d (subst Canonical w.trimmed (trim-canonical w.list (derived-lowest m 0 w.steps w.list w.is)))
        (sym (ap poly_r w.trimmed) ∙ poly_r-trim w.list ∙ derived-poly m 0 w.steps w.list w.is))

  -- where no factor is found it is 1, and its own factor
  module _ (m : List Ratio) (cm : Canonical m) (mm : MonicP ℚ-ring (poly_r m)) (some : 1 ≤ length m) (long : 2 ≤ n → 2 ≤ length m) where
    whole-found : (l : List Piece) → Complete n (poly_r m) l → Complete n (poly_r m) (or_whole m l)
    whole-found [] f =
        let z : More n m 1 [] (pushed m 1 []) = pushed_more n m 1 [] cm mm some long (omega arith) (record { factors = tt; rising = tt; fewer = tt }) in
        let one : bases_p (pushed m 1 []) ≡ con_p ℚ-ring 1ℚ = z.once ∙ ap₂ ◌*P◌ bases-none (f.is ∙ powers-none) ∙ (Poly-ring ℚ-ring).mul-one (con_p ℚ-ring 1ℚ) in
        record {
          is = sym (z.product ∙ ap₂ ◌*P◌ powers-none (pow-one (Poly-ring ℚ-ring) (poly_r m)) ∙ one-mul (Poly-ring ℚ-ring) (poly_r m));
          once = subst SquareFreeP (sym one) one-square-free;
          factors = z.earlier.factors;
          rising = z.earlier.rising;
        }
    whole-found (p ∷ l) f = f

    pub all_found : (l : List Piece) → split_of m ≡ got l → Complete n (poly_r m) (or_whole m l)
    all_found l e = whole-found l (subst (Found n (poly_r m)) e (split-found m cm mm))

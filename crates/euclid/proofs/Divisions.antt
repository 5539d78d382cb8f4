-- The promise of division, said of its model: the textbook's quotient and rest, canonical, exactly the steps of document 01; answer and number of steps are those of the written chain.
use Rattle.ratio.specs.Refusal.{status_of}
use mathlib.Core.Path.{◌≡◌, refl, ap, subst}
use mathlib.Core.List.{List, [], ◌∷◌, ◌++◌, map-append}
use Prim.Native.Nat.{ℕ, suc, ◌+◌, ◌-◌, ◌*◌, ◌≤◌}
use native.Mathlib.Omega.{arith}
use lib.ListN.{length}
use Rattle.algebra.specs.Textbook.{HasDegree, IsDivision}
use Rattle.ratio.specs.declared.Ratio.{Ratio}
use Rattle.ratio.specs.declared.Reason.{Reason}
use Rattle.ratio.specs.declared.Reason.TheVariants.{CoeffOverflow, DivByZero}
use Rattle.terms.specs.declared.Poly.{Poly}
use Rattle.terms.specs.Machine.{Ran, fine, over, plain}
use Rattle.terms.specs.Poly.{terms_of}
use Rattle.terms.proofs.StepsCount.{steps_of}
use Rattle.poly.specs.declared.Gate.TheVariants.{Open}
use Rattle.poly.specs.Door.{door_of, both}
use Rattle.poly.specs.Promise.{reading}
use Rattle.poly.proofs.Canonical.{Opened, open-poly, open-nil}
use Rattle.remainders.specs.Answer.{no_division, division_of, divided_of}
use Rattle.remainders.specs.Divide.{Split, divided}
use Rattle.remainders.specs.Price.{division_price}
use Rattle.remainders.proofs.ChainWritten.{value_of, split_of, division-tells}
use Rattle.remainders.proofs.MeaningDivision.{Divided, divided-means}
use Rattle.remainders.proofs.PriceDivide.{division-exact, division-price, rest_below}
use Rattle.euclid.specs.Answer.{div_rem_of}
use Rattle.euclid.specs.Promise.{DivisionPromise, every, Written-down, division_run}
use Rattle.euclid.proofs.Doors.{never_done, entered-keeps, entered-open, both-opened, nil-zero, degree-length, in-degrees, fractions, Back, fine_back, over-back, written-down}
use Rattle.terms.proofs.Lists.{terms-of-poly}

-- the number of steps in degrees
exact-degrees : (k x y n m : ℕ) → x ≡ suc n → y ≡ suc m → k ≡ 0 + (x - y + 1) * (2 * (y - 1) + 3) → k ≡ (n - m + 1) * (2 * m + 3)
exact-degrees k x y n m p q e =
    let u : x - y ≡ n - m = omega arith in
    let v : y - 1 ≡ m = omega arith in
    omega (arith, rw (u, v) at e)

division_steps : (r : Ran ℕ (Split Ratio)) → (division_of r).steps ≡ steps_of r
division_steps (fine k s) = refl
division_steps (over k) = refl

-- quotient and rest are handed back as they are
abbrev numbers : Split Ratio → List Ratio
numbers s = s.quotient ++ s.rest

division-back : (r : Ran ℕ (Split Ratio)) → Back every numbers r (status_of (division_of r).outcome) (terms_of (division_of r).quotient ++ terms_of (division_of r).rest)
division-back (fine k s) = fine_back every numbers k s 0 _ (λ u. rw (terms-of-poly s.quotient, terms-of-poly s.rest)) (λ a. refl)
division-back (over k) = over-back every numbers k _

module _ (a b : Poly) where
  abbrev A : List Ratio
  A = terms_of a

  abbrev B : List Ratio
  B = terms_of b

  refused-division : (both (door_of a) (door_of b) ≡ Open → ⊥) → (why : Reason) → DivisionPromise a b (no_division why 0)
  refused-division shut why = record {
    is = λ s. absurd (never_done why s);
    canonical = (open-nil, open-nil);
    exact = λ n m d e h s. absurd (never_done why s);
    price = λ n m d e. omega arith;
    chain = λ e some. absurd (shut (entered-open a b e));
  }

  zero-divisor : B ≡ [] → DivisionPromise a b (no_division DivByZero 0)
  zero-divisor z = record {
    is = λ s. absurd (never_done DivByZero s);
    canonical = (open-nil, open-nil);
    exact = λ n m d e h s. absurd (never_done DivByZero s);
    price = λ n m d e. omega arith;
    chain = λ e some. absurd (some (nil-zero B z));
  }

  module _ (oa : Opened a) (ob : Opened b) (some : 1 ≤ length B) where
    abbrev run : Ran ℕ (Split Ratio)
    run = divided plain A B 0

    division-means : (k : ℕ) (s : Split Ratio) → run ≡ fine k s → Divided A B s
    division-means k s e = divided-means A B oa.canonical ob.canonical (λ z. absurd (omega (arith, ap length z))) 0 k s e

    division-handed : (r : Ran ℕ (Split Ratio)) → run ≡ r → status_of (division_of r).outcome ≡ 0 → IsDivision (reading a) (reading b) (reading (division_of r).quotient) (reading (division_of r).rest)
    division-handed (fine k s) e u = rw (terms-of-poly s.quotient, terms-of-poly s.rest) (division-means k s e).is
    division-handed (over k) e u = absurd (never_done CoeffOverflow u)

    division-canonical : (r : Ran ℕ (Split Ratio)) → run ≡ r → (door_of (division_of r).quotient ≡ Open) × (door_of (division_of r).rest ≡ Open)
    division-canonical (fine k s) e =
        let h = division-means k s e in
        let l = rest_below A B some 0 k s e in
        let few = oa.few in
        (open-poly s.quotient (omega (arith, l.few-terms)) h.quotient-canonical, open-poly s.rest (omega (arith, l.no_longer)) h.rest-canonical)
    division-canonical (over k) e = (open-nil, open-nil)

    module _ (n m : ℕ) (da : HasDegree (reading a) n) (db : HasDegree (reading b) m) where
      as_long : length A ≡ suc n
      as_long = degree-length A n oa.canonical da

      as-long' : length B ≡ suc m
      as-long' = degree-length B m ob.canonical db

      division-takes : m ≤ n → (r : Ran ℕ (Split Ratio)) → run ≡ r → status_of (division_of r).outcome ≡ 0 → (division_of r).steps ≡ (n - m + 1) * (2 * m + 3)
      division-takes l (fine k s) e u = exact-degrees k (length A) (length B) n m as_long as-long' (division-exact A B some 0 k s (omega (arith, as_long, as-long')) e)
      division-takes l (over k) e u = absurd (never_done CoeffOverflow u)

      division-costs : steps_of run ≤ division_price n m
      division-costs = in-degrees division_price _ (length A) (length B) n m as_long as-long' (division-price A B some (omega (arith, as_long)) 0)

    division-chain : Written-down every A B (λ s. s.quotient ++ s.rest) (division_run a b) (steps_of run) (status_of (division_of run).outcome) (terms_of (division_of run).quotient ++ terms_of (division_of run).rest)
    division-chain = written-down every A B split_of (λ s. s.quotient ++ s.rest) numbers (λ s. map-append value_of s.quotient s.rest) (division_run a b) run _ _ (division-tells A B (fractions A oa.canonical) (fractions B ob.canonical)) (division-back run)

    division-run : DivisionPromise a b (division_of run)
    division-run = record {
      is = division-handed run refl;
      canonical = division-canonical run refl;
      exact = λ n m d d' l. division-takes n m d d' l run refl;
      price = λ n m d d'. rw (division_steps run) (division-costs n m d d');
      chain = λ e u. rw (division_steps run) division-chain;
    }

  division-open : Opened a → Opened b → (l : List Ratio) → B ≡ l → DivisionPromise a b (divided_of A l)
  unfolding divided_of
  division-open oa ob [] e = zero-divisor e
  division-open oa ob (y ∷ l) e = subst (λ z. DivisionPromise a b (division_of (divided plain A z 0))) e (division-run oa ob (omega (arith, ap length e)))

pub division-promise : (a b : Poly) → DivisionPromise a b (div_rem_of a b)
division-promise a b =
    entered-keeps (λ why. no_division why 0) (DivisionPromise a b) (both (door_of a) (door_of b)) _
    (λ e. let (oa, ob) = both-opened a b e in division-open a b oa ob (terms_of b) refl)
    (refused-division a b)

-- Demands 2 and 3 for module 4: what an answer means in textbook algebra, what it costs at most, and that answer and number of steps are those of the written chain.
use Rattle.std.specs.Prelude.{◌≡◌, List, [], ◌∷◌, ◌++◌, map, ℕ, suc, ◌+◌, ◌-◌, ◌*◌, ◌≤◌, ◌<◌, ℤ, pos, nat_abs, length, get_or, Result, Ok, Err}
use Rattle.algebra.specs.Rational.{Rat}
use Rattle.algebra.specs.Polynomial.{derivative}
use Rattle.algebra.specs.Textbook.{HasDegree, IsZero, Divides, IsDivision, IsGcd, IsRoot}
use Rattle.ratio.specs.Refusal.{zero_r, status_of}
use Rattle.ratio.specs.declared.Ratio.{Ratio}
use Rattle.ratio.specs.declared.Reason.{Reason}
use Rattle.terms.specs.declared.Poly.{Poly}
use Rattle.terms.specs.declared.Answer.{Answer}
use Rattle.terms.specs.Poly.{terms_of}
use Rattle.terms.specs.Machine.{Ran, fine, over, whole_r}
use Rattle.poly.specs.declared.Gate.TheVariants.{Open}
use Rattle.poly.specs.Door.{door_of}
use Rattle.poly.specs.Promise.{reading}
use Rattle.remainders.specs.declared.Division.{Division}
use Rattle.remainders.specs.Divide.{Split, divided}
use Rattle.remainders.specs.Gcd.{gcd_of, square_free}
use Rattle.remainders.specs.Resultant.{resultant_of, discriminant_of}
use Rattle.remainders.specs.Chain.{Wire, Written, first, second, writer, wires, chain_of, Finished, Stopped}
use Rattle.remainders.specs.Price.{division_price, gcd_price, square_free_price, resultant_price, discriminant_price}
use Rattle.euclid.specs.declared.Whole.{Whole}

-- both inputs came through the door
pub record Entered (a b : Poly) : Type 0 where
  pub left : door_of a ≡ Open
  pub right : door_of b ≡ Open

-- the chain of a run is faithful to its end: every step is answered but the last one of a refused run
abbrev pub Faithfully : {X : Type 0} → List Ratio → List Ratio → (X → List Wire) → Ran (List Written) X → Type 0
Faithfully a b f (fine chain x) = Finished a b chain (f x)
Faithfully a b f (over chain) = Stopped a b chain

-- which numbers may be handed back: all of them, or whole ones only
abbrev pub every : List Ratio → Type 0
every l = Unit {0}

abbrev pub whole-only : List Ratio → Type 0
whole-only l = (i : ℕ) → i < length l → nat_abs (get_or l i zero_r).den ≡ 1

-- the written chain behind an answer: run is the work on a and b with the chain beside it, f lists the numbers it ends in; steps, status and answer are what is handed back
pub record Written-down {X : Type 0} (allowed : List Ratio → Type 0) (a b : List Ratio) (f : X → List Wire) (run : Ran (List Written) X) (steps status : ℕ) (answer : List Ratio) : Type 0 where
  -- the number of steps reported is the length of the chain
  pub counted : steps ≡ length (chain_of run)
  -- a step works on inputs, constants and earlier results; every one is answered but the last of a refused run
  pub faithful : Faithfully a b f run
  -- the numbers that an answered run ends in are the numbers handed back
  pub same_numbers : status ≡ 0 → (chain : List Written) (x : X) → run ≡ fine chain x → map (λ w. w.value) (f x) ≡ answer
  -- a run that came to its end is answered where its numbers are allowed
  pub answered : (chain : List Written) (x : X) → run ≡ fine chain x → allowed (map (λ w. w.value) (f x)) → status ≡ 0
  -- a run that was stopped is handed back as 2
  pub stopped : (chain : List Written) → run ≡ over chain → status ≡ 2

-- ---- division

abbrev pub division_run : Poly → Poly → Ran (List Written) (Split Wire)
division_run a b = divided writer (wires first 0 (terms_of a)) (wires second 0 (terms_of b)) []

pub record DivisionPromise (a b : Poly) (r : Division) : Type 0 where
  pub is : status_of r.outcome ≡ 0 → IsDivision (reading a) (reading b) (reading r.quotient) (reading r.rest)
  pub canonical : (door_of r.quotient ≡ Open) × (door_of r.rest ≡ Open)
  pub exact : (n m : ℕ) → HasDegree (reading a) n → HasDegree (reading b) m → m ≤ n → status_of r.outcome ≡ 0 → r.steps ≡ (n - m + 1) * (2 * m + 3)
  pub price : (n m : ℕ) → HasDegree (reading a) n → HasDegree (reading b) m → r.steps ≤ division_price n m
  pub chain : Entered a b → (IsZero (reading b) → ⊥) → Written-down every (terms_of a) (terms_of b) (λ s. s.quotient ++ s.rest) (division_run a b) r.steps (status_of r.outcome) (terms_of r.quotient ++ terms_of r.rest)

-- ---- gcd

abbrev pub gcd_run : Poly → Poly → Ran (List Written) (List Wire)
gcd_run a b = gcd_of writer (wires first 0 (terms_of a)) (wires second 0 (terms_of b)) []

pub record GcdPromise (a b : Poly) (r : Answer) : Type 0 where
  pub is : (IsZero (reading a) → IsZero (reading b) → ⊥) → status_of r.outcome ≡ 0 → IsGcd (reading a) (reading b) (reading r.poly)
  pub of-zeros : IsZero (reading a) → IsZero (reading b) → status_of r.outcome ≡ 0 → IsZero (reading r.poly) × (r.steps ≡ 0)
  pub canonical : door_of r.poly ≡ Open
  pub price : (n m : ℕ) → HasDegree (reading a) n → HasDegree (reading b) m → r.steps ≤ gcd_price n m
  -- the gcd with zero: the other input is only scaled
  pub with-zero : (n : ℕ) → IsZero (reading b) → HasDegree (reading a) n → r.steps ≤ n + 1
  pub zero-with : (n : ℕ) → IsZero (reading a) → HasDegree (reading b) n → r.steps ≤ n + 1
  pub chain : Entered a b → Written-down every (terms_of a) (terms_of b) (λ l. l) (gcd_run a b) r.steps (status_of r.outcome) (terms_of r.poly)

-- ---- the square-free part

abbrev pub square_free_run : Poly → Ran (List Written) (List Wire)
square_free_run f = square_free writer (wires first 0 (terms_of f)) []

pub record SquareFreePromise (f : Poly) (r : Answer) : Type 0 where
  pub divides : (IsZero (reading f) → ⊥) → status_of r.outcome ≡ 0 → Divides (reading r.poly) (reading f)
  pub roots_kept : (IsZero (reading f) → ⊥) → status_of r.outcome ≡ 0 → (x : Rat) → IsRoot (reading f) x → IsRoot (reading r.poly) x
  pub roots-only : (IsZero (reading f) → ⊥) → status_of r.outcome ≡ 0 → (x : Rat) → IsRoot (reading r.poly) x → IsRoot (reading f) x
  pub canonical : door_of r.poly ≡ Open
  pub price : (n : ℕ) → HasDegree (reading f) n → r.steps ≤ square_free_price n
  pub chain : door_of f ≡ Open → Written-down every (terms_of f) [] (λ l. l) (square_free_run f) r.steps (status_of r.outcome) (terms_of r.poly)

-- ---- resultant and discriminant

-- a common divisor of degree at least 1
pub record CommonFactor (a b : List Rat) : Type 0 where
  pub factor : List Rat
  pub degree : ℕ
  pub has-degree : HasDegree factor (suc degree)
  pub divides-a : Divides factor a
  pub divides-b : Divides factor b

-- r is answered: the number is v, after k steps
pub record Answers (r : Whole) (v : ℤ) (k : ℕ) : Type 0 where
  pub done : status_of r.outcome ≡ 0
  pub number : r.value ≡ v
  pub count : r.steps ≡ k

abbrev pub resultant_run : Poly → Poly → Ran (List Written) Wire
resultant_run a b = resultant_of writer (wires first 0 (terms_of a)) (wires second 0 (terms_of b)) []

-- an answered resultant of two nonzero polynomials is zero exactly when they have a common divisor of degree at least 1
pub record ResultantPromise (a b : Poly) (r : Whole) : Type 0 where
  pub vanishes : (IsZero (reading a) → ⊥) → (IsZero (reading b) → ⊥) → status_of r.outcome ≡ 0 → r.value ≡ pos 0 → CommonFactor (reading a) (reading b)
  pub only_then : (IsZero (reading a) → ⊥) → (IsZero (reading b) → ⊥) → status_of r.outcome ≡ 0 → CommonFactor (reading a) (reading b) → r.value ≡ pos 0
  pub price : (n m : ℕ) → HasDegree (reading a) n → HasDegree (reading b) m → r.steps ≤ resultant_price n m
  -- the resultant with zero is 0, at no step
  pub of-zero-left : Entered a b → IsZero (reading a) → Answers r (pos 0) 0
  pub of-zero-right : Entered a b → IsZero (reading b) → Answers r (pos 0) 0
  pub chain : Entered a b → Written-down whole-only (terms_of a) (terms_of b) (λ w. w ∷ []) (resultant_run a b) r.steps (status_of r.outcome) (whole_r r.value ∷ [])

abbrev pub discriminant_run : Poly → Ran (List Written) Wire
discriminant_run f = discriminant_of writer (wires first 0 (terms_of f)) []

-- an answered discriminant of a polynomial of degree at least 1 is zero exactly when it has a divisor in common with its derivative
pub record DiscriminantPromise (f : Poly) (r : Whole) : Type 0 where
  pub vanishes : (n : ℕ) → HasDegree (reading f) (suc n) → status_of r.outcome ≡ 0 → r.value ≡ pos 0 → CommonFactor (reading f) (derivative (reading f))
  pub only_then : (n : ℕ) → HasDegree (reading f) (suc n) → status_of r.outcome ≡ 0 → CommonFactor (reading f) (derivative (reading f)) → r.value ≡ pos 0
  pub price : (n : ℕ) → HasDegree (reading f) n → r.steps ≤ discriminant_price n
  -- the discriminant of zero is 0 and that of a constant 1, at no step
  pub of_zero : door_of f ≡ Open → IsZero (reading f) → Answers r (pos 0) 0
  pub of-constant : door_of f ≡ Open → HasDegree (reading f) 0 → Answers r (pos 1) 0
  pub chain : door_of f ≡ Open → Written-down whole-only (terms_of f) [] (λ w. w ∷ []) (discriminant_run f) r.steps (status_of r.outcome) (whole_r r.value ∷ [])

-- ---- prices quoted from the degrees alone

-- steps a b is what the work on a and b took: never more than was quoted; and what came through the door has a quote
pub record Quotes (n m : ℕ) (steps : Poly → Poly → ℕ) (r : Result ℕ Reason) : Type 0 where
  pub bounds : (a b : Poly) → HasDegree (reading a) n → HasDegree (reading b) m → (k : ℕ) → r ≡ Ok k → steps a b ≤ k
  pub quoted : (a b : Poly) → Entered a b → HasDegree (reading a) n → HasDegree (reading b) m → (why : Reason) → r ≡ Err why → ⊥

-- the same of work on one polynomial
pub record QuotesOne (n : ℕ) (steps : Poly → ℕ) (r : Result ℕ Reason) : Type 0 where
  pub bounds : (f : Poly) → HasDegree (reading f) n → (k : ℕ) → r ≡ Ok k → steps f ≤ k
  pub quoted : (f : Poly) → door_of f ≡ Open → HasDegree (reading f) n → (why : Reason) → r ≡ Err why → ⊥

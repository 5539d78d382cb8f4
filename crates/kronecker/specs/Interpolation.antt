-- Document 01, module 5, Kronecker: the polynomial with given values at the first n points (`lagrange_interpolate`). What is refused on the way skips the combination.
use Rattle.std.specs.Prelude.{◌≡◌, cond, List, [], ◌∷◌, ℕ, zero, suc, ◌<◌, eqb, pos, get_or, Ok, Err}
use Rattle.ratio.specs.Refusal.{ratio_of, zero_r, Outcome}
use Rattle.ratio.specs.Step.{neg_of, new_of}
use Rattle.ratio.specs.declared.Ratio.{Ratio}
use Rattle.ratio.specs.declared.Reason.TheVariants.{CoeffOverflow}
use Rattle.terms.specs.declared.Answer.{Answer}
use Rattle.terms.specs.Poly.{terms_of}
use Rattle.terms.specs.Machine.{plus, fine, plain, whole_r}
use Rattle.terms.specs.Work.{zipped, scaled}
use Rattle.terms.specs.Answer.{answer_of, refused_with, product_of, value_of}
use Rattle.kronecker.specs.declared.Basis.{Basis}
use Rattle.kronecker.specs.Points.{point_of, on_step}

abbrev pub skip : Answer
skip = refused_with CoeffOverflow 0

abbrev pub on_outcome : {X : Type 0} → Outcome → X → X → X
on_outcome (Ok _) other k = k
on_outcome (Err why) other k = other

abbrev pub on_answer : {X : Type 0} → Answer → X → (List Ratio → X) → X
on_answer a other k = on_outcome a.outcome other (k (terms_of a.poly))

-- x less point j
abbrev pub away_from : ℕ → List Ratio
away_from j = ratio_of (neg_of (point_of j)) ∷ whole_r (pos 1) ∷ []

-- point i itself is left out
abbrev pub basis_step : ℕ → ℕ → List Ratio → Answer
basis_step i j acc = cond (eqb i j) (answer_of (fine 0 acc)) (product_of acc (away_from j))

-- a step for each of n numbers from j on
unfoldable pub repeated : (ℕ → List Ratio → Answer) → ℕ → ℕ → List Ratio → Answer
repeated step zero j acc = answer_of (fine 0 acc)
repeated step (suc n) j acc = on_answer (step j acc) skip (λ acc. repeated step n (suc j) acc)

-- the product of x less point j, over the n points but number i
unfoldable pub basis_of : ℕ → ℕ → Answer
basis_of i n = repeated (basis_step i) n 0 (whole_r (pos 1) ∷ [])

-- the polynomial that is y at point i and 0 at the other n - 1: the basis times y over the basis' own value there
unfoldable pub part_of : ℕ → ℕ → Ratio → Answer
part_of i n y =
    on_answer (basis_of i n) skip (λ b. on_step (value_of b (point_of i)) skip (λ d. on_step (new_of y.num d.num) skip (λ s. answer_of (scaled plain b s 0))))

unfoldable pub added_part : List Ratio → ℕ → ℕ → Ratio → Answer
added_part acc i n y = on_answer (part_of i n y) skip (λ p. answer_of (zipped plain plus acc p 0))

-- the sum of the parts
unfoldable pub interpolated_of : List Ratio → ℕ → Answer
interpolated_of ys n = repeated (λ i acc. added_part acc i n (get_or ys i zero_r)) n 0 []

-- ---- how it lies in memory

-- the part that is made of a basis
abbrev pub part_from : Basis → Ratio → Answer
part_from b y = cond b.fine (on_step (new_of y.num b.at.num) skip (λ s. answer_of (scaled plain (terms_of b.poly) s 0))) skip

abbrev pub added_from : List Ratio → Basis → Ratio → Answer
added_from acc b y = on_answer (part_from b y) skip (λ p. answer_of (zipped plain plus acc p 0))

-- b is the basis of point i among n, whatever the value there is to be
pub record Serves (i n : ℕ) (b : Basis) : Type 0 where
  pub is : (y : Ratio) → part_from b y ≡ part_of i n y

-- the first i places hold the bases of their points among n
pub record Serving (n i : ℕ) (rows : List Basis) : Type 0 where
  pub each : (k : ℕ) → k < i → (d : Basis) → Serves k n (get_or rows k d)

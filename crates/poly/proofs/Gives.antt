-- The promises, said of the models: an answered operation is the textbook's, and what is handed back is canonical.
use Rattle.std.specs.Prelude.{Result, Ok, Err, Option, Some, None}
use mathlib.Core.Path.{◌≡◌, refl, sym, ap, subst, ◌∙◌}
use mathlib.Core.Bool.{Bool, true, false}
use mathlib.Core.List.{List, [], ◌∷◌}
use Prim.Native.Nat.{ℕ, zero, suc, ◌+◌, ◌-◌, ◌<◌, ◌≤◌, max}
use native.Mathlib.Omega.{arith}
use borrow.Author.Tests.{ltb-false}
use lib.Dec.{ltb}
use lib.IntN.{ℤ, pos}
use lib.ListN.{length, get_or, replicate, length-replicate}
use lib.Seq.{get_or_at}
use Rattle.algebra.specs.Rational.{Rat, Same, one_q}
use Rattle.algebra.specs.Polynomial.{Equal, coeff, sum, negated, product, power, derivative}
use Rattle.algebra.specs.Polynomial as P
use Rattle.algebra.specs.Textbook.{HasDegree, IsZero}
use Rattle.algebra.proofs.Reflect.{ring!, reify}
use Rattle.algebra.proofs.Rational.{ℚ-ring, same-val}
use Rattle.algebra.proofs.Poly.{Poly-ring}
use Rattle.algebra.proofs.Monomials.{X}
use Rattle.algebra.proofs.Degree.{HasDeg, deg-unique, deg-not-nil}
use Rattle.algebra.proofs.Lists.{poly, ◌*P◌, poly-at, poly-empty, poly-equal, equal-poly, poly-product, poly-one, poly-shifted, equal-refl}
use Rattle.algebra.proofs.ListWords.{zero-to, zero-from, degree-to, degree-from}
use Rattle.ratio.specs.Promise.{rat, Lowest}
use Rattle.ratio.specs.Refusal.{number_of, status_of, ratio_of, zero_r, Outcome, no_refusal}
use Rattle.ratio.specs.Step.{is_lowest}
use Rattle.ratio.specs.declared.Ratio.{Ratio}
use Rattle.ratio.specs.declared.Reason.{Reason}
use Rattle.ratio.specs.declared.Reason.TheVariants.{NotPolynomial, CoeffOverflow, DivByZero, TooLong, BadInput, Malformed, Budget, TooDeep, NoRoom}
use Rattle.ratio.proofs.Answers.{lowest-tells}
use Rattle.ratio.proofs.Fractions.{and-true}
use Rattle.ratio.proofs.Steps.{value, zero-lowest, one-lowest}
use Rattle.terms.specs.declared.Poly.{Poly}
use Rattle.terms.specs.declared.Answer.{Answer}
use Rattle.terms.specs.Poly.{terms_of, poly_of, trim, drop_top}
use Rattle.terms.specs.Machine.{plus, minus, Ran, fine, over, plain, whole_r}
use Rattle.terms.specs.Meaning.{rats}
use Rattle.terms.specs.Work.{zipped, scaled, derived, multiplied}
use Rattle.terms.specs.Answer.{done_with, refused_with, answer_of, negated_of, unless_long, product_of, value_of}
use Rattle.terms.proofs.Long.{Long, each_long, zipped-long, scaled-long, derived-long, multiplied-long}
use Rattle.terms.proofs.Meaning.{poly_r, poly_r-at}
use Rattle.terms.proofs.MeaningAnswer.{fine-hands, product-hands, value-done}
use Rattle.terms.proofs.MeaningLowest.{AllLowest, none-lowest, cons-lowest, zipped-lowest, scaled-lowest, derived-lowest, negated-lowest, multiplied-lowest}
use Rattle.terms.proofs.MeaningSum.{sum-means, difference-means, scaled-means, derived-means, negated-means}
use Rattle.terms.proofs.MeaningTop.{trim-nothing}
use Rattle.terms.proofs.MeaningCanonical.{Canonical, trim-canonical, canonical-degree, canonical-nil}
use Rattle.poly.specs.declared.Gate.{Gate}
use Rattle.poly.specs.declared.Gate.TheVariants.{Open, Long as TooMany, Bad}
use Rattle.poly.specs.Door.{door_of, door_of_ratio, both, long_if, entered, enter, enter_step, top_is_some, all_lowest}
use Rattle.poly.specs.Parts.{paired, parts_door, parts_of}
use Rattle.poly.specs.Promise.{reading, variable, Gives, GivesValue, TellsDegree, TellsZero, TellsLead}
use Rattle.poly.specs.Operations.{constant_of, monomial_of, exponent, degree_of, empty, is_zero_of, lead_of, add_of, sub_of, mul_of, scale_of, neg_of, diff_of, eval_of, on_done, powered, power_from, power_door, pow_of}
use Rattle.poly.proofs.Parts.{paired-short, fitting}
use Rattle.poly.proofs.Unit.{unit, unit-length}
use Rattle.poly.proofs.Canonical.{open-if, long-if, both-open, Opened, opened, open-poly, open-nil, lowest-from, top_from}
use Rattle.terms.proofs.Lists.{trim-short, terms-of-poly}

-- ---- a refusal

pub number-some : (why : Reason) → 0 < number_of why
number-some NotPolynomial = omega arith
number-some CoeffOverflow = omega arith
number-some DivByZero = omega arith
number-some TooLong = omega arith
number-some BadInput = omega arith
number-some (Malformed at) = omega arith
number-some Budget = omega arith
number-some TooDeep = omega arith
number-some NoRoom = omega arith

pub refused-gives : (x : List Rat) (why : Reason) (k : ℕ) → Gives x (refused_with why k)
refused-gives x why k = record { is = λ e. absurd (omega (arith, number-some why)); canonical = open-nil }

pub outcome-done : (o : Outcome) → status_of o ≡ 0 → o ≡ no_refusal
outcome-done (Ok _) e = refl
outcome-done (Err why) e = absurd (omega (arith, number-some why))

-- ---- an answer, a run of steps, the door before it

-- the polynomial of a canonical list
pub done-gives : (x : List Rat) (l : List Ratio) (k : ℕ) → length l ≤ 32 → Canonical l → Equal (rats l) x → Gives x (done_with (poly_of l) k)
done-gives x l k h c e = record { is = λ s. subst (λ m. Equal (rats m) x) (sym (terms-of-poly l)) e; canonical = open-poly l h c }

pub run-open : (n : ℕ) (r : Ran ℕ (List Ratio)) → n ≤ 32 → Long n r → ((k : ℕ) (l : List Ratio) → r ≡ fine k l → AllLowest l) → door_of (answer_of r).poly ≡ Open
run-open n (fine k l) h e g = open-poly (trim l) (omega (arith, trim-short l)) (trim-canonical l (g k l refl))
run-open n (over k) h e g = open-nil

-- an answered run gives the textbook's polynomial, and a canonical one
pub run-gives : (x : List Rat) (n : ℕ) (r : Ran ℕ (List Ratio)) → n ≤ 32 → Long n r → ((k : ℕ) (l : List Ratio) → r ≡ fine k l → Equal (rats l) x) → ((k : ℕ) (l : List Ratio) → r ≡ fine k l → AllLowest l) → Gives x (answer_of r)
run-gives x n (fine k l) h e f g = record {
  is = λ s. (fine-hands k l x (f k l refl) (g k l refl)).is;
  canonical = run-open n (fine k l) h e g;
}
run-gives x n (over k) h e f g = refused-gives x CoeffOverflow k

pub enter-gives : (d : Gate) (x : List Rat) (r : Answer) → (d ≡ Open → Gives x r) → Gives x (enter d r)
enter-gives Open x r h = h refl
enter-gives TooMany x r h = refused-gives x TooLong 0
enter-gives Bad x r h = refused-gives x BadInput 0

-- behind one door, behind two
module _ (p : Poly) (x : List Rat) (r : Answer) where
  pub one-gives : (Opened p → Gives x r) → Gives x (enter (door_of p) r)
  one-gives h = enter-gives (door_of p) x r (λ e. h (opened p e))

  pub two-gives : (d : Gate) → (Opened p → d ≡ Open → Gives x r) → Gives x (enter (both (door_of p) d) r)
  two-gives d h = enter-gives (both (door_of p) d) x r (λ e. let (f, g) = both-open (door_of p) d e in h (opened p f) g)

-- ---- sum, difference, multiple, negative, derivative

pub add-gives : (a b : Poly) → Gives (sum (reading a) (reading b)) (add_of a b)
add-gives a b = two-gives a _ _ (door_of b) (λ s e.
    let f = s.few in
    let g = (opened b e).few in
    run-gives _ (max (length (terms_of a)) (length (terms_of b))) (zipped plain plus (terms_of a) (terms_of b) 0) (omega arith) (zipped-long plain plus (terms_of a) (terms_of b) 0) (λ k l. sum-means (terms_of a) (terms_of b) 0 k l) (λ k l. zipped-lowest plus (terms_of a) (terms_of b) 0 k l))

pub sub-gives : (a b : Poly) → Gives (sum (reading a) (negated (reading b))) (sub_of a b)
sub-gives a b = two-gives a _ _ (door_of b) (λ s e.
    let f = s.few in
    let g = (opened b e).few in
    run-gives _ (max (length (terms_of a)) (length (terms_of b))) (zipped plain minus (terms_of a) (terms_of b) 0) (omega arith) (zipped-long plain minus (terms_of a) (terms_of b) 0) (λ k l. difference-means (terms_of a) (terms_of b) 0 k l) (λ k l. zipped-lowest minus (terms_of a) (terms_of b) 0 k l))

pub scale-gives : (p : Poly) (c : Ratio) → Gives (P.scaled (rat c) (reading p)) (scale_of p c)
scale-gives p c = two-gives p _ _ (door_of_ratio c) (λ s e.
    run-gives _ (length (terms_of p)) (scaled plain (terms_of p) c 0) s.few (scaled-long plain (terms_of p) c 0) (λ k l. scaled-means (terms_of p) c 0 k l) (λ k l. scaled-lowest (terms_of p) c 0 k l))

negated-long : (a : List Ratio) → Long (length a) (negated_of a)
unfolding negated_of
negated-long a = each_long _ (length a) 0 0

pub neg_gives : (p : Poly) → Gives (negated (reading p)) (neg_of p)
neg_gives p = one-gives p _ _ (λ s.
    run-gives _ (length (terms_of p)) (negated_of (terms_of p)) s.few (negated-long (terms_of p)) (λ k l. negated-means (terms_of p) k l) (λ k l. negated-lowest (terms_of p) k l))

pub diff-gives : (p : Poly) → Gives (derivative (reading p)) (diff_of p)
diff-gives p = one-gives p _ _ (λ s.
    let f = s.few in
    run-gives _ (length (terms_of p) - 1) (derived plain (terms_of p) 0) (omega arith) (derived-long plain (terms_of p) 0) (λ k l. derived-means (terms_of p) 0 k l) (λ k l. derived-lowest (terms_of p) 0 k l))

-- ---- product and power

unless-open : (t : Bool) (r : Answer) → (t ≡ false → door_of r.poly ≡ Open) → door_of (unless_long t r).poly ≡ Open
unless-open true r h = open-nil
unless-open false r h = h refl

pub product-open : (a b : List Ratio) → door_of (product_of a b).poly ≡ Open
unfolding product_of drop_top
product-open [] b = open-nil
product-open (x ∷ a) [] = open-nil
product-open (x ∷ a) (y ∷ b) =
    unless-open (ltb 32 (length (x ∷ a) + length (y ∷ b) - 1)) (answer_of (multiplied plain (x ∷ a) (y ∷ b) 0)) (λ t.
    run-open (length (x ∷ a) + length (y ∷ b) - 1) (multiplied plain (x ∷ a) (y ∷ b) 0) (ltb-false 32 (length (x ∷ a) + length (y ∷ b) - 1) t) (multiplied-long plain (x ∷ a) (y ∷ b) 0) (λ k l. multiplied-lowest (x ∷ a) (y ∷ b) 0 k l))

pub product-short : (a b : List Ratio) → length (terms_of (product_of a b).poly) ≤ 32
product-short a b = (opened (product_of a b).poly (product-open a b)).few

pub product-gives : (a b : List Ratio) → Gives (product (rats a) (rats b)) (product_of a b)
product-gives a b = record { is = λ s. (product-hands a b (outcome-done (product_of a b).outcome s)).is; canonical = product-open a b }

pub mul-gives : (a b : Poly) → Gives (product (reading a) (reading b)) (mul_of a b)
mul-gives a b = two-gives a _ _ (door_of b) (λ s e. product-gives (terms_of a) (terms_of b))

pub on-done : (o : Outcome) (x : List Rat) (next : Answer) (k : ℕ) → (o ≡ no_refusal → Gives x next) → Gives x (on_done o next k)
on-done (Ok _) x next k h = h refl
on-done (Err why) x next k h = refused-gives x why k

-- one factor more
times_more : (p q a : List Rat) (i : ℕ) → Equal p (power a i) → Equal q (product p a) → Equal q (power a (suc i))
unfolding power
times_more p q a i e f =
    poly-equal q (product (power a i) a)
    (equal-poly q (product p a) f ∙ poly-product p a ∙ ap (λ z. z *P poly a) (equal-poly p (power a i) e) ∙ sym (poly-product (power a i) a))

powered-gives : (a : List Ratio) (n i : ℕ) (acc : Poly) (k : ℕ) → Equal (reading acc) (power (rats a) i) → door_of acc ≡ Open → Gives (power (rats a) (i + n)) (powered a n acc k)
unfolding powered
powered-gives a zero i acc k e h =
    let s : i ≡ i + 0 = omega arith in
    record { is = λ z. subst (λ m. Equal (reading acc) (power (rats a) m)) s e; canonical = h }
powered-gives a (suc n) i acc k e h =
    let g = product-gives (terms_of acc) a in
    let r = product_of (terms_of acc) a in
    let s : suc i + n ≡ i + suc n = omega arith in
    on-done r.outcome _ _ (k + r.steps) (λ d.
    subst (λ m. Gives (power (rats a) m) (powered a n r.poly (k + r.steps))) s
    (powered-gives a n (suc i) r.poly (k + r.steps) (times_more (reading acc) (reading r.poly) (rats a) i e (g.is (ap status_of d))) g.canonical))

one-canonical : Canonical (whole_r (pos 1) ∷ [])
one-canonical = record { lowest = cons-lowest (whole_r (pos 1)) [] one-lowest none-lowest; trimmed = trim-nothing (whole_r (pos 1) ∷ []) 0 refl refl }

pub power-gives : (a : List Ratio) (n : ℕ) → Gives (power (rats a) n) (power_from a n)
unfolding power
power-gives a n =
    let s : 0 + n ≡ n = omega arith in
    subst (λ m. Gives (power (rats a) m) (power_from a n)) s
    (powered-gives a n 0 (poly_of (whole_r (pos 1) ∷ [])) 0 (equal-refl (one_q ∷ [])) (open-poly (whole_r (pos 1) ∷ []) (omega arith) one-canonical))

pub pow-gives : (p : Poly) (n : ℕ) → Gives (power (reading p) n) (pow_of p n)
pow-gives p n = two-gives p _ _ (power_door (terms_of p) n) (λ s e. power-gives (terms_of p) n)

-- ---- constants, monomials, parts

pub constant-gives : (c : Ratio) → Gives (rat c ∷ []) (constant_of c)
constant-gives c = enter-gives (door_of_ratio c) _ _ (λ e.
    let h : AllLowest (c ∷ []) = cons-lowest c [] ((lowest-tells c).holds (open-if (is_lowest c) e)) none-lowest in
    run-gives _ 1 (fine 0 (c ∷ [])) (omega arith) refl
    (λ k l f. let s : l ≡ c ∷ [] = cc in subst (λ m. Equal (rats m) (rat c ∷ [])) (sym s) (equal-refl (rat c ∷ [])))
    (λ k l f. let s : l ≡ c ∷ [] = cc in subst AllLowest (sym s) h))

poly-variable : poly variable ≡ X ℚ-ring
poly-variable =
    poly-shifted (one_q ∷ [])
    ∙ ap (λ z. X ℚ-ring *P z) poly-one
    ∙ ring! (Poly-ring ℚ-ring) (X ℚ-ring ∷ []) (search reify depth 30 fits 20000) tt

poly-unit : (n : ℕ) → poly_r (unit n) ≡ poly (power variable n)
unfolding power
poly-unit zero = refl
poly-unit (suc n) =
    poly-shifted (rats (unit n))
    ∙ ap (λ z. X ℚ-ring *P z) (poly-unit n)
    ∙ (Poly-ring ℚ-ring).mul_comm (X ℚ-ring) (poly (power variable n))
    ∙ ap (λ z. poly (power variable n) *P z) (sym poly-variable)
    ∙ sym (poly-product (power variable n) variable)

unit-lowest : (n : ℕ) → AllLowest (unit n)
unit-lowest zero = one-canonical.lowest
unit-lowest (suc n) = cons-lowest zero_r (unit n) zero-lowest (unit-lowest n)

unit-canonical : (n : ℕ) → Canonical (unit n)
unit-canonical n = record { lowest = unit-lowest n; trimmed = trim-nothing (unit n) n (unit-length n) (rw (get_or_at (replicate n zero_r) (whole_r (pos 1)) [] zero_r n (length-replicate n zero_r))) }

pub monomial-gives : (n : ℕ) → Gives (power variable n) (monomial_of n)
monomial-gives n = enter-gives (long_if (ltb 31 n) Open) _ _ (λ e.
    let h : n ≤ 31 = ltb-false 31 n (long-if (ltb 31 n) Open e).0 in
    done-gives _ (unit n) 0 (omega (arith, unit-length n)) (unit-canonical n) (poly-equal (rats (unit n)) (power variable n) (poly-unit n)))

pub parts-gives : (ns ds : List ℤ) → Gives (rats (paired ns ds)) (parts_of ns ds)
unfolding parts_of
parts-gives ns ds = enter-gives (parts_door ns ds) _ _ (λ e.
    let f = fitting ns ds e in
    let h = f.few in
    let l = and-true (all_lowest (paired ns ds)) (top_is_some (paired ns ds)) f.lowest in
    done-gives _ (paired ns ds) 0 (omega (arith, paired-short ns ds)) (record { lowest = lowest-from (paired ns ds) l.0; trimmed = top_from (paired ns ds) l.1 }) (equal-refl (rats (paired ns ds))))

-- ---- the value, the degree, the leading coefficient

refused-value : (x : Rat) (why : Reason) → GivesValue x (Err why)
refused-value x why = record { is = λ e. absurd (omega (arith, number-some why)); lowest = λ e. absurd (omega (arith, number-some why)) }

pub step_gives : (x : Rat) (s : Result Ratio Reason) → ((r : Ratio) → s ≡ Ok r → Same (rat r) x × Lowest r) → GivesValue x s
step_gives x (Ok r) h = record { is = λ e. (h r refl).0; lowest = λ e. (h r refl).1 }
step_gives x (Err why) h = refused-value x why

pub enter-value : (d : Gate) (x : Rat) (s : Result Ratio Reason) → GivesValue x s → GivesValue x (enter_step d s)
enter-value Open x s h = h
enter-value TooMany x s h = refused-value x TooLong
enter-value Bad x s h = refused-value x BadInput

pub eval-gives : (p : Poly) (x : Ratio) → GivesValue (P.value (reading p) (rat x)) (eval_of p x)
eval-gives p x = enter-value (both (door_of p) (door_of_ratio x)) _ _ (step_gives _ (value_of (terms_of p) x) (λ r e. value-done (terms_of p) x r e))

degree-some : (d : Gate) (l : List Ratio) (n : ℕ) → entered Err d (Ok (exponent l)) ≡ Ok (Some n) → (d ≡ Open → Canonical l) → HasDegree (rats l) n
degree-some Open [] n e c = let z : ◌≡◌ {A = ℕ} 0 1 = cc in absurd (omega arith)
degree-some Open (a ∷ l) n e c =
    let f : length l ≡ n = cc in
    degree-from (rats (a ∷ l)) n (subst (λ m. HasDeg ℚ-ring (poly_r (a ∷ l)) m) f (canonical-degree a l (c refl)))
degree-some TooMany l n e c = let z : ◌≡◌ {A = ℕ} 0 1 = cc in absurd (omega arith)
degree-some Bad l n e c = let z : ◌≡◌ {A = ℕ} 0 1 = cc in absurd (omega arith)

degree-none : (d : Gate) (l : List Ratio) → entered Err d (Ok (exponent l)) ≡ Ok None → IsZero (rats l)
degree-none Open [] e = zero-from [] poly-empty
degree-none Open (a ∷ l) e = let z : ◌≡◌ {A = ℕ} 0 1 = cc in absurd (omega arith)
degree-none TooMany l e = let z : ◌≡◌ {A = ℕ} 0 1 = cc in absurd (omega arith)
degree-none Bad l e = let z : ◌≡◌ {A = ℕ} 0 1 = cc in absurd (omega arith)

empty-yes : (d : Gate) (l : List Ratio) → entered Err d (Ok (empty l)) ≡ Ok true → IsZero (rats l)
empty-yes Open [] e = zero-from [] poly-empty
empty-yes Open (a ∷ l) e = let z : ◌≡◌ {A = ℕ} 0 1 = cc in absurd (omega arith)
empty-yes TooMany l e = let z : ◌≡◌ {A = ℕ} 0 1 = cc in absurd (omega arith)
empty-yes Bad l e = let z : ◌≡◌ {A = ℕ} 0 1 = cc in absurd (omega arith)

empty-no : (d : Gate) (l : List Ratio) → entered Err d (Ok (empty l)) ≡ Ok false → (d ≡ Open → Canonical l) → IsZero (rats l) → ⊥
empty-no Open [] e c h = let z : ◌≡◌ {A = ℕ} 0 1 = cc in omega arith
empty-no Open (a ∷ l) e c h = let z : length (a ∷ l) ≡ 0 = ap length (canonical-nil (a ∷ l) (c refl) (zero-to (rats (a ∷ l)) h)) in omega arith
empty-no TooMany l e c h = let z : ◌≡◌ {A = ℕ} 0 1 = cc in omega arith
empty-no Bad l e c h = let z : ◌≡◌ {A = ℕ} 0 1 = cc in omega arith

pub zero-tells : (p : Poly) → TellsZero p (is_zero_of p)
zero-tells p = record {
  yes = empty-yes (door_of p) (terms_of p);
  no = λ e. empty-no (door_of p) (terms_of p) e (λ o. (opened p o).canonical);
}

pub zero-told : (p : Poly) (t : Result Bool Reason) → t ≡ is_zero_of p → TellsZero p t
zero-told p t e = subst (TellsZero p) (sym e) (zero-tells p)

pub degree-tells : (p : Poly) → TellsDegree p (degree_of p)
degree-tells p = record {
  some = λ n e. degree-some (door_of p) (terms_of p) n e (λ o. (opened p o).canonical);
  none = degree-none (door_of p) (terms_of p);
}

-- the highest coefficient of a canonical list
lead-same : (l : List Ratio) (n : ℕ) → Canonical l → HasDegree (rats l) n → Same (rat (get_or l (length l - 1) zero_r)) (coeff (rats l) n)
lead-same [] n c d = absurd (deg-not-nil ℚ-ring (poly_r []) n (degree-to [] n d) poly-empty)
lead-same (a ∷ l) n c d =
    let f : length l ≡ n = deg-unique ℚ-ring (poly_r (a ∷ l)) (length l) n (canonical-degree a l c) (degree-to (rats (a ∷ l)) n d) in
    let e : length (a ∷ l) - 1 ≡ n = omega arith in
    same-val _ _ (ap (λ m. value (get_or (a ∷ l) m zero_r)) e ∙ sym (poly_r-at (a ∷ l) n) ∙ poly-at (rats (a ∷ l)) n)

enter-lead : (d : Gate) (x : Rat) (r : Ratio) → (d ≡ Open → Same (rat r) x) → status_of (enter_step d (Ok r)) ≡ 0 → Same (rat (ratio_of (enter_step d (Ok r)))) x
enter-lead Open x r h e = h refl
enter-lead TooMany x r h e = absurd (omega arith)
enter-lead Bad x r h e = absurd (omega arith)

pub lead-tells : (p : Poly) → TellsLead p (lead_of p)
lead-tells p = record { is = λ n d. enter-lead (door_of p) (coeff (reading p) n) (get_or (terms_of p) (length (terms_of p) - 1) zero_r) (λ o. lead-same (terms_of p) n (opened p o).canonical d) }

-- ---- a result that is the model's has the model's promise

pub eval-told : (p : Poly) (x : Ratio) (r : Result Ratio Reason) → r ≡ eval_of p x → GivesValue (P.value (reading p) (rat x)) r
eval-told p x r e = subst (GivesValue (P.value (reading p) (rat x))) (sym e) (eval-gives p x)

pub lead-told : (p : Poly) (r : Result Ratio Reason) → r ≡ lead_of p → TellsLead p r
lead-told p r e = subst (TellsLead p) (sym e) (lead-tells p)

pub degree-told : (p : Poly) (r : Result (Option ℕ) Reason) → r ≡ degree_of p → TellsDegree p r
degree-told p r e = subst (λ (t : Result (Option ℕ) Reason). TellsDegree p t) (sym e) (degree-tells p)

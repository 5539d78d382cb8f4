-- Laws of the recursion of resultants: the run from what division, power and the inner resultant tell, each counted from 0; and bounds of their steps.
use Rattle.std.specs.Prelude.{Err}
use mathlib.Core.Path.{◌≡◌, refl, sym, ap, ◌∙◌}
use mathlib.Core.List.{List, [], ◌∷◌}
use Prim.Native.Nat.{ℕ, zero, suc, ◌+◌, ◌-◌, ◌*◌, ◌≤◌, ◌<◌}
use native.Mathlib.Nat.{mul-le-mul}
use native.Mathlib.Omega.{arith}
use lib.ListN.{length, get_or}
use Rattle.ratio.specs.Refusal.{zero_r, no_refusal}
use Rattle.ratio.specs.declared.Ratio.{Ratio}
use Rattle.ratio.specs.declared.Reason.{Reason}
use Rattle.terms.specs.Poly.{terms_of}
use Rattle.terms.specs.Machine.{Ran, fine, over, and_then, plain, whole_r}
use Rattle.terms.proofs.Lists.{terms-of-poly}
use Rattle.terms.proofs.StepsCount.{steps_of}
use Rattle.terms.proofs.StepsShift.{shift}
use Rattle.remainders.specs.declared.Division.{Division}
use Rattle.remainders.specs.declared.Number.{Number}
use Rattle.remainders.specs.Divide.{Split, split, lead, divided}
use Rattle.remainders.specs.Resultant.{sign_of, degree_of, unit, powered, signed, joined, onward, ordered}
use Rattle.remainders.specs.Answer.{division_of, divided_of, no_number, number_of}
use Rattle.remainders.proofs.CodeAnswer.{some-divided, division-few as division-cheap}
use Rattle.remainders.proofs.PriceDivide.{rest_below}
use Rattle.remainders.proofs.PriceResultant.{powered-price, ordered_with, ordered-price}
use Rattle.remainders.proofs.PriceShift.{powered-shift, ordered-shift}

-- ---- as many divisions as the divisor is long are enough

then_same : {X Y : Type 0} (r : Ran ℕ X) (f g : ℕ → X → Ran ℕ Y) → ((n : ℕ) (x : X) → r ≡ fine n x → f n x ≡ g n x) → and_then r f ≡ and_then r g
then_same (fine n x) f g h = h n x refl
then_same (over n) f g h = refl

onward-same : (a b rest : List Ratio) (i j : ℕ → Ran ℕ Ratio) (k : ℕ) → ((n : ℕ) → i n ≡ j n) → onward plain a b i rest k ≡ onward plain a b j rest k
onward-same a b [] i j k h = refl
onward-same a b (r ∷ rest) i j k h =
    then_same (powered plain (lead plain b) (length a - length (r ∷ rest)) (unit plain) k) _ _ (λ n p e.
    ap (λ (x : Ran ℕ Ratio). and_then x (λ log sub. joined plain (signed plain (degree_of a * degree_of b)) p sub log)) (h n))

pub enough : (f g : ℕ) (a b : List Ratio) (k : ℕ) → length b ≤ f → length b ≤ g → ordered plain f a b k ≡ ordered plain g a b k
unfolding ordered
enough zero zero a b k h l = refl
enough zero (suc g) a [] k h l = refl
enough zero (suc g) a (y ∷ b) k h l = absurd (omega arith)
enough (suc f) zero a [] k h l = refl
enough (suc f) zero a (y ∷ b) k h l = absurd (omega arith)
enough (suc f) (suc g) a [] k h l = refl
enough (suc f) (suc g) a (y ∷ []) k h l = refl
enough (suc f) (suc g) a (y ∷ z ∷ b) k h l =
    let v : List Ratio = y ∷ z ∷ b in
    then_same (divided plain a v k) _ _ (λ n s e.
    let w = rest_below a v (omega arith) k n s e in
    onward-same a v s.rest _ _ n (λ j. enough f g v s.rest j (omega (arith, w.shorter)) (omega (arith, w.shorter))))

-- ---- what an answer tells of the run

pub number-over : (r : Ran ℕ Ratio) (x : Number) (why : Reason) → x ≡ number_of r → x.outcome ≡ Err why → r ≡ over x.steps
number-over (fine k y) x why e o = absurd (let n : ◌≡◌ {A = ℕ} 0 1 = cc in omega arith)
number-over (over k) x why e o = ap over (sym (ap (λ (n : Number). n.steps) e))

pub number-fine : (r : Ran ℕ Ratio) (x : Number) → x ≡ number_of r → x.outcome ≡ no_refusal → r ≡ fine x.steps x.value
number-fine (fine k y) x e o = rw e
number-fine (over k) x e o = absurd (let n : ◌≡◌ {A = ℕ} 0 1 = cc in omega arith)

pub number-steps : (r : Ran ℕ Ratio) (x : Number) → x ≡ number_of r → x.steps ≡ steps_of r
number-steps (fine k y) x e = rw e
number-steps (over k) x e = rw e

-- the division that was made
pub record Made (r : Ran ℕ (Split Ratio)) (d : Division) : Type 0 where
  pub quotient : List Ratio
  pub is : r ≡ fine d.steps (split quotient (terms_of d.rest))

division-over : (r : Ran ℕ (Split Ratio)) (d : Division) (why : Reason) → d ≡ division_of r → d.outcome ≡ Err why → r ≡ over d.steps
division-over (fine k s) d why e o = absurd (let n : ◌≡◌ {A = ℕ} 0 1 = cc in omega arith)
division-over (over k) d why e o = ap over (sym (ap (λ (n : Division). n.steps) e))

division-fine : (r : Ran ℕ (Split Ratio)) (d : Division) → d ≡ division_of r → d.outcome ≡ no_refusal → Made r d
division-fine (fine k s) d e o = record { quotient = s.quotient; is = rw (e, terms-of-poly s.rest) }
division-fine (over k) d e o = absurd (let n : ◌≡◌ {A = ℕ} 0 1 = cc in omega arith)

-- ---- the run, by the length of the second and what is left of the division

module _ (a b : List Ratio) where
  pub zero_is : length b ≡ 0 → fine 0 zero_r ≡ ordered plain (length b) a b 0
  unfolding ordered
  zero_is h = go b h
    where
      go : (b : List Ratio) → length b ≡ 0 → fine 0 zero_r ≡ ordered plain (length b) a b 0
      go [] h = refl
      go (y ∷ b) h = absurd (omega arith)

  pub constant-is : length b ≡ 1 → powered plain (get_or b 0 zero_r) (length a - 1) (unit plain) 0 ≡ ordered plain (length b) a b 0
  unfolding ordered
  constant-is h = go b h
    where
      go : (b : List Ratio) → length b ≡ 1 → powered plain (get_or b 0 zero_r) (length a - 1) (unit plain) 0 ≡ ordered plain (length b) a b 0
      go [] h = absurd (omega arith)
      go (y ∷ []) h = refl
      go (y ∷ z ∷ b) h = absurd (omega arith)

  division-first : 2 ≤ length b → ordered plain (length b) a b 0 ≡ and_then (divided plain a b 0) (λ log s. onward plain a b (λ log. ordered plain (length b - 1) b s.rest log) s.rest log)
  unfolding ordered
  division-first h = go b h
    where
      go : (b : List Ratio) → 2 ≤ length b → ordered plain (length b) a b 0 ≡ and_then (divided plain a b 0) (λ log s. onward plain a b (λ log. ordered plain (length b - 1) b s.rest log) s.rest log)
      go [] h = absurd (omega arith)
      go (y ∷ []) h = absurd (omega arith)
      go (y ∷ z ∷ b) h =
          let n : suc (suc (length b)) - 1 ≡ suc (length b) = omega arith in
          rw n

onward-some : (a b rest : List Ratio) (inner : ℕ → Ran ℕ Ratio) (k : ℕ) → 1 ≤ length rest → onward plain a b inner rest k ≡ and_then (powered plain (lead plain b) (length a - length rest) (unit plain) k) (λ log p. and_then (inner log) (λ log sub. joined plain (signed plain (degree_of a * degree_of b)) p sub log))
onward-some a b [] inner k h = absurd (omega arith)
onward-some a b (r ∷ rest) inner k h = refl

onward-none : (a b rest : List Ratio) (inner : ℕ → Ran ℕ Ratio) (k : ℕ) → length rest ≡ 0 → onward plain a b inner rest k ≡ fine k zero_r
onward-none a b [] inner k h = refl
onward-none a b (r ∷ rest) inner k h = absurd (omega arith)

module _ (a b : List Ratio) (h : 2 ≤ length b) (d : Division) (e : d ≡ divided_of a b) where
  pub division-refused : (why : Reason) → d.outcome ≡ Err why → no_number d.steps ≡ number_of (ordered plain (length b) a b 0)
  division-refused why o =
      let r = division-over (divided plain a b 0) d why (e ∙ some-divided a b (omega arith)) o in
      rw (division-first a b h, r)

  pub division-few : length a ≤ 32 → length b ≤ length a → d.steps ≤ 2080
  division-few l m = division-cheap a b d (omega arith) e l (omega arith)

  module _ (o : d.outcome ≡ no_refusal) where
    made : Made (divided plain a b 0) d
    made = division-fine (divided plain a b 0) d (e ∙ some-divided a b (omega arith)) o

    pub rest-shorter : length (terms_of d.rest) < length b
    rest-shorter = (rest_below a b (omega arith) 0 d.steps (split made.quotient (terms_of d.rest)) made.is).shorter

    -- the inner resultant with no more divisions than it takes
    after-division : ordered plain (length b) a b 0 ≡ onward plain a b (λ log. ordered plain (length (terms_of d.rest)) b (terms_of d.rest) log) (terms_of d.rest) d.steps
    after-division =
        (rw made.is at (division-first a b h)) ∙ onward-same a b (terms_of d.rest) _ _ d.steps (λ j. enough (length b - 1) (length (terms_of d.rest)) b (terms_of d.rest) j (omega (arith, rest-shorter)) (omega arith))

    pub nothing_left : length (terms_of d.rest) ≡ 0 → number_of (fine d.steps zero_r) ≡ number_of (ordered plain (length b) a b 0)
    nothing_left z = sym (ap number_of (after-division ∙ onward-none a b (terms_of d.rest) _ d.steps z))

    module _ (some : length (terms_of d.rest) ≡ 0 → ⊥) (p : Number) (q : p ≡ number_of (powered plain (lead plain b) (length a - length (terms_of d.rest)) (unit plain) 0)) where
      after-rest : ordered plain (length b) a b 0 ≡ and_then (shift d.steps (powered plain (lead plain b) (length a - length (terms_of d.rest)) (unit plain) 0)) (λ log p. and_then (ordered plain (length (terms_of d.rest)) b (terms_of d.rest) log) (λ log sub. joined plain (signed plain (degree_of a * degree_of b)) p sub log))
      after-rest =
          after-division ∙ onward-some a b (terms_of d.rest) _ d.steps (omega arith) ∙ ap (λ (x : Ran ℕ Ratio). and_then x (λ log p. and_then (ordered plain (length (terms_of d.rest)) b (terms_of d.rest) log) (λ log sub. joined plain (signed plain (degree_of a * degree_of b)) p sub log))) (powered-shift d.steps (lead plain b) (length a - length (terms_of d.rest)) (unit plain))

      pub power-few : p.steps ≤ length a
      power-few =
          omega (arith, number-steps (powered plain (lead plain b) (length a - length (terms_of d.rest)) (unit plain) 0) p q, powered-price (lead plain b) (length a - length (terms_of d.rest)) (unit plain) 0)

      pub power-refused : (why : Reason) → p.outcome ≡ Err why → no_number (d.steps + p.steps) ≡ number_of (ordered plain (length b) a b 0)
      power-refused why u =
          let r = number-over (powered plain (lead plain b) (length a - length (terms_of d.rest)) (unit plain) 0) p why q u in
          rw (after-rest, r)

      module _ (u : p.outcome ≡ no_refusal) (s : Number) (v : s ≡ number_of (ordered plain (length (terms_of d.rest)) b (terms_of d.rest) 0)) where
        after-power : ordered plain (length b) a b 0 ≡ and_then (shift (d.steps + p.steps) (ordered plain (length (terms_of d.rest)) b (terms_of d.rest) 0)) (λ log sub. joined plain (signed plain (degree_of a * degree_of b)) p.value sub log)
        after-power =
            let r = number-fine (powered plain (lead plain b) (length a - length (terms_of d.rest)) (unit plain) 0) p q u in
            (rw r at after-rest) ∙ ap (λ (x : Ran ℕ Ratio). and_then x (λ log sub. joined plain (signed plain (degree_of a * degree_of b)) p.value sub log)) (ordered-shift (d.steps + p.steps) (length (terms_of d.rest)) b (terms_of d.rest))

        pub inner-refused : (why : Reason) → s.outcome ≡ Err why → no_number (d.steps + p.steps + s.steps) ≡ number_of (ordered plain (length b) a b 0)
        inner-refused why w =
            let r = number-over (ordered plain (length (terms_of d.rest)) b (terms_of d.rest) 0) s why v w in
            rw (after-power, r)

        pub all_made : s.outcome ≡ no_refusal → (n m l : ℕ) (x : Ratio) (z : Number) → n ≡ length a → m ≡ length b → l ≡ n - 1 → x ≡ whole_r (sign_of (l * (m - 1))) → z ≡ number_of (joined plain x p.value s.value (d.steps + p.steps + s.steps)) → z ≡ number_of (ordered plain (length b) a b 0)
        all_made w n m l x z hn hm hl hx hz =
            let r = number-fine (ordered plain (length (terms_of d.rest)) b (terms_of d.rest) 0) s v w in
            let k : l ≡ length a - 1 = omega arith in
            let t = rw r at after-power in
            (rw (hx, hm, k) at hz) ∙ sym (ap number_of t)

-- ---- as the code has them: lengths and differences under names of their own

pub constant-told : (a b : List Ratio) (x : Ratio) (n e : ℕ) (p : Number) → length b ≡ 1 → x ≡ get_or b 0 zero_r → n ≡ length a → e ≡ n - 1 → p ≡ number_of (powered plain x e (unit plain) 0) → p ≡ number_of (ordered plain (length b) a b 0)
constant-told a b x n e p h hx hn he q =
    let m : e ≡ length a - 1 = omega arith in
    (rw (hx, m) at q) ∙ ap number_of (constant-is a b h)

pub power-told : (a b rest : List Ratio) (x : Ratio) (n k e : ℕ) (p : Number) → x ≡ lead plain b → n ≡ length a → k ≡ length rest → e ≡ n - k → p ≡ number_of (powered plain x e (unit plain) 0) → p ≡ number_of (powered plain (lead plain b) (length a - length rest) (unit plain) 0)
power-told a b rest x n k e p hx hn hk he q =
    let m : e ≡ length a - length rest = omega arith in
    rw (hx, m) at q

pub degrees-fit : (n m l : ℕ) → l ≡ n - 1 → n ≤ 32 → m ≤ 32 → l * (m - 1) ≤ 961
degrees-fit n m l e h k =
    let x : l ≤ 31 = omega arith in
    let y : m - 1 ≤ 31 = omega arith in
    mul-le-mul x y

-- ---- the steps fit a word

ordered_with-few : (a b : List Ratio) → length a ≤ 32 → length b ≤ 32 → ordered_with a b ≤ 2232
ordered_with-few a [] h l = omega arith
ordered_with-few a (y ∷ []) h l = omega arith
ordered_with-few a (y ∷ z ∷ b) h l =
    let x : length a - 1 ≤ 31 = omega arith in
    let y : suc (length b) ≤ 31 = omega arith in
    omega (arith, mul-le-mul x y)

pub ordered-few : (a b : List Ratio) (s : Number) → s ≡ number_of (ordered plain (length b) a b 0) → length a ≤ 32 → length b ≤ length a → s.steps ≤ 2232
ordered-few a b s e h l =
    omega (arith, number-steps (ordered plain (length b) a b 0) s e, ordered-price (length b) a b 0 (omega arith) l, ordered_with-few a b h (omega arith))

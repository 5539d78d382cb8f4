-- Document 01, module 4, the written chain: without the names it is the plain work, the counter is its length, and it is faithful, answered or refused.
use mathlib.Core.Path.{◌≡◌, refl, sym, ap, ap₂, subst, ◌∙◌}
use mathlib.Core.List.{List, [], ◌∷◌, ◌++◌, map}
use Prim.Native.Nat.{ℕ, zero, suc, ◌+◌, ◌-◌, ◌≤◌, ◌<◌}
use native.Mathlib.Omega.{arith}
use lib.IntN.{pos}
use lib.ListN.{length, get_or, drop, length-drop}
use lib.Seq.{drop-cons}
use Rattle.ratio.specs.Promise.{Fraction}
use Rattle.ratio.specs.Range.{limit, Within}
use Rattle.ratio.specs.Refusal.{zero_r}
use Rattle.ratio.specs.declared.Ratio.{Ratio}
use Rattle.terms.specs.Machine.{Ran, fine, over, plain}
use Rattle.terms.proofs.StepsCount.{steps_of}
use Rattle.terms.proofs.StepsRelated.{Pairwise, none, more, pair-append, Outcome, answered, refused, Lists}
use Rattle.remainders.specs.Chain.{Name, first, second, Wire, Written, writer, wires, chain_of, meaning, Earlier, Finished, Stopped}
use Rattle.remainders.specs.Divide.{Split, split, divided}
use Rattle.remainders.specs.Gcd.{gcd_of, square_free}
use Rattle.remainders.specs.Resultant.{resultant_of, discriminant_of}
use Rattle.remainders.proofs.ChainRelated.{Splits, divided-related, gcd_of-related, square_free-related, resultant_of-related, discriminant_of-related}
use Rattle.remainders.proofs.ChainFaithful.{Sofar, Named, writing, writing-kept}

-- ---- without the names

-- the work with the length of its chain for a counter
abbrev pub forgotten : {X Y : Type 0} → (X → Y) → Ran (List Written) X → Ran ℕ Y
forgotten f (fine chain x) = fine (length chain) (f x)
forgotten f (over chain) = over (length chain)

abbrev pub value_of : Wire → Ratio
value_of w = w.value

abbrev pub values_of : List Wire → List Ratio
values_of l = map value_of l

abbrev pub split_of : Split Wire → Split Ratio
split_of s = split (values_of s.quotient) (values_of s.rest)

-- a chain that ended in an answer is finished, one that ended in a refusal stopped; g lists an answer's numbers
abbrev pub Ended : {X : Type 0} → List Ratio → List Ratio → (X → List Wire) → Ran (List Written) X → Type 0
Ended a b g (fine chain x) = Finished a b chain (g x)
Ended a b g (over chain) = Stopped a b chain

-- the written work r of the inputs a and b is the plain work s, and its chain is faithful; f forgets the names of an answer
pub record Tells {X Y : Type 0} (a b : List Ratio) (f : X → Y) (g : X → List Wire) (r : Ran (List Written) X) (s : Ran ℕ Y) : Type 0 where
  pub erased : forgotten f r ≡ s
  pub counter : steps_of s ≡ length (chain_of r)
  pub ended : Ended a b g r

-- an answer of the plain work comes from a finished chain with as many steps, a refusal from a stopped one
module _ {X Y : Type 0} (a b : List Ratio) (f : X → Y) (g : X → List Wire) where
  -- what stands behind an answer
  pub record Behind (chain : List Written) (x : X) (k : ℕ) (y : Y) : Type 0 where
    pub steps : length chain ≡ k
    pub value : f x ≡ y
    pub finished : Finished a b chain (g x)

  pub answer-written : (r : Ran (List Written) X) (s : Ran ℕ Y) → Tells a b f g r s → (k : ℕ) (y : Y) → s ≡ fine k y → (chain : List Written) × (x : X) × (r ≡ fine chain x) × Behind chain x k y
  answer-written (fine chain x) s t k y e =
      let q : fine (length chain) (f x) ≡ fine k y = t.erased ∙ e in
      (chain, x, refl, record { steps = cc; value = cc; finished = t.ended })
  answer-written (over chain) s t k y e =
      let q : over (length chain) ≡ fine k y = t.erased ∙ e in
      absurd (let z : ◌≡◌ {A = ℕ} 0 1 = cc in let y : ⊥ = omega arith in y)

  pub refusal-written : (r : Ran (List Written) X) (s : Ran ℕ Y) → Tells a b f g r s → (k : ℕ) → s ≡ over k → (chain : List Written) × (r ≡ over chain) × (length chain ≡ k) × Stopped a b chain
  refusal-written (fine chain x) s t k e =
      let q : fine (length chain) (f x) ≡ over k = t.erased ∙ e in
      absurd (let z : ◌≡◌ {A = ℕ} 0 1 = cc in let y : ⊥ = omega arith in y)
  refusal-written (over chain) s t k e =
      let q : ◌≡◌ {A = Ran ℕ Y} (over (length chain)) (over k) = t.erased ∙ e in
      (chain, refl, cc, t.ended)

-- every coefficient is a fraction
abbrev pub Fractions : List Ratio → Type 0
Fractions a = (i : ℕ) → i < length a → Fraction (get_or a i zero_r)

module _ (a b : List Ratio) where
  names-mean : (results : List Ratio) {ws : List Wire} {rs : List Ratio} → Pairwise (Named a b results) ws rs → (i : ℕ) (w : Wire) → i < length ws → (get_or ws i w).value ≡ meaning a b results (get_or ws i w).name
  names-mean results none i w h = absurd (let z : ⊥ = omega arith in z)
  names-mean results (more p l) zero w h = sym p.means
  names-mean results (more p l) (suc i) w h = names-mean results l i w (omega arith)

  values_same : (results : List Ratio) {ws : List Wire} {rs : List Ratio} → Pairwise (Named a b results) ws rs → values_of ws ≡ rs
  values_same results none = refl
  values_same results (more p l) = ap₂ (λ (x : Ratio) (xs : List Ratio). x ∷ xs) p.same (values_same results l)

  -- and is an input's, a constant's or a result's
  names-known : (results : List Ratio) {l : List Wire} {m : List Ratio} → Pairwise (Named a b results) l m → (i : ℕ) (w : Wire) → i < length l → Earlier a b (length results) (get_or l i w).name
  names-known results none i w h = absurd (omega arith)
  names-known results (more p q) zero w h = p.before
  names-known results (more p q) (suc i) w h = names-known results q i w (omega arith)

  -- what related work tells
  tells : {X Y : Type 0} {P : List Ratio → X → Y → Type 0} (f : X → Y) (g : X → List Wire) → ((results : List Ratio) (x : X) (y : Y) → P results x y → f x ≡ y) → ((results : List Ratio) (x : X) (y : Y) → P results x y → (rs : List Ratio) × Pairwise (Named a b results) (g x) rs) → {r : Ran (List Written) X} {s : Ran ℕ Y} → Outcome (writing a b) P [] r s → Tells a b f g r s
  tells f g same named (answered {x = x} {y = y} results l q p) = record {
    erased = ap₂ fine (sym q.count) (same results x y p);
    counter = q.count;
    ended = record { results = results; all = q.all; faithful = q.faithful; named = names-mean results (named results x y p).1; known = λ i w h. subst (λ (k : ℕ). Earlier a b k (get_or (g x) i w).name) q.all (names-known results (named results x y p).1 i w h) };
  }
  tells f g same named (refused e) = record { erased = ap over (sym e.count); counter = e.count; ended = e.stopped }

  list_tells : {r : Ran (List Written) (List Wire)} {s : Ran ℕ (List Ratio)} → Outcome (writing a b) (Lists (writing a b) (writing-kept a b)) [] r s → Tells a b values_of (λ l. l) r s
  list_tells h = tells values_of (λ l. l) (λ results x y p. values_same results p) (λ results x y p. (y, p)) h

  split-tells : {r : Ran (List Written) (Split Wire)} {s : Ran ℕ (Split Ratio)} → Outcome (writing a b) (Splits (writing a b) (writing-kept a b)) [] r s → Tells a b split_of (λ s. s.quotient ++ s.rest) r s
  split-tells h =
      tells split_of (λ s. s.quotient ++ s.rest) (λ results x y p. ap₂ split (values_same results p.0) (values_same results p.1)) (λ results x y p. (y.quotient ++ y.rest, pair-append p.0 p.1)) h

  number-tells : {r : Ran (List Written) Wire} {s : Ran ℕ Ratio} → Outcome (writing a b) (Named a b) [] r s → Tells a b value_of (λ w. w ∷ []) r s
  number-tells h = tells value_of (λ w. w ∷ []) (λ results x y p. p.same) (λ results x y p. (y ∷ [], more p none)) h

  -- ---- at the start nothing is known but the inputs

  start : Sofar a b [] [] 0
  start = record {
    all = refl;
    count = refl;
    faithful = record { earlier = λ k h. absurd (let z : ⊥ = omega arith in z); answered = λ k h. absurd (let z : ⊥ = omega arith in z) };
  }

  -- coefficient i of an input is named by it
  input-named : (c : List Ratio) (f : ℕ → Name) → ((i : ℕ) → meaning a b [] (f i) ≡ get_or c i zero_r) → ((i : ℕ) → i < length c → Earlier a b 0 (f i)) → Fractions c → (i : ℕ) (l : List Ratio) → drop i c ≡ l → Pairwise (Named a b []) (wires f i l) l
  unfolding wires
  input-named c f m e h i [] d = none
  input-named c f m e h i (x ∷ l) d =
      let n : length c - i ≡ suc (length l) = sym (length-drop i c) ∙ ap length d in
      let p = drop-cons c i zero_r (omega arith) in
      let at : get_or c i zero_r ≡ x = cc in
      more (record { same = refl; means = m i ∙ at; before = e i (omega arith); fraction = subst Fraction at (h i (omega arith)) }) (input-named c f m e h (suc i) l (cc))

  module _ (fa : Fractions a) (fb : Fractions b) where
    first-named : Pairwise (Named a b []) (wires first 0 a) a
    unfolding meaning Earlier
    first-named = input-named a first (λ i. refl) (λ i h. h) fa 0 a refl

    second-named : Pairwise (Named a b []) (wires second 0 b) b
    unfolding meaning Earlier
    second-named = input-named b second (λ i. refl) (λ i h. h) fb 0 b refl

    -- ---- division, gcd, resultant

    pub division-tells : Tells a b split_of (λ s. s.quotient ++ s.rest) (divided writer (wires first 0 a) (wires second 0 b) []) (divided plain a b 0)
    division-tells = split-tells (divided-related (writing a b) (writing-kept a b) start first-named second-named)

    pub gcd-tells : Tells a b values_of (λ l. l) (gcd_of writer (wires first 0 a) (wires second 0 b) []) (gcd_of plain a b 0)
    gcd-tells = list_tells (gcd_of-related (writing a b) (writing-kept a b) start first-named second-named)

    pub resultant-tells : Tells a b value_of (λ w. w ∷ []) (resultant_of writer (wires first 0 a) (wires second 0 b) []) (resultant_of plain a b 0)
    resultant-tells = number-tells (resultant_of-related (writing a b) (writing-kept a b) start first-named second-named)

-- ---- of one input: discriminant and square-free part

no-fractions : Fractions []
no-fractions i h = absurd (let z : ⊥ = omega arith in z)

module _ (f : List Ratio) (fractions : Fractions f) (short : length f ≤ limit) where
  index-within : (i : ℕ) → i < length f - 1 → Within (pos (i + 1))
  index-within i h = omega arith

  pub discriminant-tells : Tells f [] value_of (λ w. w ∷ []) (discriminant_of writer (wires first 0 f) []) (discriminant_of plain f 0)
  discriminant-tells = number-tells f [] (discriminant_of-related (writing f []) (writing-kept f []) index-within (start f []) (first-named f [] fractions no-fractions))

  pub square_free-tells : Tells f [] values_of (λ l. l) (square_free writer (wires first 0 f) []) (square_free plain f 0)
  square_free-tells = list_tells f [] (square_free-related (writing f []) (writing-kept f []) index-within (start f []) (first-named f [] fractions no-fractions))

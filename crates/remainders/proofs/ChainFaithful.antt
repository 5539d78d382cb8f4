-- The writer beside the plain machine: each step that is written keeps the chain faithful, and the plain machine counts it.
use Rattle.ratio.specs.declared.Reason.{Reason}
use Rattle.std.specs.Prelude.{Result, Ok, Err}
use mathlib.Core.Path.{◌≡◌, refl, sym, ap, ap₂, ◌∙◌}
use mathlib.Core.List.{List, [], ◌∷◌, ◌++◌}
use mathlib.Core.Logic.{◌⊎◌, inl, inr}
use Prim.Native.Nat.{ℕ, suc, ◌≤◌, ◌<◌}
use native.Mathlib.Omega.{arith}
use native.Mathlib.Decide.{dec_lt}
use lib.IntN.{ℤ}
use lib.ListN.{length, get_or, length-append, get_or-append}
use lib.Seq.{get_or-append_seam}
use Rattle.ratio.specs.Promise.{Fraction}
use Rattle.ratio.specs.Range.{Within}
use Rattle.ratio.specs.Refusal.{ratio_of, zero_r}
use Rattle.ratio.specs.Step.{inv_of}
use Rattle.ratio.specs.declared.Ratio.{Ratio}
use Rattle.ratio.specs.declared.Reason.TheVariants.{CoeffOverflow}
use Rattle.ratio.proofs.Steps.{add_done, sub-done, mul-done, inv-done, add-either, sub-either, mul-either, zero-lowest}
use Rattle.terms.specs.Machine.{Op, plus, minus, times, step_of, counted, plain, whole_r}
use Rattle.terms.proofs.StepsRelated.{Relation, Outcome, answered, refused, Kept}
use Rattle.remainders.specs.Chain.{Name, first, second, constant, inverse, result, Wire, Written, noted, writer, nothing, meaning, Earlier, performed, Faithful, Stopped}

-- ---- of two fractions, a step is a fraction or leaves the range; the inverse of a fraction is one

as-fraction : (s : Result Ratio Reason) → ((r : Ratio) → s ≡ Ok r → Fraction r) → ((r : Ratio) × (s ≡ Ok r)) ⊎ (s ≡ Err CoeffOverflow) → ((r : Ratio) × (s ≡ Ok r) × Fraction r) ⊎ (s ≡ Err CoeffOverflow)
as-fraction s f (inl d) = inl (d.0, d.1, f d.0 d.1)
as-fraction s f (inr e) = inr e

step-either : (op : Op) (x y : Ratio) → Fraction x → Fraction y → ((r : Ratio) × (step_of op x y ≡ Ok r) × Fraction r) ⊎ (step_of op x y ≡ Err CoeffOverflow)
step-either plus x y f g = as-fraction _ (λ r e. (add_done x y r e).1.fraction) (add-either x y f g)
step-either minus x y f g = as-fraction _ (λ r e. (sub-done x y r e).1.fraction) (sub-either x y f g)
step-either times x y f g = as-fraction _ (λ r e. (mul-done x y r e).1.fraction) (mul-either x y f g)

inverse-is : (x : Ratio) (s : Result Ratio Reason) → inv_of x ≡ s → Fraction (ratio_of s)
inverse-is x (Ok r) e = (inv-done x r e).1.fraction
inverse-is x (Err why) e = zero-lowest.fraction

-- what was known stays known
pub record Longer (r r' : List Ratio) : Type 0 where
  pub longer : length r ≤ length r'
  pub kept : (k : ℕ) → k < length r → get_or r' k zero_r ≡ get_or r k zero_r

longer-refl : (r : List Ratio) → Longer r r
longer-refl r = record { longer = omega arith; kept = λ k h. refl }

longer-trans : (r r' r'' : List Ratio) → Longer r r' → Longer r' r'' → Longer r r''
longer-trans r r' r'' p q = record { longer = omega arith; kept = λ k h. q.kept k (omega (arith, p.longer)) ∙ p.kept k h }

longer-one : (r : List Ratio) (x : Ratio) → Longer r (r ++ (x ∷ []))
longer-one r x = record { longer = omega (arith, length-append r (x ∷ [])); kept = λ k h. get_or-append r (x ∷ []) zero_r k h }

module _ (a b : List Ratio) where
  -- the steps so far were answered, and as many are counted
  pub record Sofar (results : List Ratio) (chain : List Written) (n : ℕ) : Type 0 where
    pub all : length results ≡ length chain
    pub count : n ≡ length chain
    pub faithful : Faithful a b chain results

  -- the last step left the range, and all are counted
  pub record Over (chain : List Written) (n : ℕ) : Type 0 where
    pub count : n ≡ length chain
    pub stopped : Stopped a b chain

  -- the name of a number stands for it, and for a fraction
  pub record Named (results : List Ratio) (w : Wire) (r : Ratio) : Type 0 where
    pub same : w.value ≡ r
    pub means : meaning a b results w.name ≡ w.value
    pub before : Earlier a b (length results) w.name
    pub fraction : Fraction r

  earlier-later : (k k' : ℕ) → k ≤ k' → (n : Name) → Earlier a b k n → Earlier a b k' n
  unfolding Earlier
  earlier-later k k' l (first i) h = h
  earlier-later k k' l (second i) h = h
  earlier-later k k' l (constant z) h = h
  earlier-later k k' l (inverse n) h = earlier-later k k' l n h
  earlier-later k k' l (result j) h = omega arith

  meaning-later : (r r' : List Ratio) → Longer r r' → (n : Name) → Earlier a b (length r) n → meaning a b r' n ≡ meaning a b r n
  unfolding meaning Earlier
  meaning-later r r' l (first i) h = refl
  meaning-later r r' l (second i) h = refl
  meaning-later r r' l (constant z) h = refl
  meaning-later r r' l (inverse n) h = ap (λ (x : Ratio). ratio_of (inv_of x)) (meaning-later r r' l n h)
  meaning-later r r' l (result j) h = l.kept j h

  named-later : (r r' : List Ratio) (w : Wire) (x : Ratio) → Longer r r' → Named r w x → Named r' w x
  named-later r r' w x l h = record {
    same = h.same;
    means = meaning-later r r' l w.name h.before ∙ h.means;
    before = earlier-later (length r) (length r') l.longer w.name h.before;
    fraction = h.fraction;
  }

  -- ---- one step more

  module _ (chain : List Written) (x : Written) where
    chain-kept : (k : ℕ) → k < length chain → get_or (chain ++ (x ∷ [])) k nothing ≡ get_or chain k nothing
    chain-kept k h = get_or-append chain (x ∷ []) nothing k h

    chain-last : get_or (chain ++ (x ∷ [])) (length chain) nothing ≡ x
    chain-last = get_or-append_seam chain x [] nothing

    chain-longer : length (chain ++ (x ∷ [])) ≡ suc (length chain)
    chain-longer = omega (arith, length-append chain (x ∷ []))

  performed-kept : (chain : List Written) (x : Written) (r r' : List Ratio) (k : ℕ) → Longer r r' → k < length chain → k ≤ length r → Earlier a b k (get_or chain k nothing).left × Earlier a b k (get_or chain k nothing).right → performed a b (chain ++ (x ∷ [])) r' k ≡ performed a b chain r k
  performed-kept chain x r r' k l h m e =
      let w = get_or chain k nothing in
      rw (chain-kept chain x k h)
      (ap₂ (step_of w.op) (meaning-later r r' l w.left (earlier-later k (length r) m w.left e.0)) (meaning-later r r' l w.right (earlier-later k (length r) m w.right e.1)))

  performed-last : (chain : List Written) (x : Written) (r : List Ratio) (k : ℕ) → k ≡ length chain → performed a b (chain ++ (x ∷ [])) r k ≡ step_of x.op (meaning a b r x.left) (meaning a b r x.right)
  performed-last chain x r k e = rw (e, chain-last chain x)

  module _ (chain : List Written) (r : List Ratio) (all : length r ≡ length chain) (f : Faithful a b chain r) (x : Written) (e : Earlier a b (length r) x.left × Earlier a b (length r) x.right) where
    earlier_more : (k : ℕ) → k < length (chain ++ (x ∷ [])) → Earlier a b k (get_or (chain ++ (x ∷ [])) k nothing).left × Earlier a b k (get_or (chain ++ (x ∷ [])) k nothing).right
    earlier_more k h = go (dec_lt k (length chain))
      where
        go : Dec (k < length chain) → Earlier a b k (get_or (chain ++ (x ∷ [])) k nothing).left × Earlier a b k (get_or (chain ++ (x ∷ [])) k nothing).right
        go (yes l) = rw (chain-kept chain x k l) (f.earlier k l)
        go (no l) =
            let q : k ≡ length chain = omega (arith, chain-longer chain x) in
            rw (q, chain-last chain x) (rw all at e)

    -- an answered step more
    faithful-more : (y : Ratio) → step_of x.op (meaning a b r x.left) (meaning a b r x.right) ≡ Ok y → Faithful a b (chain ++ (x ∷ [])) (r ++ (y ∷ []))
    faithful-more y s = record { earlier = earlier_more; answered = λ k h. go k h (dec_lt k (length r)) }
      where
        go : (k : ℕ) → k < length (r ++ (y ∷ [])) → Dec (k < length r) → performed a b (chain ++ (x ∷ [])) (r ++ (y ∷ [])) k ≡ Ok (get_or (r ++ (y ∷ [])) k zero_r)
        go k h (yes l) =
            performed-kept chain x r (r ++ (y ∷ [])) k (longer-one r y) (omega arith) (omega arith) (f.earlier k (omega arith)) ∙ f.answered k l ∙ ap Ok (sym (get_or-append r (y ∷ []) zero_r k l))
        go k h (no l) =
            let q : k ≡ length r = omega (arith, length-append r (y ∷ [])) in
            performed-last chain x (r ++ (y ∷ [])) k (q ∙ all) ∙ ap₂ (step_of x.op) (meaning-later r _ (longer-one r y) x.left e.0) (meaning-later r _ (longer-one r y) x.right e.1) ∙ s ∙ ap Ok (sym (rw q (get_or-append_seam r y [] zero_r)))

    -- a refused step more
    stopped_more : step_of x.op (meaning a b r x.left) (meaning a b r x.right) ≡ Err CoeffOverflow → Stopped a b (chain ++ (x ∷ []))
    stopped_more s = record {
      results = r;
      all_but_one = omega (arith, chain-longer chain x);
      faithful = record { earlier = earlier_more; answered = λ k h. performed-kept chain x r r k (longer-refl r) (omega arith) (omega arith) (f.earlier k (omega arith)) ∙ f.answered k h };
      refused = performed-last chain x r (length r) all ∙ s;
    }

  -- ---- the relation, and that each step keeps it

  abbrev pub writing : Relation Wire Ratio (List Written) ℕ
  writing = record { Known = List Ratio; Later = Longer; Logs = Sofar; Ends = Over; Wires = Named; Wholes = Within }

  result-named : (r : List Ratio) (k : ℕ) (z : Ratio) → length r ≡ k → Fraction z → Named (r ++ (z ∷ [])) (record { name = result k; value = z }) z
  unfolding meaning Earlier
  result-named r k z e f = record {
    same = refl;
    means = rw (← e) (get_or-append_seam r z [] zero_r);
    before = omega (arith, length-append r (z ∷ []));
    fraction = f;
  }

  make-kept : (op : Op) (r : List Ratio) (chain : List Written) (n : ℕ) (x u : Wire) (y v : Ratio) → Sofar r chain n → Named r x y → Named r u v → Outcome writing Named r (writer.make op x u chain) (plain.make op y v n)
  make-kept op r chain n x u y v q h g = rw (h.same, g.same) (go (step-either op y v h.fraction g.fraction))
    where
      w : Written
      w = record { op = op; left = x.name; right = u.name }

      step_is : step_of op (meaning a b r x.name) (meaning a b r u.name) ≡ step_of op y v
      step_is = ap₂ (step_of op) (h.means ∙ h.same) (g.means ∙ g.same)

      count-more : suc n ≡ length (chain ++ (w ∷ []))
      count-more = omega (arith, chain-longer chain w, q.count)

      sofar-more : (z : Ratio) → step_of op y v ≡ Ok z → Sofar (r ++ (z ∷ [])) (chain ++ (w ∷ [])) (suc n)
      sofar-more z e = record {
        all = omega (arith, chain-longer chain w, length-append r (z ∷ []), q.all);
        count = count-more;
        faithful = faithful-more chain r q.all q.faithful w (h.before, g.before) z (step_is ∙ e);
      }

      go : ((z : Ratio) × (step_of op y v ≡ Ok z) × Fraction z) ⊎ (step_of op y v ≡ Err CoeffOverflow) → Outcome writing Named r (noted chain w (step_of op y v)) (counted n (step_of op y v))
      go (inl d) = rw d.1 (answered (r ++ (d.0 ∷ [])) (longer-one r d.0) (sofar-more d.0 d.1) (result-named r (length chain) d.0 q.all d.2))
      go (inr e) = rw e (refused (record { count = count-more; stopped = stopped_more chain r q.all q.faithful w (h.before, g.before) (step_is ∙ e) }))

  whole-named : (r : List Ratio) (z : ℤ) → Within z → Named r (writer.whole z) (whole_r z)
  unfolding meaning Earlier
  whole-named r z h = record {
    same = refl;
    means = refl;
    before = tt;
    fraction = record { num-within = h; den-within = omega arith; den-some = zero-lowest.fraction.den-some };
  }

  inverse-named : (r : List Ratio) (w : Wire) (x : Ratio) → Named r w x → Named r (writer.inverse w) (ratio_of (inv_of x))
  unfolding meaning Earlier
  inverse-named r w x h = record {
    same = ap (λ (y : Ratio). ratio_of (inv_of y)) h.same;
    means = ap (λ (y : Ratio). ratio_of (inv_of y)) h.means;
    before = h.before;
    fraction = inverse-is x (inv_of x) refl;
  }

  pub writing-kept : Kept writing writer plain
  writing-kept = record {
    later_refl = longer-refl;
    later_trans = λ {w} {w'} {w''} p q. longer-trans w w' w'' p q;
    still = λ {w} {w'} {x} {y} p h. named-later w w' x y p h;
    same-value = λ h. h.same;
    small = λ z h. omega arith;
    whole = whole-named;
    inverse = λ {w} {x} {y} h. inverse-named w x y h;
    make = λ op {w} {l} {n} {x} {u} {y} {v} q h g. make-kept op w l n x u y v q h g;
  }

-- Which refusal a door gives, exactly: what it shuts out as bad, what as too long; of two inputs 5 comes before 4.
use mathlib.Core.Path.{◌≡◌, refl, sym, ap, subst, ◌∙◌}
use mathlib.Core.Logic.{◌⊎◌, inl, inr}
use mathlib.Core.Bool.{Bool, true, false}
use mathlib.Core.List.{List, [], ◌∷◌}
use Prim.Native.Nat.{ℕ, zero, suc, ◌+◌, ◌-◌}
use native.Mathlib.Omega.{arith}
use borrow.Author.Tests.{ltb-true, ltb-false, eqb-true}
use lib.Dec.{ltb}
use lib.IntN.{pos, nat_abs}
use lib.ListN.{length, drop, get_or, replicate}
use lib.Seq.{get_or-drop}
use Rattle.ratio.specs.Promise.{Lowest}
use Rattle.ratio.specs.Refusal.{number_of, zero_r}
use Rattle.ratio.specs.Step.{is_lowest, is_nil}
use Rattle.ratio.specs.When.{GivenWhen}
use Rattle.ratio.specs.declared.Ratio.{Ratio}
use Rattle.ratio.specs.declared.Reason.{Reason}
use Rattle.ratio.specs.declared.Reason.TheVariants.{TooLong, BadInput}
use Rattle.ratio.proofs.Answers.{lowest-tells}
use Rattle.ratio.proofs.Fractions.{no_size}
use Rattle.terms.specs.declared.Poly.{Poly}
use Rattle.terms.specs.Poly.{drop_top, terms_of, trim}
use Rattle.terms.proofs.MeaningCanonical.{Canonical, top-some}
use Rattle.terms.proofs.MeaningLowest.{all-lowest}
use Rattle.terms.proofs.MeaningTop.{trim-nothing}
use Rattle.poly.specs.declared.Gate.{Gate}
use Rattle.poly.specs.declared.Gate.TheVariants.{Open, Long, Bad}
use Rattle.poly.specs.Canonical.{IsCanonical, IsLong, IsBad}
use Rattle.poly.specs.Door.{all_unused, is_canonical, open_if, long_if, door_of, door_of_ratio, both, entered}
use Rattle.poly.proofs.Canonical.{opened, lowest-to, top_to}

-- ---- what a door shows

-- the door is shut with 5 for what is bad, with 4 for what is long and not bad, and else open
pub record Shows (bad long : Type 0) (d : Gate) : Type 0 where
  pub open-only : d ≡ Open → (bad → ⊥) × (long → ⊥)
  pub long-only : d ≡ Long → (bad → ⊥) × long
  pub bad-only : d ≡ Bad → bad

abbrev Other : Gate → Gate → Type 0
Other d e = d ≡ e → ⊥

open-long : Other Open Long
open-long e = let z : ◌≡◌ {A = ℕ} 0 1 = cc in omega arith

open-bad : Other Open Bad
open-bad e = let z : ◌≡◌ {A = ℕ} 0 1 = cc in omega arith

long-bad : Other Long Bad
long-bad e = let z : ◌≡◌ {A = ℕ} 0 1 = cc in omega arith

shows-open : (bad long : Type 0) → (bad → ⊥) → (long → ⊥) → Shows bad long Open
shows-open bad long b l = record { open-only = λ e. (b, l); long-only = λ e. absurd (open-long e); bad-only = λ e. absurd (open-bad e) }

shows-long : (bad long : Type 0) → (bad → ⊥) → long → Shows bad long Long
shows-long bad long b l = record { open-only = λ e. absurd (open-long (sym e)); long-only = λ e. (b, l); bad-only = λ e. absurd (long-bad e) }

shows-bad : (bad long : Type 0) → bad → Shows bad long Bad
shows-bad bad long b = record { open-only = λ e. absurd (open-bad (sym e)); long-only = λ e. absurd (long-bad (sym e)); bad-only = λ e. b }

either : {A B : Type 0} → (A → ⊥) → (B → ⊥) → A ⊎ B → ⊥
either f g (inl a) = f a
either f g (inr b) = g b

-- of two inputs: 5 where one is bad, whatever the other is; then 4 where one is long
pub both-shows : {bad long bad' long' : Type 0} {d e : Gate} → Shows bad long d → Shows bad' long' e → Shows (bad ⊎ bad') (long ⊎ long') (both d e)
both-shows {bad} {long} {bad'} {long'} {d = Open} {e = Open} s t =
    shows-open (bad ⊎ bad') (long ⊎ long') (either (s.open-only refl).0 (t.open-only refl).0) (either (s.open-only refl).1 (t.open-only refl).1)
both-shows {bad} {long} {bad'} {long'} {d = Open} {e = Long} s t =
    shows-long (bad ⊎ bad') (long ⊎ long') (either (s.open-only refl).0 (t.long-only refl).0) (inr (t.long-only refl).1)
both-shows {bad} {long} {bad'} {long'} {d = Open} {e = Bad} s t = shows-bad (bad ⊎ bad') (long ⊎ long') (inr (t.bad-only refl))
both-shows {bad} {long} {bad'} {long'} {d = Long} {e = Open} s t =
    shows-long (bad ⊎ bad') (long ⊎ long') (either (s.long-only refl).0 (t.open-only refl).0) (inl (s.long-only refl).1)
both-shows {bad} {long} {bad'} {long'} {d = Long} {e = Long} s t =
    shows-long (bad ⊎ bad') (long ⊎ long') (either (s.long-only refl).0 (t.long-only refl).0) (inl (s.long-only refl).1)
both-shows {bad} {long} {bad'} {long'} {d = Long} {e = Bad} s t = shows-bad (bad ⊎ bad') (long ⊎ long') (inr (t.bad-only refl))
both-shows {bad} {long} {bad'} {long'} {d = Bad} s t = shows-bad (bad ⊎ bad') (long ⊎ long') (inl (s.bad-only refl))

-- a test that is 5 where it fails
pub test-shows : (t : Bool) → Shows (t ≡ false) ⊥ (open_if t)
test-shows true = shows-open (true ≡ false) ⊥ (λ e. let z : ◌≡◌ {A = ℕ} 0 1 = cc in omega arith) (λ z. z)
test-shows false = shows-bad (false ≡ false) ⊥ refl

-- other words for the same
pub shows-as : {bad long bad' long' : Type 0} {d : Gate} → (bad → bad') → (bad' → bad) → (long → long') → (long' → long) → Shows bad long d → Shows bad' long' d
shows-as f f' g g' s = record {
  open-only = λ e. (λ b. (s.open-only e).0 (f' b), λ l. (s.open-only e).1 (g' l));
  long-only = λ e. (λ b. (s.long-only e).0 (f' b), g (s.long-only e).1);
  bad-only = λ e. f (s.bad-only e);
}

-- ---- the door of a polynomial

nil_is : (r : Ratio) → is_nil r.num ≡ true → r.num ≡ pos 0
nil_is r e = no_size r.num (eqb-true (nat_abs r.num) 0 e)

unused-at : (n i : ℕ) → get_or (replicate n zero_r) i zero_r ≡ zero_r
unused-at zero i = refl
unused-at (suc n) zero = refl
unused-at (suc n) (suc i) = unused-at n i

some-top : (l : List Ratio) (n : ℕ) → Canonical l → length l ≡ suc n → (get_or l n zero_r).num ≡ pos 0 → ⊥
some-top [] n c h e = omega arith
some-top (a ∷ l) n c h e =
    let m : length l ≡ n = omega arith in
    let t : is_nil (get_or (a ∷ l) n zero_r).num ≡ false = subst (λ i. is_nil (get_or (a ∷ l) i zero_r).num ≡ false) m (top-some a l c) in
    let s : is_nil (get_or (a ∷ l) n zero_r).num ≡ true = rw e in
    let z : ◌≡◌ {A = ℕ} 0 1 = cc in
    omega arith

pub open-canonical : (p : Poly) → door_of p ≡ Open → IsCanonical p
open-canonical p e =
    let o = opened p e in
    record {
      short = o.short;
      lowest = λ i h. o.canonical.lowest i;
      top = λ n h. some-top (terms_of p) n o.canonical h;
      unused = λ i h.
          let k : p.len + (i - p.len) ≡ i = omega arith in
          sym (ap (λ j. get_or p.coeffs j zero_r) k) ∙ sym (get_or-drop p.len p.coeffs (i - p.len) zero_r)
          ∙ ap (λ l. get_or l (i - p.len) zero_r) o.unused ∙ unused-at (length (drop p.len p.coeffs)) (i - p.len);
    }

all-unused : (l : List Ratio) → ((i : ℕ) → get_or l i zero_r ≡ zero_r) → all_unused l ≡ true
unfolding all_unused
all-unused [] h = refl
all-unused (a ∷ l) h = rw (h 0) (all-unused l (λ i. h (suc i)))

trimmed : (l : List Ratio) → ((n : ℕ) → length l ≡ suc n → (get_or l n zero_r).num ≡ pos 0 → ⊥) → trim l ≡ l
unfolding drop_top
trimmed [] h = refl
trimmed (a ∷ l) h = trim-nothing (a ∷ l) (length l) refl (go (is_nil (get_or (a ∷ l) (length l) zero_r).num) refl)
  where
    go : (t : Bool) → is_nil (get_or (a ∷ l) (length l) zero_r).num ≡ t → t ≡ false
    go true e = absurd (h (length l) refl (nil_is (get_or (a ∷ l) (length l) zero_r) e))
    go false e = refl

pub canonical-test : (p : Poly) → IsCanonical p → is_canonical p ≡ true
canonical-test p c =
    let s : all_unused (drop p.len p.coeffs) ≡ true = all-unused (drop p.len p.coeffs) (λ i. get_or-drop p.len p.coeffs i zero_r ∙ c.unused (p.len + i) (omega arith)) in
    rw (lowest-to (terms_of p) (all-lowest (terms_of p) c.lowest), top_to (terms_of p) (trimmed (terms_of p) c.top), s)

pub door-shows : (p : Poly) → Shows (IsBad p) (IsLong p) (door_of p)
door-shows p = go (ltb 32 p.len) (is_canonical p) refl refl
  where
    go : (t c : Bool) → ltb 32 p.len ≡ t → is_canonical p ≡ c → Shows (IsBad p) (IsLong p) (long_if t (open_if c))
    go true c e f = shows-long (IsBad p) (IsLong p) (λ b. omega (arith, b.short, ltb-true 32 p.len e)) (ltb-true 32 p.len e)
    go false true e f =
        shows-open (IsBad p) (IsLong p) (λ b. b.not-canonical (open-canonical p (rw (e, f)))) (λ l. omega (arith, ltb-false 32 p.len e))
    go false false e f = shows-bad (IsBad p) (IsLong p) (record { short = ltb-false 32 p.len e; not-canonical = λ c. let z : ◌≡◌ {A = ℕ} 0 1 = cc (canonical-test p c) in omega arith })

-- a fraction handed in is bad where it isn't in lowest terms
pub ratio-shows : (r : Ratio) → Shows (Lowest r → ⊥) ⊥ (door_of_ratio r)
ratio-shows r = go (is_lowest r) refl
  where
    go : (t : Bool) → is_lowest r ≡ t → Shows (Lowest r → ⊥) ⊥ (open_if t)
    go true e = shows-open (Lowest r → ⊥) ⊥ (λ b. b ((lowest-tells r).holds e)) (λ z. z)
    go false e = shows-bad (Lowest r → ⊥) ⊥ (λ l. let z : ◌≡◌ {A = ℕ} 0 1 = cc ((lowest-tells r).tells l) in omega arith)

-- ---- behind the door

module _ {X : Type 0} (status : X → ℕ) (refuse : Reason → X) (number : (why : Reason) → status (refuse why) ≡ number_of why) {bad long by_zero : Type 0} {work : ℕ → Type 0} where
  -- the door d stands before r, which is 3 for a zero divisor and else the work's
  pub entered-when : (d : Gate) (r : X) → Shows bad long d → (d ≡ Open → by_zero → status r ≡ 3) → (d ≡ Open → (by_zero → ⊥) → work (status r)) → GivenWhen bad long by_zero work (status (entered refuse d r))
  entered-when Open r s z w = record {
    five = λ b. absurd ((s.open-only refl).0 b);
    four = λ b l. absurd ((s.open-only refl).1 l);
    three = λ b l. z refl;
    behind = λ b l. w refl;
  }
  entered-when Long r s z w = record {
    five = λ b. absurd ((s.long-only refl).0 b);
    four = λ b l. number TooLong;
    three = λ b l. absurd (l (s.long-only refl).1);
    behind = λ b l. absurd (l (s.long-only refl).1);
  }
  entered-when Bad r s z w = record {
    five = λ b. number BadInput;
    four = λ b. absurd (b (s.bad-only refl));
    three = λ b. absurd (b (s.bad-only refl));
    behind = λ b. absurd (b (s.bad-only refl));
  }

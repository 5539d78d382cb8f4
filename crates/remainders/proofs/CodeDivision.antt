-- Laws of the quotient's terms: a loop that has k of them left, in 32 places, its turn, its end and its refusals.
use Rattle.std.specs.Prelude.{Ok, Err}
use mathlib.Core.Path.{◌≡◌, refl, sym, ap, ap₂, subst, ◌∙◌}
use mathlib.Core.Bool.{true, false}
use mathlib.Core.List.{List, [], ◌∷◌, ◌++◌}
use Prim.Native.Nat.{ℕ, zero, suc, ◌+◌, ◌-◌, ◌*◌, ◌<◌, ◌≤◌}
use native.Mathlib.Numerals.{add-one}
use native.Mathlib.Omega.{arith}
use borrow.Author.Tests.{lt-ltb, le-ltb}
use lib.ListN.{length, take, drop, get_or, set, length-take, length-set, take-append-drop, drop_of_length-le}
use lib.Seq.{take_at, take-take, length-take-le}
use Rattle.ratio.specs.Refusal.{ratio_of, zero_r, no_refusal}
use Rattle.ratio.specs.Step.{mul_of, inv_of}
use Rattle.ratio.specs.declared.Ratio.{Ratio}
use Rattle.ratio.specs.declared.Reason.{Reason}
use Rattle.ratio.specs.declared.Reason.TheVariants.{CoeffOverflow, DivByZero}
use Rattle.terms.specs.declared.Row.{Row}
use Rattle.terms.specs.Poly.{poly_of, trim}
use Rattle.terms.specs.Machine.{minus, Ran, fine, over, and_then, plain}
use Rattle.terms.specs.Work.{rowed}
use Rattle.terms.specs.Answer.{row_of, row_given}
use Rattle.terms.proofs.Lists.{past, read-terms}
use Rattle.terms.proofs.Long.{Long, rowed-long}
use Rattle.terms.proofs.StepsCount.{steps_of}
use Rattle.terms.proofs.Few.{rowed-few}
use Rattle.terms.proofs.Product.{behind, rowed-behind, row_fine, row-over, row-given}
use Rattle.remainders.specs.declared.Division.{Division}
use Rattle.remainders.specs.Divide.{lead, quotients, finished, divided}
use Rattle.remainders.specs.Answer.{no_division, division_of, divided_of}
use Rattle.remainders.proofs.CodeAnswer.{some-divided}

-- ---- places

-- a term set at place k stands before those behind it
set_front : {X : Type 0} (l : List X) (k q : ℕ) (t : X) → k < q → k < length l → drop k (take q (set l k t)) ≡ t ∷ drop (suc k) (take q l)
set_front [] k q t h j = absurd (omega arith)
set_front (x ∷ l) k zero t h j = absurd (omega arith)
set_front (x ∷ l) zero (suc q) t h j = refl
set_front (x ∷ l) (suc k) (suc q) t h j = set_front l k q t (omega arith) (omega arith)

-- a result without what stands behind it
before-fine : (zs : List Ratio) (n : ℕ) (r : Ran ℕ (List Ratio)) (k : ℕ) (l : List Ratio) → Long n r → behind zs r ≡ fine k l → r ≡ fine k (take n l)
before-fine zs n (fine j m) k l e p =
    let f : k ≡ j = cc in
    let g : l ≡ m ++ zs = cc in
    rw (f, g, take_at m zs n e)
before-fine zs n (over j) k l e p = absurd (let z : ◌≡◌ {A = ℕ} 0 1 = cc in omega arith)

before-over : (zs : List Ratio) (r : Ran ℕ (List Ratio)) (k : ℕ) → behind zs r ≡ over k → r ≡ over k
before-over zs (fine j m) k p = absurd (let z : ◌≡◌ {A = ℕ} 0 1 = cc in omega arith)
before-over zs (over j) k p = p

-- a row within the first n places leaves the others alone
module _ (rem : List Ratio) (n k : ℕ) (t : Ratio) (b : List Ratio) (steps : ℕ) (h : k + length b ≤ n) (j : n ≤ length rem) where
  first-row : rowed plain minus rem k t b steps ≡ behind (drop n rem) (rowed plain minus (take n rem) k t b steps)
  first-row =
      ap (λ (l : List Ratio). rowed plain minus l k t b steps) (sym (take-append-drop n rem))
      ∙ rowed-behind plain minus (take n rem) (drop n rem) k t b steps (rw (length-take-le n rem j) h)

  first_fine : (s : ℕ) (l : List Ratio) → rowed plain minus rem k t b steps ≡ fine s l → rowed plain minus (take n rem) k t b steps ≡ fine s (take n l)
  first_fine s l e = before-fine (drop n rem) n (rowed plain minus (take n rem) k t b steps) s l (rowed-long plain minus n (take n rem) k t b steps (length-take-le n rem j)) (sym first-row ∙ e)

  first-over : (s : ℕ) → rowed plain minus rem k t b steps ≡ over s → rowed plain minus (take n rem) k t b steps ≡ over s
  first-over s e = before-over (drop n rem) (rowed plain minus (take n rem) k t b steps) s (sym first-row ∙ e)

fine-long : (n : ℕ) (r : Ran ℕ (List Ratio)) (s : ℕ) (l : List Ratio) → Long n r → r ≡ fine s l → length l ≡ n
fine-long n r s l h e = subst (Long n) e h

-- ---- the answer

pub divided-zero : (a b : List Ratio) → length b ≡ 0 → no_division DivByZero 0 ≡ divided_of a b
unfolding divided_of
divided-zero a [] h = refl
divided-zero a (y ∷ b) h = absurd (omega arith)

pub divided-lower : (a b : List Ratio) → length a < length b → ◌≡◌ {A = Division} (record { outcome = no_refusal; quotient = poly_of []; rest = poly_of (trim a); steps = 0 }) (divided_of a b)
unfolding divided_of divided
divided-lower a [] h = absurd (omega arith)
divided-lower a (y ∷ b) h = rw (lt-ltb (length a) (length (y ∷ b)) h)

-- ---- the loop

-- k terms are left; n and m are the lengths of a and b, i the inverse of b's lead
pub record Left (a b : List Ratio) (n m : ℕ) (i : Ratio) (k steps : ℕ) (rem quot : List Ratio) : Type 0 where
  pub dividend : n ≡ length a
  pub divisor : m ≡ length b
  pub some : 1 ≤ m
  pub higher : m ≤ n
  pub short : n ≤ 32
  pub inverse : i ≡ ratio_of (inv_of (lead plain b))
  pub rest-32 : length rem ≡ 32
  pub quotient-32 : length quot ≡ 32
  pub left : k ≤ n - m + 1
  pub few : steps + 65 * k ≤ 2080
  pub whole : quotients plain (take n rem) b k (drop k (take (n - m + 1) quot)) steps ≡ quotients plain a b (n - m + 1) [] 0

module _ (a b : List Ratio) (n m : ℕ) (i : Ratio) where
  pub left-all : (rem quot : List Ratio) → take n rem ≡ a → n ≡ length a → m ≡ length b → 1 ≤ m → m ≤ n → n ≤ 32 → i ≡ ratio_of (inv_of (lead plain b)) → length rem ≡ 32 → length quot ≡ 32 → Left a b n m i (n - m + 1) 0 rem quot
  left-all rem quot e p q h j l f r s =
      let x : length (take (n - m + 1) quot) ≤ n - m + 1 = rw length-take (omega arith) in
      let d : drop (n - m + 1) (take (n - m + 1) quot) ≡ [] = drop_of_length-le (take (n - m + 1) quot) x in
      record { dividend = p; divisor = q; some = h; higher = j; short = l; inverse = f; rest-32 = r; quotient-32 = s; left = omega arith; few = omega arith; whole = rw (d, e) }

  -- what the terms come to is the answer
  answer : 1 ≤ m → m ≤ n → n ≡ length a → m ≡ length b → division_of (and_then (quotients plain a b (n - m + 1) [] 0) (finished plain b)) ≡ divided_of a b
  unfolding divided
  answer h j p q =
      let e : division_of (divided plain a b 0) ≡ divided_of a b = sym (some-divided a b (omega arith)) in
      rw (p, q) (rw (le-ltb (length a) (length b) (omega arith)) at e)

  module _ (k steps : ℕ) (rem quot : List Ratio) (l : Left a b n m i k steps rem quot) where
    terms-answer : division_of (and_then (quotients plain (take n rem) b k (drop k (take (n - m + 1) quot)) steps) (finished plain b)) ≡ divided_of a b
    terms-answer = rw l.whole (answer l.some l.higher l.dividend l.divisor)

    pub left-none : k ≤ 0 → ◌≡◌ {A = Division} (record { outcome = no_refusal; quotient = poly_of (trim (take (n - m + 1) quot)); rest = poly_of (trim (take (m - 1) rem)); steps = steps }) (divided_of a b)
    unfolding quotients
    left-none h =
        let e : k ≡ 0 = omega arith in
        let d : take (length b - 1) (take n rem) ≡ take (m - 1) rem = take-take (length b - 1) n rem (omega (arith, l.divisor, l.higher)) ∙ ap (λ (x : ℕ). take (x - 1) rem) (sym l.divisor) in
        rw (e, d) at terms-answer

    module _ (h : 0 < k) where
      -- the term's factor as it stands in the first n places
      factor : get_or rem (k - 1 + m - 1) past ≡ get_or (take n rem) (k - 1 + (length b - 1)) zero_r
      factor =
          let e : k - 1 + m - 1 ≡ k - 1 + (length b - 1) = omega (arith, l.some, l.divisor) in
          let t : length (take n rem) ≡ n = length-take-le n rem (omega (arith, l.rest-32, l.short)) in
          read-terms n rem (k - 1 + m - 1) past zero_r (omega (arith, l.some, l.left, l.higher)) ∙ ap (λ (x : ℕ). get_or (take n rem) x zero_r) e

      product : mul_of (get_or rem (k - 1 + m - 1) past) i ≡ mul_of (get_or (take n rem) (k - 1 + (length b - 1)) zero_r) (ratio_of (inv_of (lead plain b)))
      product = ap₂ mul_of factor l.inverse

      fits : k - 1 + length b ≤ n
      fits = omega (arith, l.some, l.left, l.higher, l.divisor)

      wide : n ≤ length rem
      wide = omega (arith, l.rest-32, l.short)

      given : (t : Ratio) → row_of (rowed plain minus rem (k - 1) t b (steps + 1)) ≡ row_given (k - 1) rem t b true (steps + 1)
      given t = row-given (k - 1) rem t b true (steps + 1) (omega (arith, fits, l.short)) (omega (arith, l.few))

      -- one term less
      next : division_of (and_then (quotients plain (take n rem) b (suc (k - 1)) (drop (suc (k - 1)) (take (n - m + 1) quot)) steps) (finished plain b)) ≡ divided_of a b
      next =
          let e : k ≡ suc (k - 1) = omega arith in
          subst (λ (x : ℕ). division_of (and_then (quotients plain (take n rem) b x (drop x (take (n - m + 1) quot)) steps) (finished plain b)) ≡ divided_of a b) e terms-answer

      pub product-over : (why : Reason) → mul_of (get_or rem (k - 1 + m - 1) past) i ≡ Err why → no_division CoeffOverflow (steps + 1) ≡ divided_of a b
      unfolding quotients
      product-over why e = rw add-one (rw (sym product ∙ e) at next)

      module _ (t : Ratio) (w : Row) (e : mul_of (get_or rem (k - 1 + m - 1) past) i ≡ Ok t) (f : w ≡ row_given (k - 1) rem t b true (steps + 1)) where
        pub row-refused : w.fine ≡ false → no_division CoeffOverflow w.steps ≡ divided_of a b
        unfolding quotients
        row-refused g =
            let r : rowed plain minus (take n rem) (k - 1) t b (steps + 1) ≡ over w.steps = first-over rem n (k - 1) t b (steps + 1) fits wide w.steps (row-over _ w (f ∙ sym (given t)) g) in
            let s : steps + 1 ≡ suc steps = add-one steps in
            rw (sym product ∙ e, rw s at r) at next

        pub left_less : w.fine ≡ true → Left a b n m i (k - 1) w.steps w.acc (set quot (k - 1) t)
        unfolding quotients
        left_less g =
            let r : rowed plain minus rem (k - 1) t b (steps + 1) ≡ fine w.steps w.acc = row_fine _ w (f ∙ sym (given t)) g in
            let p : rowed plain minus (take n rem) (k - 1) t b (steps + 1) ≡ fine w.steps (take n w.acc) = first_fine rem n (k - 1) t b (steps + 1) fits wide w.steps w.acc r in
            let s : steps + 1 ≡ suc steps = add-one steps in
            let d : k ≡ suc (k - 1) = omega arith in
            let u : quotients plain (take n rem) b (suc (k - 1)) (drop (suc (k - 1)) (take (n - m + 1) quot)) steps ≡ quotients plain a b (n - m + 1) [] 0 = subst (λ (x : ℕ). quotients plain (take n rem) b x (drop x (take (n - m + 1) quot)) steps ≡ quotients plain a b (n - m + 1) [] 0) d l.whole in
            record {
              dividend = l.dividend;
              divisor = l.divisor;
              some = l.some;
              higher = l.higher;
              short = l.short;
              inverse = l.inverse;
              rest-32 = fine-long 32 _ w.steps w.acc (rowed-long plain minus 32 rem (k - 1) t b (steps + 1) l.rest-32) r;
              quotient-32 = length-set quot (k - 1) t ∙ l.quotient-32;
              left = omega (arith, l.left);
              few = omega (arith, l.few, l.divisor, l.higher, l.short, ap steps_of r, rowed-few minus rem (k - 1) t b (steps + 1));
              whole = rw (set_front quot (k - 1) (n - m + 1) t (omega (arith, l.left)) (omega (arith, l.left, l.quotient-32, l.some, l.short))) (rw (sym product ∙ e, rw s at p) at u);
            }

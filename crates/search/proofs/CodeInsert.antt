-- Laws of putting a fraction into a list of at most 31 that lies in an array of 32: the loop that carries the larger on, its turn, its end and a repeat.
use Rattle.std.specs.Prelude.{Some, None}
use mathlib.Core.Path.{◌≡◌, refl, sym, ap, ap₂, ◌∙◌}
use mathlib.Core.Bool.{true}
use mathlib.Core.List.{List, [], ◌∷◌, ◌++◌, append_assoc}
use Prim.Native.Nat.{ℕ, suc, ◌+◌, ◌-◌, ◌<◌, ◌≤◌}
use native.Mathlib.Numerals.{add-one}
use native.Mathlib.Omega.{arith}
use borrow.Author.Tests.{lt-ltb, le-ltb}
use lib.ListN.{length, take, drop, get_or, set, replicate, length-append, length-replicate, length-set, length-drop, take-append-drop, drop_of_length-le}
use lib.Seq.{drop-cons, take-suc-set, drop-set-lt, set_split, length-take-le}
use Rattle.ratio.specs.Refusal.{zero_r}
use Rattle.ratio.specs.declared.Ratio.{Ratio}
use Rattle.terms.specs.Machine.{fine}
use Rattle.terms.proofs.Lists.{past}
use Rattle.search.specs.declared.Tally.{Tally}
use Rattle.search.specs.Keep.{turned, placed, place_if, inserted}
use Rattle.search.specs.Try.{Count}
use Rattle.search.specs.Tally.{filled, tally_of}

pub inserted-full : (x : Ratio) (l : List Ratio) → 32 ≤ length l → inserted x l ≡ l
unfolding inserted
inserted-full x l h = ap (λ t. place_if t l (placed x l)) (le-ltb (length l) 32 h)

pub inserted-room : (x : Ratio) (l : List Ratio) → length l < 32 → inserted x l ≡ placed x l
unfolding inserted
inserted-room x l h = ap (λ t. place_if t l (placed x l)) (lt-ltb (length l) 32 h)

module _ (x : Ratio) (l : List Ratio) where
  abbrev pub spare : List Ratio
  spare = replicate (32 - length l) zero_r

  -- y is carried to place i: what is left to do gives the whole
  pub record Placing (i : ℕ) (y : Ratio) (vs : List Ratio) : Type 0 where
    pub whole : take i vs ++ placed y (drop i l) ≡ placed x l
    pub above : drop i vs ≡ drop i l ++ spare
    pub size : length vs ≡ 32
    pub room : length l < 32

  pub placing-none : (vs : List Ratio) → length l < 32 → vs ≡ filled l → Placing 0 x vs
  placing-none vs room e =
      let n : length (l ++ spare) ≡ 32 = length-append l spare ∙ ap (λ k. length l + k) (length-replicate (32 - length l) zero_r) ∙ omega arith in
      record { whole = refl; above = e; size = ap length e ∙ n; room = room }

  module _ (i : ℕ) (y : Ratio) (vs : List Ratio) (h : i < length l) (p : Placing i y vs) where
    split : get_or vs i past ∷ drop (suc i) vs ≡ get_or l i zero_r ∷ drop (suc i) l ++ spare
    split = sym (drop-cons vs i past (omega (arith, p.size, p.room))) ∙ p.above ∙ ap (λ t. t ++ spare) (drop-cons l i zero_r h)

    pub placing-here : get_or vs i past ≡ get_or l i zero_r
    placing-here = let e = split in cc

    tail-is : drop (suc i) vs ≡ drop (suc i) l ++ spare
    tail-is = let e = split in cc

    pub placing-more : (low high : Ratio) → turned y (get_or l i zero_r) ≡ Some (low, high) → Placing (i + 1) high (set vs i low)
    unfolding placed
    placing-more low high e = record {
      whole =
          rw (add-one i)
          (ap (λ t. t ++ placed high (drop (suc i) l)) (take-suc-set vs i low (omega (arith, p.size, p.room)))
          ∙ append_assoc (take i vs) (low ∷ []) (placed high (drop (suc i) l))
          ∙ (rw (drop-cons l i zero_r h, e) at p.whole));
      above = rw (add-one i) (drop-set-lt (suc i) vs i low (omega arith) ∙ tail-is);
      size = length-set vs i low ∙ p.size;
      room = p.room;
    }

    -- a repeat: the list is as long as it was
    pub placing-same : turned y (get_or l i zero_r) ≡ None → (vs ≡ filled (placed x l)) × (length l ≡ length (placed x l))
    unfolding placed
    placing-same e =
        let w : take i vs ++ drop i l ≡ placed x l = ap (λ t. take i vs ++ t) (drop-cons l i zero_r h) ∙ (rw (drop-cons l i zero_r h, e) at p.whole) in
        let n : length (placed x l) ≡ length l =
        ap length (sym w) ∙ length-append (take i vs) (drop i l) ∙ ap₂ ◌+◌ (length-take-le i vs (omega (arith, p.size, p.room))) (length-drop i l) ∙ omega arith in (
          sym (take-append-drop i vs) ∙ ap (λ t. take i vs ++ t) p.above ∙ sym (append_assoc (take i vs) (drop i l) spare)
              ∙ ap₂ (λ t k. t ++ replicate (32 - k) zero_r) w (sym n),
          sym n,
        )

  -- the last one carried goes behind the list
  pub placing-all : (i : ℕ) (y : Ratio) (vs : List Ratio) → i ≡ length l → Placing i y vs → (set vs i y ≡ filled (placed x l)) × (i + 1 ≡ length (placed x l))
  unfolding placed
  placing-all i y vs e p =
      let d : drop i l ≡ [] = (let h : length l ≤ i = omega arith in drop_of_length-le l h) in
      let w : take i vs ++ (y ∷ []) ≡ placed x l = rw d at p.whole in
      let n : length (placed x l) ≡ i + 1 =
      ap length (sym w) ∙ length-append (take i vs) (y ∷ []) ∙ ap (λ k. k + 1) (length-take-le i vs (omega (arith, p.size, p.room))) in
      let k : 32 - length l ≡ suc (32 - (i + 1)) = omega (arith, p.room) in
      let a : drop i vs ≡ zero_r ∷ replicate (32 - (i + 1)) zero_r = p.above ∙ ap₂ (λ t m. t ++ replicate m zero_r) d k in
      let b : drop (suc i) vs ≡ replicate (32 - (i + 1)) zero_r =
      let q : get_or vs i past ∷ drop (suc i) vs ≡ zero_r ∷ replicate (32 - (i + 1)) zero_r = sym (drop-cons vs i past (omega (arith, p.size, p.room))) ∙ a in cc in (
        set_split vs i y (omega (arith, p.size, p.room)) ∙ ap (λ t. take i vs ++ (y ∷ t)) b ∙ sym (append_assoc (take i vs) (y ∷ []) (replicate (32 - (i + 1)) zero_r))
            ∙ ap₂ (λ t m. t ++ replicate (32 - m) zero_r) w (sym n),
        sym n,
      )

-- the tally of a list that lies in an array
pub tally-is : (c : Count) (vs l : List Ratio) (n : ℕ) → (vs ≡ filled l) × (n ≡ length l) → ◌≡◌ {A = Tally} (record { fine = true; values = vs; len = n; tried = c.tried; steps = c.steps }) (tally_of (fine c l))
tally-is c vs l n (e, f) = ap₂ {C = Tally} (λ a m. record { fine = true; values = a; len = m; tried = c.tried; steps = c.steps }) e f

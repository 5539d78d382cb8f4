-- The loop: what is left of the rounds gives all of them.
use Rattle.ratio.specs.Refusal.{no_refusal}
use Rattle.std.specs.Prelude.{Ok, Err}
use mathlib.Core.Path.{◌≡◌, refl, sym, ap, subst, ◌∙◌}
use mathlib.Core.Bool.{true, false}
use mathlib.Core.List.{List, [], ◌∷◌}
use Prim.Native.Nat.{ℕ, suc, ◌+◌, ◌-◌, ◌<◌, ◌≤◌}
use native.Mathlib.Numerals.{add-one}
use native.Mathlib.Omega.{arith}
use lib.ListN.{length, set}
use Rattle.ratio.specs.declared.Ratio.{Ratio}
use Rattle.ratio.specs.declared.Reason.{Reason}
use Rattle.terms.specs.Poly.{terms_of}
use Rattle.yun.specs.declared.Piece.{Piece}
use Rattle.yun.specs.declared.Decomposition.{Decomposition}
use Rattle.yun.specs.declared.Round.{Round}
use Rattle.yun.specs.Got.{got, none}
use Rattle.yun.specs.Round.{pushed, turn_of}
use Rattle.yun.specs.Yun.{go_on, rounds, found_or}
use Rattle.yun.specs.Answer.{pieces_of, found_all, decomposition_of, Held, turn_from, Turns, piece_for, room_for}
use Rattle.yun.proofs.CodeFound.{found-pieces, pushed-length, stored}

-- what was found stands for itself, unless there is nothing
found_some : (m : List Ratio) (d : Decomposition) (l : List Piece) → d ≡ found_all l → 0 < d.len → d ≡ decomposition_of (found_or m (got l))
found_some m d [] e h = absurd (omega (arith, ap (λ (x : Decomposition). x.len) e))
found_some m d (p ∷ l) e h = e

found_none : (m : List Ratio) (d : Decomposition) (l : List Piece) → d ≡ found_all l → d.len ≡ 0 → found_all (pushed m 1 []) ≡ decomposition_of (found_or m (got l))
found_none m d [] e h = refl
found_none m d (p ∷ l) e h = absurd (omega (arith, ap (λ (x : Decomposition). x.len) e))

-- i rounds are made, and n - i are left
pub record Going (n : ℕ) (b₀ c₀ : List Ratio) (i : ℕ) (b c : List Ratio) (found : Decomposition) : Type 0 where
  pub within : i ≤ n
  pub is : found ≡ found_all (pieces_of found)
  pub few : length (pieces_of found) ≤ i
  pub whole : rounds (n - i) (suc i) b c (pieces_of found) ≡ rounds n 1 b₀ c₀ []

less_none : (n : ℕ) → n - 0 ≡ n
less_none n = omega arith

rounds-none : (n i : ℕ) (b c : List Ratio) (found : List Piece) → n ≡ 0 → rounds n i b c found ≡ got []
unfolding rounds
rounds-none n i b c found e = rw e

rounds-more : (n m i : ℕ) (b c : List Ratio) (found : List Piece) → n ≡ suc m → rounds n i b c found ≡ go_on (turn_of i b c found) (λ found b c. rounds m (suc i) b c found)
unfolding rounds
rounds-more n m i b c found e = rw e

pub going-none : (n : ℕ) (b c : List Ratio) (found : Decomposition) → found ≡ found_all [] → Going n b c 0 b c found
going-none n b c found e = subst (Going n b c 0 b c) (sym e) (record { within = omega arith; is = refl; few = omega arith; whole = ap (λ k. rounds k 1 b c []) (less_none n) })

module _ (n : ℕ) (b₀ c₀ : List Ratio) (i : ℕ) (b c : List Ratio) (found : Decomposition) (g : Going n b₀ c₀ i b c found) where
  pub going_end : n ≤ i → got [] ≡ rounds n 1 b₀ c₀ []
  going_end h = sym (rounds-none (n - i) (suc i) b c (pieces_of found) (omega (arith, g.within))) ∙ g.whole

  pub going-held : i < n → n ≤ 32 → Held found
  going-held h l = record { is = g.is; room = omega (arith, g.few) }

  module _ (h : i < n) (t : Round) (e : Turns (λ i. turn_of i b c) t) where
    step : go_on (turn_from (i + 1) t (pieces_of found)) (λ found b c. rounds (n - (i + 1)) (suc (i + 1)) b c found) ≡ rounds n 1 b₀ c₀ []
    step = rw (e.is (i + 1) (pieces_of found), add-one i) (sym (rounds-more (n - i) (n - suc i) (suc i) b c (pieces_of found) (omega arith)) ∙ g.whole)

    pub going-refused : (why : Reason) → t.outcome ≡ Err why → none why ≡ rounds n 1 b₀ c₀ []
    going-refused why o = rw o at step

    module _ (o : t.outcome ≡ no_refusal) where
      pub going-whole : t.whole ≡ true → got [] ≡ rounds n 1 b₀ c₀ []
      going-whole w = rw (o, w) at step

      module _ (w : t.whole ≡ false) (l : n ≤ 32) (x : Piece) (k : ℕ) (ex : x ≡ piece_for (terms_of t.factor) (i + 1)) (ek : k ≡ room_for (terms_of t.factor)) where
        abbrev longer : Decomposition
        longer = record { outcome = found.outcome; pieces = set found.pieces found.len x; len = found.len + k }

        longer-is : longer ≡ found_all (pushed (terms_of t.factor) (i + 1) (pieces_of found))
        longer-is = rw (ex, ek) (stored found (terms_of t.factor) (i + 1) (going-held h l))

        over-is : t.more ≡ false → got (pushed (terms_of t.factor) (i + 1) (pieces_of found)) ≡ rounds n 1 b₀ c₀ []
        over-is f = rw (o, w, f) at step

        pub going-over : (m : List Ratio) → t.more ≡ false → 0 < longer.len → longer ≡ decomposition_of (found_or m (rounds n 1 b₀ c₀ []))
        going-over m f s = found_some m longer (pushed (terms_of t.factor) (i + 1) (pieces_of found)) longer-is s ∙ ap (λ g. decomposition_of (found_or m g)) (over-is f)

        pub going-empty : (m : List Ratio) → t.more ≡ false → longer.len ≡ 0 → found_all (pushed m 1 []) ≡ decomposition_of (found_or m (rounds n 1 b₀ c₀ []))
        going-empty m f s = found_none m longer (pushed (terms_of t.factor) (i + 1) (pieces_of found)) longer-is s ∙ ap (λ g. decomposition_of (found_or m g)) (over-is f)

        on-is : (all : List Piece) (d : Decomposition) → d ≡ found_all all → length all ≤ suc (length (pieces_of found)) → rounds (n - (i + 1)) (suc (i + 1)) (terms_of t.b) (terms_of t.c) all ≡ rounds n 1 b₀ c₀ [] → Going n b₀ c₀ (i + 1) (terms_of t.b) (terms_of t.c) d
        on-is all d p k w = subst (Going n b₀ c₀ (i + 1) (terms_of t.b) (terms_of t.c)) (sym p) (record {
          within = omega arith;
          is = ap found_all (sym (found-pieces all));
          few = rw (found-pieces all) (omega (arith, g.few));
          whole = rw (found-pieces all) w;
        })

        pub going_on : t.more ≡ true → Going n b₀ c₀ (i + 1) (terms_of t.b) (terms_of t.c) longer
        going_on f = on-is (pushed (terms_of t.factor) (i + 1) (pieces_of found)) longer longer-is (pushed-length (terms_of t.factor) (i + 1) (pieces_of found)) (rw (o, w, f) at step)

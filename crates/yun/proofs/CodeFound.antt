-- The list of factors in its array: what is in use, and one more.
use mathlib.Core.Path.{◌≡◌, refl, sym, ap, ◌∙◌}
use mathlib.Core.List.{List, [], ◌∷◌, ◌++◌, append_assoc}
use Prim.Native.Nat.{ℕ, suc, ◌+◌, ◌-◌, ◌<◌, ◌≤◌}
use native.Mathlib.Omega.{arith}
use lib.ListN.{length, set, replicate, length-append, length-replicate}
use lib.Seq.{take-append_seam, set-append_seam}
use Rattle.ratio.specs.declared.Ratio.{Ratio}
use Rattle.yun.specs.declared.Piece.{Piece}
use Rattle.yun.specs.declared.Decomposition.{Decomposition}
use Rattle.yun.specs.Got.{Got, got, none}
use Rattle.yun.specs.Round.{piece, pushed}
use Rattle.yun.specs.Answer.{no_piece, pieces_of, found_all, decomposition_of, Held, piece_for, room_for}

pub found-pieces : (l : List Piece) → pieces_of (found_all l) ≡ l
found-pieces l = take-append_seam l (replicate (32 - length l) no_piece)

-- the place past the last one in use is one of the array's
pub held-room : (found : Decomposition) → Held found → found.len < 32
held-room found h = rw (ap (λ (d : Decomposition). d.len) h.is) h.room

pub pushed-length : (p : List Ratio) (i : ℕ) (l : List Piece) → length (pushed p i l) ≤ suc (length l)
unfolding pushed
pushed-length [] i l = omega arith
pushed-length (x ∷ p) i l = rw length-append (omega arith)

-- the place past the last one in use is filled
filled : (l : List Piece) (x : Piece) (k m : ℕ) → k ≡ suc m → set (l ++ replicate k no_piece) (length l) x ≡ (l ++ (x ∷ [])) ++ replicate m no_piece
filled l x k m e = rw (e, append_assoc) (set-append_seam l no_piece (replicate m no_piece) x)

pub one_more : (l : List Piece) (x : Piece) → length l < 32 → ◌≡◌ {A = Decomposition} (record { outcome = (found_all l).outcome; pieces = set (found_all l).pieces (found_all l).len x; len = (found_all l).len + 1 }) (found_all (l ++ (x ∷ [])))
one_more l x h =
    let n : length (l ++ (x ∷ [])) ≡ length l + 1 = length-append l (x ∷ []) in
    rw (filled l x (32 - length l) (32 - (length l + 1)) (omega arith), n)

-- a factor that isn't there takes no place
none_more : (l : List Piece) → length l < 32 → ◌≡◌ {A = Decomposition} (record { outcome = (found_all l).outcome; pieces = set (found_all l).pieces (found_all l).len no_piece; len = (found_all l).len + 0 }) (found_all l)
none_more l h =
    let e : 32 - length l ≡ suc (31 - length l) = omega arith in
    let n : length l + 0 ≡ length l = omega arith in
    rw (e, n, filled l no_piece (suc (31 - length l)) (31 - length l) refl, append_assoc)

stored_at : (l : List Piece) (p : List Ratio) (i : ℕ) → length l < 32 → ◌≡◌ {A = Decomposition} (record { outcome = (found_all l).outcome; pieces = set (found_all l).pieces (found_all l).len (piece_for p i); len = (found_all l).len + room_for p }) (found_all (pushed p i l))
unfolding pushed
stored_at l [] i h = none_more l h
stored_at l (x ∷ p) i h = one_more l (piece (x ∷ p) i) h

pub stored : (found : Decomposition) (p : List Ratio) (i : ℕ) → Held found → ◌≡◌ {A = Decomposition} (record { outcome = found.outcome; pieces = set found.pieces found.len (piece_for p i); len = found.len + room_for p }) (found_all (pushed p i (pieces_of found)))
stored found p i h =
    ap {B = Decomposition} (λ (d : Decomposition). record { outcome = d.outcome; pieces = set d.pieces d.len (piece_for p i); len = d.len + room_for p }) h.is
    ∙ stored_at (pieces_of found) p i h.room

pub stored-first : (empty : Decomposition) (p : List Ratio) (x : Piece) (k : ℕ) → empty ≡ found_all [] → x ≡ piece_for p 1 → k ≡ room_for p
    → ◌≡◌ {A = Decomposition} (record { outcome = empty.outcome; pieces = set empty.pieces empty.len x; len = empty.len + k }) (found_all (pushed p 1 []))
stored-first empty p x k e ex ek = rw (e, ex, ek) (stored_at [] p 1 (omega arith))

pub piece-none : (p : List Ratio) (i : ℕ) → length p ≡ 0 → no_piece ≡ piece_for p i
piece-none [] i h = refl
piece-none (x ∷ p) i h = absurd (omega arith)

pub piece-some : (p : List Ratio) (i : ℕ) → 0 < length p → piece p i ≡ piece_for p i
piece-some [] i h = absurd (omega arith)
piece-some (x ∷ p) i h = refl

pub room-none : (p : List Ratio) → length p ≡ 0 → 0 ≡ room_for p
room-none [] h = refl
room-none (x ∷ p) h = absurd (omega arith)

pub room-some : (p : List Ratio) → 0 < length p → 1 ≡ room_for p
room-some [] h = absurd (omega arith)
room-some (x ∷ p) h = refl

pub room-few : (p : List Ratio) → room_for p ≤ 1
room-few [] = omega arith
room-few (x ∷ p) = omega arith

-- the array never cuts
pub pieces-within : (s : Got (List Piece)) (r : Decomposition) → r ≡ decomposition_of s → length r.pieces ≡ 32 → r.len ≤ 32
pieces-within (got l) r e h =
    let n = simp (length-append, length-replicate) at (sym (ap (λ (d : Decomposition). length d.pieces) e) ∙ h) in
    rw e (omega arith)
pieces-within (none why) r e h = rw e (omega arith)

-- An answer, as it is laid part after part.
use Rattle.std.specs.Prelude.{Ok, Err}
use mathlib.Core.Path.{◌≡◌, refl, sym}
use mathlib.Core.Bool.{true, false}
use mathlib.Core.List.{List, [], ◌∷◌, ◌++◌, append-nil, append_assoc}
use Prim.Native.Nat.{ℕ, ◌+◌, ◌<◌}
use native.Mathlib.Numerals.{add-one}
use lib.ListN.{length, take, get_or}
use lib.Seq.{take-suc}
use Rattle.ratio.specs.Refusal.{number_of, Outcome, no_refusal}
use Rattle.ratio.specs.declared.Reason.{Reason}
use Rattle.yun.specs.declared.Piece.{Piece}
use Rattle.text.specs.Ascii.{bytes}
use Rattle.text.specs.Spell.{decimal_of}
use Rattle.text.proofs.Pages.{Lays, lays-as}
use Rattle.ops.specs.declared.Op.{Op}
use Rattle.ops.specs.Op.{counted}
use Rattle.reply.specs.Reply.{reply_text, steps_text, refused_text, shown, begin_text, finish_text, end_text}
use Rattle.reply.specs.Results.{piece_text, pieces_text}

module _ (op : Op) (k : ℕ) where
  pub both-parts : (status : ℕ) (out rest : List ℕ) → begin_text op status ++ (out ++ (bytes "\nrest=" ++ (rest ++ finish_text op k))) ≡ reply_text op status out rest (steps_text op k)
  unfolding reply_text begin_text finish_text
  both-parts status out rest = simp append_assoc

  pub one-part : (status : ℕ) (out : List ℕ) → begin_text op status ++ (out ++ end_text op k) ≡ reply_text op status out [] (steps_text op k)
  unfolding end_text
  one-part status out = both-parts status out []

  pub no_part : (why : Reason) → begin_text op (number_of why) ++ end_text op k ≡ refused_text op why k
  no_part why = one-part (number_of why) []

module _ (op : Op) (k : ℕ) (o : Outcome) (out rest : List ℕ) (at : ℕ) (page : List ℕ) {next : ℕ} {now : List ℕ} where
  pub shows-refused : (why : Reason) → o ≡ Err why → Lays (refused_text op why k) at page next now → Lays (shown op o out rest k) at page next now
  shows-refused why e h = rw e h

  pub shows-both : o ≡ no_refusal → Lays (begin_text op 0 ++ (out ++ (bytes "\nrest=" ++ (rest ++ finish_text op k)))) at page next now → Lays (shown op o out rest k) at page next now
  shows-both e h = rw e (lays-as _ _ _ _ (both-parts op k 0 out rest) h)

  pub shows-one : o ≡ no_refusal → Lays (begin_text op 0 ++ (out ++ end_text op k)) at page next now → Lays (shown op o out [] k) at page next now
  shows-one e h = rw e (lays-as _ _ _ _ (one-part op k 0 out) h)

pub counted-steps : (op : Op) (k : ℕ) → counted op ≡ true → decimal_of k ≡ steps_text op k
unfolding steps_text
counted-steps op k e = rw e

pub other-steps : (op : Op) (k : ℕ) → counted op ≡ false → [] ≡ steps_text op k
unfolding steps_text
other-steps op k e = rw e

-- ---- factors

pieces-snoc : (l : List Piece) (p : Piece) → pieces_text l ++ piece_text p ≡ pieces_text (l ++ (p ∷ []))
unfolding pieces_text
pieces-snoc [] p = sym (append-nil (piece_text p))
pieces-snoc (q ∷ l) p = rw (append_assoc, pieces-snoc l p)

pub pieces_none : [] ≡ pieces_text []
unfolding pieces_text
pieces_none = refl

pub pieces_more : (i : ℕ) (l : List Piece) (d : Piece) → i < length l → pieces_text (take i l) ++ piece_text (get_or l i d) ≡ pieces_text (take (i + 1) l)
pieces_more i l d h = rw (add-one, take-suc l i d h) (pieces-snoc (take i l) (get_or l i d))

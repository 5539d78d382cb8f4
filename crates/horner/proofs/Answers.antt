-- What `to_lowered` answers, leaves on the page and promises: behind open doors with and without room, and behind shut ones.
use Rattle.ratio.specs.Refusal.{status_of}
use mathlib.Core.Path.{◌≡◌, refl, sym, ap, ap₂, subst, ◌∙◌}
use mathlib.Core.Bool.{cond}
use mathlib.Core.List.{List, ◌++◌}
use Prim.Native.Nat.{ℕ, ◌≤◌, ◌<◌}
use native.Mathlib.Omega.{arith}
use borrow.Author.Tests.{leb-true, lt-ltb, le-ltb}
use lib.Dec.{leb, ltb}
use lib.ListN.{length, take, drop}
use lib.Seq.{take-append_seam}
use Rattle.ratio.specs.declared.Reason.{Reason}
use Rattle.ratio.specs.declared.Reason.TheVariants.{NoRoom}
use Rattle.terms.specs.declared.Poly.{Poly}
use Rattle.poly.specs.declared.Gate.{Gate}
use Rattle.poly.specs.declared.Gate.TheVariants.{Open}
use Rattle.poly.specs.Door.{open_if, door_of, reason_of}
use Rattle.poly.proofs.Canonical.{open-if, both-open, opened}
use Rattle.poly.proofs.Doors.{Shut, shut-entered, open-entered}
use Rattle.poly.proofs.Gives.{number-some}
use Rattle.text.specs.Page.{laid}
use Rattle.horner.specs.declared.Written.{Written}
use Rattle.horner.specs.Written.{text_of, doors, refused_for, done_after, written_of, page_of}
use Rattle.horner.specs.Promise.{ReadsBack}
use Rattle.horner.proofs.Sizes.{laid-front}
use Rattle.horner.proofs.Return.{reads-back}

-- the three clauses of the contract
abbrev pub Lowered : Poly → ℕ → List ℕ → Written → List ℕ → Type 0
Lowered p wrt page r now = (r ≡ written_of p wrt page) × ((now ≡ page_of p wrt page) × (status_of r.outcome ≡ 0 → ReadsBack p wrt (take r.len now)))

-- a refusal promises nothing more
refused-no : {X : Type 0} (r : Written) (why : Reason) → r ≡ refused_for why → status_of r.outcome ≡ 0 → X
refused-no r why f z = absurd (omega (arith, number-some why, ap (λ (w : Written). status_of w.outcome) f))

short : {X : Type 0} (a b : ℕ) (x y : X) → a < b → x ≡ cond (ltb a b) x y
short a b x y h = rw (lt-ltb a b h)

enough : {X : Type 0} (a b : ℕ) (x y : X) → b ≤ a → y ≡ cond (ltb a b) x y
enough a b x y h = rw (le-ltb a b h)

module _ (p : Poly) (wrt : ℕ) (page : List ℕ) (d : Gate) (e : d ≡ doors p wrt) where
  module _ (o : d ≡ Open) where
    both-doors : (open_if (leb wrt 255) ≡ Open) × (door_of p ≡ Open)
    both-doors = both-open (open_if (leb wrt 255)) (door_of p) (sym e ∙ o)

    pub index-open : wrt ≤ 255
    index-open = leb-true wrt 255 (open-if (leb wrt 255) both-doors.0)

    pub no_room : (r : Written) → length page < length (text_of p wrt) → r ≡ refused_for NoRoom → Lowered p wrt page r page
    no_room r h f = (
      open-entered d _ e o refused_for _ r (f ∙ short (length page) (length (text_of p wrt)) (refused_for NoRoom) (done_after (length (text_of p wrt))) h),
      (open-entered d _ e o (λ why. page) _ page (short (length page) (length (text_of p wrt)) page (text_of p wrt ++ drop (length (text_of p wrt)) page) h), refused-no r NoRoom f),
    )

    pub all-written : (r : Written) (now : List ℕ) → length p.coeffs ≡ 32 → length (text_of p wrt) ≤ length page → r ≡ done_after (length (text_of p wrt)) → now ≡ laid (text_of p wrt) 0 page → Lowered p wrt page r now
    all-written r now n h f g =
        let s = text_of p wrt in
        let l : now ≡ s ++ drop (length s) page = g ∙ laid-front s page h in
        let k : take r.len now ≡ s = ap₂ (λ (w : Written) (t : List ℕ). take w.len t) f l ∙ take-append_seam s (drop (length s) page) in (
          open-entered d _ e o refused_for _ r (f ∙ enough (length page) (length s) (refused_for NoRoom) (done_after (length s)) h),
          (open-entered d _ e o (λ why. page) _ now (l ∙ enough (length page) (length s) page (s ++ drop (length s) page) h), λ z. subst (ReadsBack p wrt) (sym k) (reads-back p n (opened p both-doors.1) wrt index-open)),
        )

  pub shut_out : (r : Written) (why : Reason) → Shut d → why ≡ reason_of d → r ≡ refused_for why → Lowered p wrt page r page
  shut_out r why s f g = (
    shut-entered d _ e s why f refused_for _ r g,
    (shut-entered d _ e s why f (λ why. page) _ page refl, refused-no r why g),
  )

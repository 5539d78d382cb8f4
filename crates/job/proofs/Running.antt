-- From the page to the lent output: the answer is copied whole, or nothing is.
use mathlib.Core.Path.{◌≡◌, ap, ap₂, subst, ◌∙◌}
use mathlib.Core.List.{List, ◌++◌}
use Prim.Native.Nat.{ℕ, ◌+◌, ◌<◌, ◌≤◌}
use native.Mathlib.Omega.{arith}
use borrow.Author.Tests.{lt-ltb, le-ltb}
use lib.ListN.{length, take, drop, length-append}
use lib.Seq.{take-append_seam}
use Rattle.ratio.specs.Refusal.{Outcome}
use Rattle.text.specs.Page.{laid}
use Rattle.text.proofs.Pages.{laid-fits, after-fits}
use Rattle.request.specs.declared.Request.{Request}
use Rattle.request.specs.Request.{request_of}
use Rattle.job.specs.declared.Ran.{Ran}
use Rattle.job.specs.Job.{work_of, reply_to}
use Rattle.job.specs.Laid.{LaysReply}
use Rattle.job.specs.Run.{no_room, ran_in, written_on, FitsPage}

-- a text with room stands in front of the page
in-front : (s page : List ℕ) → length s ≤ length page → laid s 0 page ≡ s ++ drop (length s) page
in-front s page h =
    let e : 0 + length s ≡ length s = omega arith in
    rw e at (laid-fits s 0 page (omega arith))

module _ (s : List ℕ) (q : Request) (e : q ≡ request_of s) (entry exit : List ℕ) (t : Ran) (l : LaysReply (work_of q) entry exit t) (n : length entry ≡ 4096) where
  abbrev text : List ℕ
  text = (reply_to s).text

  lies : LaysReply (reply_to s) entry exit t
  unfolding reply_to
  lies = subst (λ (x : Request). LaysReply (work_of x) entry exit t) e l

  pub fits : FitsPage s
  fits = lies.fits

  long : t.len ≡ length text
  long = lies.place ∙ after-fits text 0 entry (omega (arith, lies.fits)) ∙ (omega arith)

  page-is : exit ≡ text ++ drop (length text) entry
  page-is = lies.page ∙ in-front text entry (omega (arith, lies.fits))

  pub page-long : t.len ≤ length exit
  page-long = rw page-is (omega (arith, long, length-append text (drop (length text) entry)))

  taken : take t.len exit ≡ text
  taken = rw (long, page-is) (take-append_seam text (drop (length text) entry))

  pub taken-long : t.len ≡ length (take t.len exit)
  taken-long = rw taken long

  module _ (out : List ℕ) (h : length out < t.len) where
    shorter : length out < length text
    shorter = omega (arith, long)

    pub short-ran : no_room ≡ ran_in (length out) (reply_to s)
    short-ran = rw (lt-ltb (length out) (length text) shorter)

    pub short-kept : out ≡ written_on out (reply_to s)
    short-kept = rw (lt-ltb (length out) (length text) shorter)

  module _ (out : List ℕ) (h : t.len ≤ length out) where
    enough : length text ≤ length out
    enough = omega (arith, long)

    pub done-ran : t ≡ ran_in (length out) (reply_to s)
    done-ran = rw (le-ltb (length out) (length text) enough) (ap₂ {C = Ran} (λ (o : Outcome) (k : ℕ). record { outcome = o; len = k }) lies.outcome long)

    pub done-written : (last : List ℕ) → last ≡ laid (take t.len exit) 0 out → last ≡ written_on out (reply_to s)
    done-written last p = rw (le-ltb (length out) (length text) enough) (p ∙ ap (λ (x : List ℕ). laid x 0 out) taken ∙ in-front text out enough)

    pub done-room : (last : List ℕ) → last ≡ laid (take t.len exit) 0 out → t.len ≤ length last
    done-room last p =
        let k : last ≡ text ++ drop (length text) out = p ∙ ap (λ (x : List ℕ). laid x 0 out) taken ∙ in-front text out enough in
        rw k (omega (arith, long, length-append text (drop (length text) out)))

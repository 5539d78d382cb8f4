-- Document 01, refusals and their order, for `to_lowered`: 5 for a variable over 255 or a polynomial that isn't canonical, 4 for one that is too long, 8 for a page shorter than the text. A refusal writes nothing.
use Rattle.ratio.specs.Refusal.{no_refusal}
use Rattle.std.specs.Prelude.{Bool, cond, List, ◌++◌, ℕ, leb, ltb, length, drop, Ok, Err}
use Rattle.ratio.specs.declared.Reason.{Reason}
use Rattle.ratio.specs.declared.Reason.TheVariants.{NoRoom}
use Rattle.terms.specs.declared.Poly.{Poly}
use Rattle.terms.specs.Poly.{terms_of}
use Rattle.poly.specs.declared.Gate.{Gate}
use Rattle.poly.specs.Door.{open_if, door_of, both, entered}
use Rattle.horner.specs.declared.Written.{Written}
use Rattle.horner.specs.Text.{lowered_text}

abbrev pub text_of : Poly → ℕ → List ℕ
text_of p wrt = lowered_text wrt (terms_of p)

-- variables are 0 to 255
abbrev pub doors : Poly → ℕ → Gate
doors p wrt = both (open_if (leb wrt 255)) (door_of p)

abbrev pub refused_for : Reason → Written
refused_for why = record { outcome = Err why; len = 0 }

abbrev pub done_after : ℕ → Written
done_after n = record { outcome = no_refusal; len = n }

abbrev pub lacks_room : Poly → ℕ → List ℕ → Bool
lacks_room p wrt page = ltb (length page) (length (text_of p wrt))

-- how many bytes are written
abbrev pub written_of : Poly → ℕ → List ℕ → Written
written_of p wrt page = entered refused_for (doors p wrt) (cond (lacks_room p wrt page) (refused_for NoRoom) (done_after (length (text_of p wrt))))

-- the text, then the page as it was
abbrev pub page_of : Poly → ℕ → List ℕ → List ℕ
page_of p wrt page = entered (λ why. page) (doors p wrt) (cond (lacks_room p wrt page) page (text_of p wrt ++ drop (length (text_of p wrt)) page))

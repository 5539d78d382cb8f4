-- Floats, real roots and expressions for programs in other languages: what each call answers, and which lent entries are written.
use Rattle.std.specs.Prelude.{List, [], ◌∷◌, ℕ, leb, Float, ℤ, Result, Ok, Err}
use Rattle.ratio.specs.declared.Reason.{Reason}
use Rattle.terms.specs.declared.Answer.{Answer}
use Rattle.poly.specs.declared.Gate.{Gate}
use Rattle.poly.specs.Door.{open_if, both, entered}
use Rattle.poly.specs.Parts.{parts_of}
use Rattle.sturm.specs.declared.Count.{Count}
use Rattle.sturm.specs.Count.{ends_of, no_count, count_for}
use Rattle.isolate.specs.declared.Isolation.{Isolation}
use Rattle.isolate.specs.Answer.{refused_for}
use Rattle.isolate.specs.Isolate.{limits_of, isolate_for}
use Rattle.horner.specs.declared.Written.{Written}
use Rattle.horner.specs.Written as H
use Rattle.calls.specs.Call.{gate_of}

-- the float of an answer; a refusal leaves what was there
abbrev pub lent_float : List Float → Result Float Reason → List Float
lent_float old (Ok x) = x ∷ []
lent_float old (Err why) = old

-- 5, then 4, comes before any work
abbrev pub counted_with : Answer → Float → Float → Count
counted_with a lo hi = entered no_count (both (gate_of a.outcome) (ends_of lo hi)) (count_for a.poly lo hi)

abbrev pub counted_of : List ℤ → List ℤ → Float → Float → Count
counted_of an ad lo hi = counted_with (parts_of an ad) lo hi

abbrev pub isolated_with : Answer → Float → Float → Float → Isolation
isolated_with a lo hi tol = entered refused_for (both (gate_of a.outcome) (limits_of lo hi tol)) (isolate_for a.poly lo hi tol)

abbrev pub isolated_of : List ℤ → List ℤ → Float → Float → Float → Isolation
isolated_of an ad lo hi tol = isolated_with (parts_of an ad) lo hi tol

-- an expression is written in one of the variables 0 to 255
abbrev pub writer_door : Answer → ℕ → Gate
writer_door a wrt = both (gate_of a.outcome) (open_if (leb wrt 255))

abbrev pub written_with : Answer → ℕ → List ℕ → Written
written_with a wrt page = entered H.refused_for (writer_door a wrt) (H.written_of a.poly wrt page)

abbrev pub written_of : List ℤ → List ℤ → ℕ → List ℕ → Written
written_of an ad wrt page = written_with (parts_of an ad) wrt page

-- the text, then the page as it was; a refusal leaves what was there
abbrev pub page_with : Answer → ℕ → List ℕ → List ℕ
page_with a wrt page = entered (λ why. page) (writer_door a wrt) (H.page_of a.poly wrt page)

abbrev pub page_of : List ℤ → List ℤ → ℕ → List ℕ → List ℕ
page_of an ad wrt page = page_with (parts_of an ad) wrt page

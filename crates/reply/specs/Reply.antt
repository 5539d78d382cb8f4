-- Document 01, "the job program", output: op as read, status (a refusal number), out (the first result), rest (the second, else empty), steps (where they are reported, else empty). A refused job has out and rest empty.
use Rattle.std.specs.Prelude.{cond, List, [], ◌∷◌, ◌++◌, ℕ, Ok, Err}
use Prim.Native.String.{String}
use Rattle.ratio.specs.Refusal.{number_of, Outcome}
use Rattle.ratio.specs.declared.Reason.{Reason}
use Rattle.text.specs.Ascii.{bytes}
use Rattle.text.specs.Spell.{decimal_of}
use Rattle.ops.specs.declared.Op.{Op}
use Rattle.ops.specs.Op.{name_of, counted}

-- a key, its value and a newline
abbrev pub line : String → List ℕ → List ℕ
line key value = bytes key ++ (value ++ (10 ∷ []))

unfoldable pub reply_text : Op → ℕ → List ℕ → List ℕ → List ℕ → List ℕ
reply_text op status out rest steps =
    line "op=" (name_of op) ++ (line "status=" (decimal_of status) ++ (line "out=" out ++ (line "rest=" rest ++ line "steps=" steps)))

unfoldable pub steps_text : Op → ℕ → List ℕ
steps_text op k = cond (counted op) (decimal_of k) []

-- a refused job, with the steps so far
abbrev pub refused_text : Op → Reason → ℕ → List ℕ
refused_text op why k = reply_text op (number_of why) [] [] (steps_text op k)

-- what is shown of an outcome, its two results and its steps
abbrev pub shown : Op → Outcome → List ℕ → List ℕ → ℕ → List ℕ
shown op (Ok _) out rest k = reply_text op 0 out rest (steps_text op k)
shown op (Err why) out rest k = refused_text op why k

-- a job that was refused before any work
abbrev pub refusal_text : Op → Reason → List ℕ
refusal_text op why = refused_text op why 0

-- ---- the parts that the program lays one after the other

-- up to the first result
unfoldable pub begin_text : Op → ℕ → List ℕ
begin_text op status = bytes "op=" ++ (name_of op ++ (bytes "\nstatus=" ++ (decimal_of status ++ bytes "\nout=")))

-- behind the second result
unfoldable pub finish_text : Op → ℕ → List ℕ
finish_text op k = bytes "\nsteps=" ++ (steps_text op k ++ (10 ∷ []))

-- behind the first result, where there is no second
unfoldable pub end_text : Op → ℕ → List ℕ
end_text op k = bytes "\nrest=" ++ finish_text op k

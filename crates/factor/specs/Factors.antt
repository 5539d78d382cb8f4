-- Document 01, module 5, `square_free_decomposition` and `factor`: the door first; then content, primitive part, Yun's decomposition, and each of its factors split. The first refusal is handed on.
use Rattle.std.specs.Prelude.{List, [], ℕ, replicate, Result, Ok, Err}
use Rattle.ratio.specs.Refusal.{zero_r, Outcome, no_refusal}
use Rattle.ratio.specs.declared.Ratio.{Ratio}
use Rattle.ratio.specs.declared.Reason.{Reason}
use Rattle.ratio.specs.declared.Reason.TheVariants.{BadInput}
use Rattle.terms.specs.declared.Answer.{Answer}
use Rattle.terms.specs.declared.Poly.{Poly}
use Rattle.terms.specs.Poly.{terms_of}
use Rattle.poly.specs.declared.Gate.{Gate}
use Rattle.poly.specs.Door.{door_of, both, entered}
use Rattle.roots.specs.Answer.{budget_door}
use Rattle.roots.specs.Content.{content_for, primitive_of}
use Rattle.yun.specs.declared.Decomposition.{Decomposition}
use Rattle.yun.specs.declared.Piece.{Piece}
use Rattle.yun.specs.Answer.{no_piece, refused_for, decomposition_of}
use Rattle.yun.specs.Got.{Got, got, none, then_got}
use Rattle.yun.specs.Yun.{square_frees}
use Rattle.splitting.specs.Split.{split_all}
use Rattle.factor.specs.declared.Factorization.{Factorization}

abbrev pub decomposition_for : Poly → Decomposition
decomposition_for f = entered refused_for (door_of f) (decomposition_of (square_frees (terms_of f)))

abbrev pub got_in : Outcome → List Ratio → Got (List Ratio)
got_in (Ok _) l = got l
got_in (Err why) l = none why

-- a polynomial that was answered
abbrev pub got_of : Answer → Got (List Ratio)
got_of a = got_in a.outcome (terms_of a.poly)

-- the primitive part, its decomposition, each factor split
unfoldable pub split_parts : Poly → ℕ → Got (List Piece)
split_parts p budget = then_got (got_of (primitive_of p)) (λ q. then_got (square_frees q) (λ l. split_all l budget []))

abbrev pub factors_of : Poly → ℕ → Decomposition
factors_of p budget = decomposition_of (split_parts p budget)

abbrev pub no_factors : Reason → Factorization
no_factors why = record { outcome = Err why; content = zero_r; pieces = replicate 32 no_piece; len = 0 }

abbrev pub factors_with : Ratio → Outcome → Decomposition → Factorization
factors_with c (Ok _) d = record { outcome = no_refusal; content = c; pieces = d.pieces; len = d.len }
factors_with c (Err why) d = no_factors why

abbrev pub with_content : Result Ratio Reason → Decomposition → Factorization
with_content (Ok c) d = factors_with c d.outcome d
with_content (Err why) d = no_factors BadInput

abbrev pub work_of : Poly → ℕ → Factorization
work_of p budget = with_content (content_for p) (factors_of p budget)

abbrev pub factor_for : Poly → ℕ → Factorization
factor_for p budget = entered no_factors (both (door_of p) (budget_door budget)) (work_of p budget)

-- ---- the same with one way out

-- the content behind the door; else why there are no factors
abbrev pub content_or : Result Ratio Reason → Result Ratio Reason
content_or (Ok c) = Ok c
content_or (Err why) = Err BadInput

abbrev pub content_behind : Gate → Poly → Result Ratio Reason
content_behind d p = entered Err d (content_or (content_for p))

abbrev pub unless_refused : Result Ratio Reason → Decomposition → Decomposition
unless_refused (Ok c) d = d
unless_refused (Err why) d = refused_for why

abbrev pub factors_behind : Result Ratio Reason → Poly → ℕ → Decomposition
factors_behind c p budget = unless_refused c (factors_of p budget)

-- the content that goes with an outcome
abbrev pub content_with : Outcome → Result Ratio Reason → Ratio
content_with (Ok _) (Ok c) = c
content_with (Ok _) (Err why) = zero_r
content_with (Err why) s = zero_r

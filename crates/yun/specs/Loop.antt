-- Document 01, "what must change shape": unlimited recursion. The original's loop has no bound: round i ends it, or leads to the next round.
use Rattle.std.specs.Prelude.{◌≡◌, List, ℕ, suc}
use Rattle.ratio.specs.declared.Ratio.{Ratio}
use Rattle.yun.specs.declared.Piece.{Piece}
use Rattle.yun.specs.Got.{Got}
use Rattle.yun.specs.Round.{over, on, turn_of}

pub data Loop : ℕ → List Ratio → List Ratio → List Piece → Got (List Piece) → Type 0 where
  ends : {i : ℕ} {b c : List Ratio} {found : List Piece} {r : Got (List Piece)} → turn_of i b c found ≡ over r → Loop i b c found r
  again : {i : ℕ} {b c : List Ratio} {found l : List Piece} {b₁ c₁ : List Ratio} {r : Got (List Piece)} → turn_of i b c found ≡ on l b₁ c₁ → Loop (suc i) b₁ c₁ l r → Loop i b c found r

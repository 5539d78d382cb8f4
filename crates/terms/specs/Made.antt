-- What work that makes one coefficient after the other comes to, each by one step that is counted.
use Rattle.std.specs.Prelude.{◌≡◌, ℕ, ◌<◌, Result}
use Rattle.ratio.specs.declared.Ratio.{Ratio}
use Rattle.ratio.specs.declared.Reason.{Reason}
use Rattle.terms.specs.declared.Answer.{Answer}
use Rattle.terms.specs.Machine.{counted}
use Rattle.terms.specs.Work.{each}
use Rattle.terms.specs.Answer.{answer_of}

-- whatever steps s the calls can only answer, the answer is the work's along s
abbrev pub MadeBy : (ℕ → Result Ratio Reason → Type 0) → ℕ → Answer → Type 0
MadeBy post n r = (s : ℕ → Result Ratio Reason) → ((i : ℕ) (x : Result Ratio Reason) → i < n → post i x → x ≡ s i) → r ≡ answer_of (each (λ i k. counted k (s i)) n 0 0)

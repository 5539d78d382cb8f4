-- The price of a root search, quoted from the degree and the budget alone: two listings of at most budget trial divisions and 4 budget entries each, every pair a candidate, three steps for each coefficient at each candidate. 5 for a bad budget, then 4 for a degree over 31.
use Rattle.ratio.specs.declared.Reason.{Reason}
use Rattle.std.specs.Prelude.{Bool, true, false, ℕ, ◌+◌, ◌*◌, leb, Result, Ok, Err}
use Rattle.ratio.specs.declared.Reason.TheVariants.{TooLong, BadInput}
use Rattle.roots.specs.declared.Quote.{Quote}
use Rattle.roots.specs.Answer.{is_budget}

abbrev pub trials_price : ℕ → ℕ
trials_price budget = 2 * budget

abbrev pub candidates_price : ℕ → ℕ
candidates_price budget = 4 * budget * (4 * budget)

abbrev pub steps_price : ℕ → ℕ → ℕ
steps_price degree budget = 3 * (degree + 1) * candidates_price budget

abbrev pub quote_if : Bool → Bool → ℕ → ℕ → ℕ → Result Quote Reason
quote_if true true t c s = Ok (record { trials = t; candidates = c; steps = s })
quote_if true false t c s = Err TooLong
quote_if false b t c s = Err BadInput

abbrev pub roots_quote : ℕ → ℕ → Result Quote Reason
roots_quote degree budget = quote_if (is_budget budget) (leb degree 31) (trials_price budget) (candidates_price budget) (steps_price degree budget)

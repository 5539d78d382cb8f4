-- Document 01, module 4, the written chain: the list of steps with their operands, in the original's order of work. The number reported is its length.
use Rattle.ratio.specs.declared.Reason.{Reason}
use Rattle.std.specs.Prelude.{List, [], ◌∷◌, ◌++◌, ◌≡◌, ℕ, suc, ◌<◌, ℤ, pos, length, get_or, Result, Ok, Err}
use Rattle.ratio.specs.Refusal.{ratio_of, zero_r}
use Rattle.ratio.specs.Step.{inv_of}
use Rattle.ratio.specs.declared.Ratio.{Ratio}
use Rattle.ratio.specs.declared.Reason.TheVariants.{CoeffOverflow}
use Rattle.terms.specs.Machine.{Op, plus, Ran, fine, over, Machine, step_of, whole_r}

-- where an operand comes from: coefficient i of the first or the second input, a constant (0, a sign, 1, an index), the inverse of one of these, or the result of an earlier step
pub data Name : Type 0 where
  first : ℕ → Name
  second : ℕ → Name
  constant : ℤ → Name
  inverse : Name → Name
  result : ℕ → Name

-- a number with its name
pub record Wire : Type 0 where
  pub name : Name
  pub value : Ratio

pub record Written : Type 0 where
  pub op : Op
  pub left : Name
  pub right : Name

-- step number k, counted from 0, is written at the chain's end, and its result is named after it
abbrev pub noted : List Written → Written → Result Ratio Reason → Ran (List Written) Wire
noted log w (Ok r) = fine (log ++ (w ∷ [])) (record { name = result (length log); value = r })
noted log w (Err why) = over (log ++ (w ∷ []))

abbrev pub writer : Machine Wire (List Written)
writer = record {
  make = λ op a b log. noted log (record { op = op; left = a.name; right = b.name }) (step_of op a.value b.value);
  value = λ w. w.value;
  whole = λ z. record { name = constant z; value = whole_r z };
  inverse = λ w. record { name = inverse w.name; value = ratio_of (inv_of w.value) };
}

-- the coefficients of an input as wires
unfoldable pub wires : (ℕ → Name) → ℕ → List Ratio → List Wire
wires f i [] = []
wires f i (a ∷ l) = record { name = f i; value = a } ∷ wires f (suc i) l

-- the chain that was written, whether it ended in an answer or in a refusal
abbrev pub chain_of : {X : Type 0} → Ran (List Written) X → List Written
chain_of (fine log x) = log
chain_of (over log) = log

-- ---- what it means that a chain is faithful

abbrev pub nothing : Written
nothing = record { op = plus; left = constant (pos 0); right = constant (pos 0) }

module _ (a b : List Ratio) where
  -- the number that a name stands for, given the results of the steps
  unfoldable pub meaning : List Ratio → Name → Ratio
  meaning results (first i) = get_or a i zero_r
  meaning results (second i) = get_or b i zero_r
  meaning results (constant z) = whole_r z
  meaning results (inverse n) = ratio_of (inv_of (meaning results n))
  meaning results (result j) = get_or results j zero_r

  -- an operand of step k is an input's coefficient, a constant, an inverse of these, or the result of an earlier step
  unfoldable pub Earlier : ℕ → Name → Type 0
  Earlier k (first i) = i < length a
  Earlier k (second i) = i < length b
  Earlier k (constant z) = Unit {0}
  Earlier k (inverse n) = Earlier k n
  Earlier k (result j) = j < k

  abbrev pub performed : List Written → List Ratio → ℕ → Result Ratio Reason
  performed chain results k =
      let w = get_or chain k nothing in
      step_of w.op (meaning results w.left) (meaning results w.right)

  -- every step names what came before it and has the result that is listed for it
  pub record Faithful (chain : List Written) (results : List Ratio) : Type 0 where
    pub earlier : (k : ℕ) → k < length chain → Earlier k (get_or chain k nothing).left × Earlier k (get_or chain k nothing).right
    pub answered : (k : ℕ) → k < length results → performed chain results k ≡ Ok (get_or results k zero_r)

  -- a chain that ended in an answer: every step was answered, and the answer's numbers are named by it
  pub record Finished (chain : List Written) (answer : List Wire) : Type 0 where
    pub results : List Ratio
    pub all : length results ≡ length chain
    pub faithful : Faithful chain results
    pub named : (i : ℕ) (w : Wire) → i < length answer → (get_or answer i w).value ≡ meaning results (get_or answer i w).name
    pub known : (i : ℕ) (w : Wire) → i < length answer → Earlier (length chain) (get_or answer i w).name

  -- a chain that ended in a refusal: every step but the last was answered, and the last one left the range
  pub record Stopped (chain : List Written) : Type 0 where
    pub results : List Ratio
    pub all_but_one : suc (length results) ≡ length chain
    pub faithful : Faithful chain results
    pub refused : performed chain results (length results) ≡ Err CoeffOverflow

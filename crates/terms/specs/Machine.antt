-- Document 01, module 4: a step is one checked add, subtract or multiply. The work on polynomials is written once, over a machine that makes the steps.
use Rattle.ratio.specs.declared.Reason.{Reason}
use Rattle.std.specs.Prelude.{ℕ, suc, ℤ, pos, Result, Ok, Err}
use Rattle.ratio.specs.Refusal.{ratio_of}
use Rattle.ratio.specs.Step.{add_of, sub_of, mul_of, inv_of}
use Rattle.ratio.specs.declared.Ratio.{Ratio}

pub data Op : Type 0 where
  plus : Op
  minus : Op
  times : Op

-- what work comes to: its result, or a step that was refused; with what was noted of the steps on the way
pub data Ran (Log X : Type 0) : Type 0 where
  fine : Log → X → Ran Log X
  over : Log → Ran Log X

abbrev pub and_then : {Log X Y : Type 0} → Ran Log X → (Log → X → Ran Log Y) → Ran Log Y
and_then (fine log x) k = k log x
and_then (over log) k = over log

-- W stands for a number: a fraction, or a fraction with a name
pub record Machine (W Log : Type 0) : Type 0 where
  pub make : Op → W → W → Log → Ran Log W
  pub value : W → Ratio
  pub whole : ℤ → W
  pub inverse : W → W

abbrev pub step_of : Op → Ratio → Ratio → Result Ratio Reason
step_of plus a b = add_of a b
step_of minus a b = sub_of a b
step_of times a b = mul_of a b

abbrev pub counted : ℕ → Result Ratio Reason → Ran ℕ Ratio
counted n (Ok r) = fine (suc n) r
counted n (Err why) = over (suc n)

abbrev pub whole_r : ℤ → Ratio
whole_r z = record { num = z; den = pos 1 }

-- the plain machine works on fractions and counts its steps
abbrev pub plain : Machine Ratio ℕ
plain = record {
  make = λ op a b n. counted n (step_of op a b);
  value = λ r. r;
  whole = whole_r;
  inverse = λ r. ratio_of (inv_of r);
}

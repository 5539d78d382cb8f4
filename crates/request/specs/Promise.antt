-- What a job holds (document 01, "the job program" and refusal 5): canonical polynomials, a fraction in lowest terms, a budget of 1 to 65,536, ends within ±1e15, and for isolate a tolerance that is finite and above 0. A text is refused with 5 or with 4 alone.
use Rattle.ratio.specs.Refusal.{status_of}
use Rattle.std.specs.Prelude.{◌≡◌, true, ◌≤◌}
use Rattle.ratio.specs.Promise.{Lowest}
use Rattle.sturm.specs.Count.{inside}
use Rattle.reading.specs.Promise.{CanonicalPoly}
use Rattle.ops.specs.declared.Op.TheVariants.{Isolate}
use Rattle.request.specs.declared.Request.{Request}
use Rattle.request.specs.Ops.{is_known}
use Rattle.request.specs.Lines.{is_limited}

pub record Job (r : Request) : Type 0 where
  pub a-canonical : CanonicalPoly r.a
  pub b-canonical : CanonicalPoly r.b
  pub x-lowest : Lowest r.x
  pub lo-inside : inside r.lo ≡ true
  pub hi-inside : inside r.hi ≡ true
  pub known : status_of r.outcome ≡ 0 → is_known r.op ≡ true
  pub budget-some : status_of r.outcome ≡ 0 → 1 ≤ r.budget
  pub budget-most : r.budget ≤ 65536
  pub tol-limited : status_of r.outcome ≡ 0 → r.op ≡ Isolate → is_limited true r.tol ≡ true
  pub refused : (status_of r.outcome ≡ 0 → ⊥) → (status_of r.outcome ≡ 5 → ⊥) → status_of r.outcome ≡ 4

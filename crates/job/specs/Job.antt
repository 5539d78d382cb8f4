-- Document 01, "the job program": which operation a job asks for, what comes of it, and the text that is its answer.
use Rattle.ratio.specs.declared.Ratio.{Ratio}
use Rattle.std.specs.Prelude.{List, ℕ, Result, Ok, Err}
use Rattle.ratio.specs.Refusal.{Outcome, no_refusal}
use Rattle.ratio.specs.declared.Reason.{Reason}
use Rattle.ratio.specs.declared.Reason.TheVariants as R
use Rattle.terms.specs.declared.Answer.{Answer}
use Rattle.remainders.specs.declared.Division.{Division}
use Rattle.euclid.specs.declared.Whole.{Whole}
use Rattle.search.specs.declared.Roots.{Roots}
use Rattle.factor.specs.declared.Factorization.{Factorization}
use Rattle.sturm.specs.declared.Count.{Count}
use Rattle.isolate.specs.declared.Isolation.{Isolation}
use Rattle.poly.specs.Operations.{add_of, sub_of, mul_of, neg_of, diff_of, eval_of}
use Rattle.euclid.specs.Answer.{div_rem_of, gcd_for, resultant_for, discriminant_for}
use Rattle.roots.specs.Answer.{rational_roots_of}
use Rattle.factor.specs.Factors.{factor_for}
use Rattle.factor.specs.Rebuild.{rebuild_for}
use Rattle.sturm.specs.Count.{count_for}
use Rattle.isolate.specs.Isolate.{isolate_for}
use Rattle.ops.specs.declared.Op.{Op}
use Rattle.ops.specs.declared.Op.TheVariants as Ops
use Rattle.reply.specs.Reply.{refusal_text}
use Rattle.reply.specs.Results.{answer_text, division_text, number_text, value_text, roots_text, factors_text, count_text, isolation_text}
use Rattle.request.specs.declared.Request.{Request}
use Rattle.request.specs.Request.{request_of}

-- what comes of a job, and the text that tells it
pub record Reply : Type 0 where
  pub outcome : Outcome
  pub text : List ℕ

abbrev pub refusing : Op → Reason → Reply
refusing op why = record { outcome = Err why; text = refusal_text op why }

abbrev pub answering : Op → Answer → Reply
answering op a = record { outcome = a.outcome; text = answer_text op a }

abbrev pub dividing : Op → Division → Reply
dividing op d = record { outcome = d.outcome; text = division_text op d }

abbrev pub numbering : Op → Whole → Reply
numbering op w = record { outcome = w.outcome; text = number_text op w }

abbrev pub outcome_of : Result Ratio Reason → Outcome
outcome_of (Ok x) = no_refusal
outcome_of (Err why) = Err why

abbrev pub valuing : Op → Result Ratio Reason → Reply
valuing op s = record { outcome = outcome_of s; text = value_text op s }

abbrev pub rooting : Op → Roots → Reply
rooting op r = record { outcome = r.outcome; text = roots_text op r }

abbrev pub factoring : Op → Factorization → Reply
factoring op f = record { outcome = f.outcome; text = factors_text op f }

abbrev pub counting : Op → Count → Reply
counting op c = record { outcome = c.outcome; text = count_text op c }

abbrev pub isolating : Op → Isolation → Reply
isolating op r = record { outcome = r.outcome; text = isolation_text op r }

-- the operation; a job that was read has one
abbrev pub work_for : Op → Request → Reply
work_for Ops.Add r = answering Ops.Add (add_of r.a r.b)
work_for Ops.Sub r = answering Ops.Sub (sub_of r.a r.b)
work_for Ops.Mul r = answering Ops.Mul (mul_of r.a r.b)
work_for Ops.Divide r = dividing Ops.Divide (div_rem_of r.a r.b)
work_for Ops.Gcd r = answering Ops.Gcd (gcd_for r.a r.b)
work_for Ops.Resultant r = numbering Ops.Resultant (resultant_for r.a r.b)
work_for Ops.Neg r = answering Ops.Neg (neg_of r.a)
work_for Ops.Diff r = answering Ops.Diff (diff_of r.a)
work_for Ops.Discriminant r = numbering Ops.Discriminant (discriminant_for r.a)
work_for Ops.Roots r = rooting Ops.Roots (rational_roots_of r.a r.budget)
work_for Ops.Factor r = factoring Ops.Factor (factor_for r.a r.budget)
work_for Ops.Rebuild r = answering Ops.Rebuild (rebuild_for r.a r.budget)
work_for Ops.Eval r = valuing Ops.Eval (eval_of r.a r.x)
work_for Ops.Count r = counting Ops.Count (count_for r.a r.lo r.hi)
work_for Ops.Isolate r = isolating Ops.Isolate (isolate_for r.a r.lo r.hi r.tol)
work_for Ops.Unknown r = refusing Ops.Unknown R.BadInput

abbrev pub unless_refused : Outcome → Request → Reply
unless_refused (Ok _) r = work_for r.op r
unless_refused (Err why) r = refusing r.op why

-- the reply to a job that was read, or to one that was refused while it was read
unfoldable pub work_of : Request → Reply
work_of r = unless_refused r.outcome r

-- the reply to any text
unfoldable pub reply_to : List ℕ → Reply
reply_to s = work_of (request_of s)

-- Laws of laying a reply on a page.
use Rattle.std.specs.Prelude.{Ok, Err}
use mathlib.Core.Path.{◌≡◌, refl, sym, ap, ap₂, subst, ◌∙◌}
use mathlib.Core.List.{List}
use Prim.Native.Nat.{ℕ, ◌≤◌}
use lib.ListN.{length}
use Rattle.ratio.specs.Refusal.{Outcome, no_refusal}
use Rattle.ratio.specs.declared.Reason.{Reason}
use Rattle.text.specs.Page.{laid, after}
use Rattle.factor.specs.declared.Factorization.{Factorization}
use Rattle.ops.specs.declared.Op.{Op}
use Rattle.reply.specs.Results.{factors_text}
use Rattle.request.specs.declared.Request.{Request}
use Rattle.job.specs.declared.Ran.{Ran}
use Rattle.job.specs.Job.{Reply, refusing, factoring, work_for, unless_refused, work_of}
use Rattle.job.specs.Laid.{LaysReply}

-- the factors that the engine hands back
pub factors-lie : (op : Op) (f g : Factorization) → f ≡ g → (entry exit : List ℕ) (n : ℕ) → n ≡ after (factors_text op f) 0 entry → exit ≡ laid (factors_text op f) 0 entry → length (factors_text op f) ≤ 4096 → LaysReply (factoring op g) entry exit (record { outcome = f.outcome; len = n })
factors-lie op f g e entry exit n p q h = subst (λ (x : Factorization). LaysReply (factoring op x) entry exit (record { outcome = f.outcome; len = n })) e (record { outcome = refl; place = p; page = q; fits = h })

-- an operation's reply is the reply to its job
pub worked : {X : Type 0} (f : Op → X → Reply) (r : Request) (op : Op) (x y : X) → r.op ≡ op → x ≡ y → f op y ≡ work_for op r → (entry exit : List ℕ) (t : Ran) → LaysReply (f r.op x) entry exit t → LaysReply (work_for r.op r) entry exit t
worked f r op x y k e w entry exit t l = subst (λ (a : Reply). LaysReply a entry exit t) (ap₂ f k e ∙ w ∙ ap (λ (o : Op). work_for o r) (sym k)) l

module _ (r : Request) (entry exit : List ℕ) (t : Ran) where
  pub job-done : r.outcome ≡ no_refusal → LaysReply (work_for r.op r) entry exit t → LaysReply (work_of r) entry exit t
  unfolding work_of
  job-done h l = subst (λ (a : Reply). LaysReply a entry exit t) (ap (λ (o : Outcome). unless_refused o r) (sym h)) l

  pub job-refused : (why : Reason) → r.outcome ≡ Err why → LaysReply (refusing r.op why) entry exit t → LaysReply (work_of r) entry exit t
  unfolding work_of
  job-refused why h l = subst (λ (a : Reply). LaysReply a entry exit t) (ap (λ (o : Outcome). unless_refused o r) (sym h)) l

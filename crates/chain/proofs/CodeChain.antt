-- What a chain of the code says of the model's: its entries, or the reason that is handed on.
use Rattle.ratio.specs.Refusal.{no_refusal}
use Rattle.std.specs.Prelude.{Err}
use mathlib.Core.Path.{◌≡◌, refl, sym, ap, ◌∙◌}
use mathlib.Core.List.{List, [], ◌∷◌, ◌++◌, map}
use Prim.Native.Nat.{ℕ, ◌-◌}
use lib.ListN.{length, take, replicate, length-map}
use lib.Seq.{take-append_seam}
use Rattle.ratio.specs.declared.Ratio.{Ratio}
use Rattle.ratio.specs.declared.Reason.{Reason}
use Rattle.terms.specs.declared.Poly.{Poly}
use Rattle.terms.specs.Poly.{terms_of, poly_of}
use Rattle.terms.proofs.Lists.{terms-of-poly}
use Rattle.remainders.proofs.CodeAnswer.{done_refused}
use Rattle.yun.specs.Got.{Got, got, none}
use Rattle.chain.specs.declared.Chain.{Chain}
use Rattle.chain.specs.Answer.{entries_of, holding, chain_of}

read_back : (l : List (List Ratio)) → map terms_of (map poly_of l) ≡ l
read_back [] = refl
read_back (p ∷ l) = rw (terms-of-poly p, read_back l)

pub holding-entries : (l : List (List Ratio)) → entries_of (holding l) ≡ l
holding-entries l =
    ap (λ (n : ℕ). map terms_of (take n (map poly_of l ++ replicate (32 - length l) (poly_of [])))) (sym (length-map l poly_of))
    ∙ ap (λ (m : List Poly). map terms_of m) (take-append_seam (map poly_of l) (replicate (32 - length l) (poly_of [])))
    ∙ read_back l

module _ (c : Chain) where
  pub chain-got : (s : Got (List (List Ratio))) → c ≡ chain_of s → c.outcome ≡ no_refusal → s ≡ got (entries_of c)
  chain-got (got l) e o = ap got (sym (ap entries_of e ∙ holding-entries l))
  chain-got (none why) e o = done_refused c.outcome why o (ap (λ (x : Chain). x.outcome) e)

  pub chain-none : (s : Got (List (List Ratio))) (why : Reason) → c ≡ chain_of s → c.outcome ≡ Err why → s ≡ none why
  chain-none (got l) why e o = done_refused c.outcome why (ap (λ (x : Chain). x.outcome) e) o
  chain-none (none j) why e o = cc

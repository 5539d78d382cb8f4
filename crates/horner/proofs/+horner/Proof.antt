-- The proof of the cycle of calls {horner}. The measure is the number of coefficients that are left.
use mathlib.Core.Path.{ap, ◌∙◌}
use mathlib.Core.List.{◌++◌}
use native.Mathlib.Omega.{arith}
use Prim.Native.Nat.{ℕ, ◌+◌, ◌-◌, ◌<◌}
use lib.ListN.{length, drop}
use borrow.Author.Rules.{rules}
use Rattle.ratio.specs.Refusal.{zero_r}
use Rattle.terms.specs.Poly.{terms_of}
use Rattle.terms.proofs.Lists.{long, past, within-32, read-terms}
use Rattle.text.proofs.Pages.{lays-then, lays-as}
use Rattle.text.specs.Ascii.{bytes}
use Rattle.horner.specs.Text.{constant, variable, lowered_text}
use Rattle.horner.proofs.Rest.{rest-last, rest_more}
use borrow.Fn.Kinds.{In}
use borrow.Fn.PlainCycle.{Measures, is, falls, and}
use Rattle.horner.proofs.horner.Reads as horner
use Rattle.horner.proofs.horner.Kinds as horner-kinds
use Rattle.horner.proofs.+horner.Lts-horner as horner-lts
use Rattle.horner.proofs.constant.Reads as constant-reads
use Rattle.horner.proofs.variable.Reads as variable-reads
use Rattle.terms.proofs.Poly.length.Reads as length-reads
use Rattle.text.proofs.write_bytes.Reads as write-bytes-reads
use Rattle.horner.proofs.+horner.{statement}
use Rattle.horner.proofs.+horner.Tie.{close}

abbrev μ-horner : Measures 1 horner-kinds.ps ℕ
μ-horner κs a = length (terms_of a.0) - a.1.0

abbrev horner-at : ℕ → In 1 horner-kinds.ps
horner-at t = and 1 horner-kinds.ps (is 1 horner-kinds.ps μ-horner t) horner.Pre

abbrev horner-below : ℕ → In 1 horner-kinds.ps
horner-below t = and 1 horner-kinds.ps (falls 1 horner-kinds.ps ◌<◌ μ-horner t) horner.Pre

horner-mul-c : (t : ℕ) → horner-lts.Need-offset_bounds-p-i (
  constant-reads.Asked,
  constant-reads.Learnt,
  length-reads.Asked,
  length-reads.Learnt,
  variable-reads.Asked,
  variable-reads.Learnt,
  horner-below t,
  horner.Post,
  write-bytes-reads.Asked,
  write-bytes-reads.Learnt,
) (horner-at t) horner.Post
horner-mul-c t c = omega (arith, within-32 c.args.p.len c.args.p.coeffs (search (rules, long)))

horner-element-copy-out-c : (t : ℕ) → horner-lts.Need-bounds-p-i (
  constant-reads.Asked,
  constant-reads.Learnt,
  length-reads.Asked,
  length-reads.Learnt,
  variable-reads.Asked,
  variable-reads.Learnt,
  horner-below t,
  horner.Post,
  write-bytes-reads.Asked,
  write-bytes-reads.Learnt,
) (horner-at t) horner.Post
horner-element-copy-out-c t c = omega (arith, within-32 c.args.p.len c.args.p.coeffs (search (rules, long)))

horner-constant-requires : (t : ℕ) → horner-lts.Need-constant-lead-requires (
  constant-reads.Asked,
  constant-reads.Learnt,
  length-reads.Asked,
  length-reads.Learnt,
  variable-reads.Asked,
  variable-reads.Learnt,
  horner-below t,
  horner.Post,
  write-bytes-reads.Asked,
  write-bytes-reads.Learnt,
) (horner-at t) horner.Post
horner-constant-requires t c κs = tt

horner-add-if1 : (t : ℕ) → horner-lts.Need-overflow_add-i (
  constant-reads.Asked,
  constant-reads.Learnt,
  length-reads.Asked,
  length-reads.Learnt,
  variable-reads.Asked,
  variable-reads.Learnt,
  horner-below t,
  horner.Post,
  write-bytes-reads.Asked,
  write-bytes-reads.Learnt,
) (horner-at t) horner.Post
horner-add-if1 t c = omega (arith, within-32 c.args.p.len c.args.p.coeffs (search (rules, long)))

horner-length-requires : (t : ℕ) → horner-lts.Need-length-requires (
  constant-reads.Asked,
  constant-reads.Learnt,
  length-reads.Asked,
  length-reads.Learnt,
  variable-reads.Asked,
  variable-reads.Learnt,
  horner-below t,
  horner.Post,
  write-bytes-reads.Asked,
  write-bytes-reads.Learnt,
) (horner-at t) horner.Post
horner-length-requires t c κs = tt

horner-variable-requires : (t : ℕ) → horner-lts.Need-variable-x-requires (
  constant-reads.Asked,
  constant-reads.Learnt,
  length-reads.Asked,
  length-reads.Learnt,
  variable-reads.Asked,
  variable-reads.Learnt,
  horner-below t,
  horner.Post,
  write-bytes-reads.Asked,
  write-bytes-reads.Learnt,
) (horner-at t) horner.Post
horner-variable-requires t c κs = tt

horner-add-horner : (t : ℕ) → horner-lts.Need-overflow_add-i-else-i-length (
  constant-reads.Asked,
  constant-reads.Learnt,
  length-reads.Asked,
  length-reads.Learnt,
  variable-reads.Asked,
  variable-reads.Learnt,
  horner-below t,
  horner.Post,
  write-bytes-reads.Asked,
  write-bytes-reads.Learnt,
) (horner-at t) horner.Post
horner-add-horner t c = omega arith

horner-horner-requires : (t : ℕ) → horner-lts.Need-horner-rest-requires (
  constant-reads.Asked,
  constant-reads.Learnt,
  length-reads.Asked,
  length-reads.Learnt,
  variable-reads.Asked,
  variable-reads.Learnt,
  horner-below t,
  horner.Post,
  write-bytes-reads.Asked,
  write-bytes-reads.Learnt,
) (horner-at t) horner.Post
horner-horner-requires t c κs = (omega (arith, c.length.ensures), omega (arith, c.length.ensures))

horner-write-bytes-requires : (t : ℕ) → horner-lts.Need-write_bytes-requires (
  constant-reads.Asked,
  constant-reads.Learnt,
  length-reads.Asked,
  length-reads.Learnt,
  variable-reads.Asked,
  variable-reads.Learnt,
  horner-below t,
  horner.Post,
  write-bytes-reads.Asked,
  write-bytes-reads.Learnt,
) (horner-at t) horner.Post
horner-write-bytes-requires t c κs = tt

horner-same-length : (t : ℕ) → horner-lts.Need-shape_of-out-then-i-length (
  constant-reads.Asked,
  constant-reads.Learnt,
  length-reads.Asked,
  length-reads.Learnt,
  variable-reads.Asked,
  variable-reads.Learnt,
  horner-below t,
  horner.Post,
  write-bytes-reads.Asked,
  write-bytes-reads.Learnt,
) (horner-at t) horner.Post
horner-same-length t c = c.constant-lead.auto.out

horner-returns : (t : ℕ) → horner-lts.Need-returns-then-i-length (
  constant-reads.Asked,
  constant-reads.Learnt,
  length-reads.Asked,
  length-reads.Learnt,
  variable-reads.Asked,
  variable-reads.Learnt,
  horner-below t,
  horner.Post,
  write-bytes-reads.Asked,
  write-bytes-reads.Learnt,
) (horner-at t) horner.Post
horner-returns t c =
    let s = c.args in
    let l = terms_of s.p in
    lays-as _ _ _ _ (ap constant (read-terms s.p.len s.p.coeffs s.i past zero_r c.requires.1) ∙ rest-last s.wrt l s.i zero_r (omega (arith, c.length.ensures)))
    c.constant-lead.ensures

horner-same-length-2 : (t : ℕ) → horner-lts.Need-shape_of-out-else-i-length (
  constant-reads.Asked,
  constant-reads.Learnt,
  length-reads.Asked,
  length-reads.Learnt,
  variable-reads.Asked,
  variable-reads.Learnt,
  horner-below t,
  horner.Post,
  write-bytes-reads.Asked,
  write-bytes-reads.Learnt,
) (horner-at t) horner.Post
horner-same-length-2 t c = c.write_bytes.auto.out ∙ c.horner-rest.auto.out ∙ c.variable-x.auto.out ∙ c.constant-lead.auto.out

horner-returns-2 : (t : ℕ) → horner-lts.Need-returns-else-i-length (
  constant-reads.Asked,
  constant-reads.Learnt,
  length-reads.Asked,
  length-reads.Learnt,
  variable-reads.Asked,
  variable-reads.Learnt,
  horner-below t,
  horner.Post,
  write-bytes-reads.Asked,
  write-bytes-reads.Learnt,
) (horner-at t) horner.Post
horner-returns-2 t c =
    let s = c.args in
    let l = terms_of s.p in
    let e = read-terms s.p.len s.p.coeffs s.i past zero_r c.requires.1 in
    lays-as _ _ _ _ (ap (λ a. ((constant a ++ (bytes " " ++ variable s.wrt ++ bytes " ")) ++ lowered_text s.wrt (drop (s.i + 1) l)) ++ bytes " * +") e ∙ rest_more s.wrt l s.i zero_r (omega (arith, c.length.ensures)))
    (lays-then _ _ _ _ (lays-then _ _ _ _ (lays-then _ _ _ _ c.constant-lead.ensures c.variable-x.ensures) c.horner-rest.ensures) c.write_bytes.ensures)

pub +horner_spec : {M : Type 1} → statement M
+horner_spec = close μ-horner λ t. horner-lts.spec (
  constant-reads.Asked,
  constant-reads.Learnt,
  length-reads.Asked,
  length-reads.Learnt,
  variable-reads.Asked,
  variable-reads.Learnt,
  horner-below t,
  horner.Post,
  write-bytes-reads.Asked,
  write-bytes-reads.Learnt,
)
    (horner-at t)
    horner.Post
    (horner-mul-c t)
    (horner-element-copy-out-c t)
    (horner-constant-requires t)
    (horner-add-if1 t)
    (horner-length-requires t)
    (horner-variable-requires t)
    (horner-add-horner t)
    (horner-horner-requires t)
    (horner-write-bytes-requires t)
    (horner-same-length t)
    (horner-returns t)
    (horner-same-length-2 t)
    (horner-returns-2 t)

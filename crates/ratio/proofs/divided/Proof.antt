-- `ratio::divided` meets its contract: signed quotients by the greatest common divisor, or, where that is 1, the parts themselves.
use mathlib.Core.Path.{◌≡◌, sym, ap, ap₂, subst, ◌∙◌}
use Prim.Native.Nat.{ℕ, ◌/◌, ◌<◌, ◌≤◌}
use native.Mathlib.Nat.{le-div_iff_mul-le, le_trans}
use native.Mathlib.Omega.{arith}
use lib.IntN.{ℤ, nat_abs, pos}
use lib.Signed.{quot_z}
use mir.Syntax.{w64}
use mir.Val.{SFits, to_z, of_z}
use Rattle.ratio.specs.Range.{limit, Within}
use Rattle.ratio.proofs.Words.{back, fits, size_above}
use Rattle.ratio.proofs.Euclid.{gcd-above, gcd-most}
use Rattle.ratio.proofs.Quotient.{faces, quot-within, quot-faces, one-faces, quot-read}
use borrow.Author.Rules.{rules}
use Rattle.ratio.proofs.divided.Statement.{statement}
use Rattle.ratio.proofs.divided.Tie as tie

faced-requires : tie.Need-faced-requires
faced-requires c κs = search rules

returns : tie.Need-returns-then-divisor-eq1
returns c =
    let s = c in
    let n = s.args.n in
    let d = s.args.d in
    c.faced.ensures ∙ ap₂ faces (back n s.requires.0.num-within) (back d s.requires.0.den-within) ∙ one-faces n d (sym c.if-divisor-eq1.true ∙ s.requires.1)

-- the two quotients
abbrev num_of : tie.Start → ℤ
num_of s = quot_z s.args.n (pos s.args.divisor)

abbrev den-of : tie.Start → ℤ
den-of s = quot_z s.args.d (pos s.args.divisor)

-- what is known of the divisor and of the quotients as the code reads them
record Parts (s : tie.Start) : Type 0 where
  above : 0 < s.args.divisor
  most : s.args.divisor ≤ limit
  some : 0 < nat_abs s.args.d / s.args.divisor
  num : quot_z (to_z w64 (of_z w64 s.args.n)) (to_z w64 s.args.divisor) ≡ num_of s
  den : quot_z (to_z w64 (of_z w64 s.args.d)) (to_z w64 s.args.divisor) ≡ den-of s
  num-within : Within (num_of s)
  den-within : Within (den-of s)

parts : (s : tie.Start) → Parts s
parts s =
    let n = s.args.n in
    let d = s.args.d in
    let g = s.args.divisor in
    let p = s.requires.0 in
    let pd : 0 < nat_abs d = size_above d p.den-some in
    let a : 0 < g = subst (λ (k : ℕ). 0 < k) (sym s.requires.1) (gcd-above (nat_abs n) (nat_abs d) pd) in
    let l : g ≤ nat_abs d = subst (λ (k : ℕ). k ≤ nat_abs d) (sym s.requires.1) (gcd-most (nat_abs n) (nat_abs d) pd) in
    let k : g ≤ limit = le_trans l p.den-within in
    record {
      above = a;
      most = k;
      some = (le-div_iff_mul-le a).1 (omega arith);
      num = quot-read n g p.num-within k;
      den = quot-read d g p.den-within k;
      num-within = quot-within n g p.num-within;
      den-within = quot-within d g p.den-within;
    }

cast-g : tie.Need-overflow_cast-g
cast-g c = fits (pos c.args.divisor) (parts c.before).most

div-faced : tie.Need-nonzero_div-n
div-faced c = let q = parts c.before in (q.above, subst (SFits w64) (sym q.num) (fits (num_of c.before) q.num-within))

div-faced-2 : tie.Need-nonzero_div-d
div-faced-2 c = let q = parts c.before in (q.above, subst (SFits w64) (sym q.den) (fits (den-of c.before) q.den-within))

-- the quotients, handed over
num-read : (s : tie.Start) → to_z w64 (of_z w64 (quot_z (to_z w64 (of_z w64 s.args.n)) (to_z w64 s.args.divisor))) ≡ num_of s
num-read s = let q = parts s in ap (λ z. to_z w64 (of_z w64 z)) q.num ∙ back (num_of s) q.num-within

den-read : (s : tie.Start) → to_z w64 (of_z w64 (quot_z (to_z w64 (of_z w64 s.args.d)) (to_z w64 s.args.divisor))) ≡ den-of s
den-read s = let q = parts s in ap (λ z. to_z w64 (of_z w64 z)) q.den ∙ back (den-of s) q.den-within

faced-requires-2 : tie.Need-faced-requires-2
faced-requires-2 c κs =
    let s = c in
    let q = parts s.before in
    (subst Within (sym (num-read s.before)) q.num-within, subst Within (sym (den-read s.before)) q.den-within)

returns-2 : tie.Need-returns
returns-2 c =
    let s = c in
    c.faced-2.ensures ∙ ap₂ faces (num-read s.before.before) (den-read s.before.before) ∙ quot-faces s.args.n s.args.d s.args.divisor (parts s.before.before).some s.requires.1

pub divided_spec : {M : Type 1} → statement M
divided_spec = tie.close (tie.spec faced-requires returns cast-g div-faced div-faced-2 faced-requires-2 returns-2)

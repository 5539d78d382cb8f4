-- How long an answer is.
use Rattle.std.specs.Prelude.{Result, Ok, Err}
use mathlib.Core.Path.{◌≡◌}
use mathlib.Core.Bool.{Bool, true, false, cond}
use mathlib.Core.List.{List, [], ◌∷◌, ◌++◌}
use Prim.Native.Nat.{ℕ, ◌+◌, ◌*◌, ◌≤◌}
use native.Mathlib.Omega.{arith}
use lib.Ieee.{Float}
use lib.ListN.{length, take, length-append, length-take}
use Rattle.ratio.specs.Refusal.{number_of, Outcome, no_refusal}
use Rattle.ratio.specs.declared.Ratio.{Ratio}
use Rattle.ratio.specs.declared.Reason.{Reason}
use Rattle.terms.specs.declared.Poly.{Poly}
use Rattle.terms.specs.Poly.{terms_of}
use Rattle.yun.specs.declared.Piece.{Piece}
use Rattle.factor.specs.declared.Factorization.{Factorization}
use Rattle.factor.specs.Rebuild.{factors_in}
use Rattle.text.specs.Spell.{decimal_of, ratio_text, ratios_text, poly_text, floats_text}
use Rattle.text.proofs.Decimal.{decimal-length}
use Rattle.text.proofs.Lengths.{ratio-length, ratios-length, poly-length, floats-length}
use Rattle.ops.specs.declared.Op.{Op}
use Rattle.ops.specs.declared.Op.TheVariants.{Add, Sub, Mul, Divide, Gcd, Resultant, Neg, Diff, Discriminant, Roots, Factor, Rebuild, Eval, Count, Isolate, Unknown}
use Rattle.ops.specs.Op.{name_of, counted}
use Rattle.reply.specs.Reply.{reply_text, steps_text, refused_text, shown}
use Rattle.reply.specs.Results.{value_text, piece_text, pieces_text, factors_text}
use Rattle.reply.specs.Promise.{Fits}

name-length : (op : Op) → length (name_of op) ≤ 12
unfolding name_of
name-length Add = omega arith
name-length Sub = omega arith
name-length Mul = omega arith
name-length Divide = omega arith
name-length Gcd = omega arith
name-length Resultant = omega arith
name-length Neg = omega arith
name-length Diff = omega arith
name-length Discriminant = omega arith
name-length Roots = omega arith
name-length Factor = omega arith
name-length Rebuild = omega arith
name-length Eval = omega arith
name-length Count = omega arith
name-length Isolate = omega arith
name-length Unknown = omega arith

either : (t : Bool) (s : List ℕ) → length (cond t s []) ≤ length s
either true s = omega arith
either false s = omega arith

steps-length : (op : Op) (k : ℕ) → length (steps_text op k) ≤ 20
unfolding steps_text
steps-length op k = omega (arith, either (counted op) (decimal_of k), decimal-length k)

-- 82 bytes beside the results
reply-length : (op : Op) (status k : ℕ) (out rest : List ℕ) → length (reply_text op status out rest (steps_text op k)) ≤ 82 + (length out + length rest)
unfolding reply_text
reply-length op status k out rest = simp length-append (omega (arith, name-length op, decimal-length status, steps-length op k))

pub shown-fits : (op : Op) (o : Outcome) (k : ℕ) (out rest : List ℕ) → length out + length rest ≤ 4000 → Fits (shown op o out rest k)
shown-fits op (Ok _) k out rest h = omega (arith, reply-length op 0 k out rest)
shown-fits op (Err why) k out rest h = omega (arith, reply-length op (number_of why) k [] [])

pub refused-fits : (op : Op) (why : Reason) (k : ℕ) → Fits (refused_text op why k)
refused-fits op why k = omega (arith, reply-length op (number_of why) k [] [])

-- ---- results

taken : {X : Type 0} (n m : ℕ) (l : List X) → length l ≡ m → length (take n l) ≤ m
taken n m l e = rw length-take (omega arith)

pub poly-room : (p : Poly) → length p.coeffs ≡ 32 → length (poly_text (terms_of p)) ≤ 1409
poly-room p e = omega (arith, poly-length (terms_of p), taken p.len 32 p.coeffs e)

pub ratios-room : (n : ℕ) (l : List Ratio) → length l ≡ 32 → length (ratios_text (take n l)) ≤ 1408
ratios-room n l e = omega (arith, ratios-length (take n l), taken n 32 l e)

pub floats-room : (n : ℕ) (l : List Float) → length l ≡ 64 → length (floats_text (take n l)) ≤ 1088
floats-room n l e = omega (arith, floats-length (take n l), taken n 64 l e)

pub value-fits : (op : Op) (s : Result Ratio Reason) → Fits (value_text op s)
value-fits op (Ok r) = shown-fits op no_refusal 0 (ratio_text r) [] (omega (arith, ratio-length r))
value-fits op (Err why) = refused-fits op why 0

piece-length : (p : Piece) → length (piece_text p) ≤ 44 * length (terms_of p.poly) + 27
unfolding piece_text
piece-length p = simp length-append (omega (arith, poly-length (terms_of p.poly), decimal-length p.times))

-- how many coefficients the factors have
unfoldable pub coefficients : List Piece → ℕ
coefficients [] = 0
coefficients (p ∷ l) = length (terms_of p.poly) + coefficients l

pieces-length : (l : List Piece) → length (pieces_text l) ≤ 44 * coefficients l + 27 * length l
unfolding pieces_text coefficients
pieces-length [] = omega arith
pieces-length (p ∷ l) = rw length-append (omega (arith, piece-length p, pieces-length l))

-- factors of degree at least 1 whose degrees add up to at most 31
pub record Few (f : Factorization) : Type 0 where
  pub pieces : length (factors_in f) ≤ 31
  pub total : coefficients (factors_in f) ≤ 62

pub factors-fit : (op : Op) (f : Factorization) → Few f → Fits (factors_text op f)
factors-fit op f h =
    shown-fits op f.outcome 0 (ratio_text f.content ++ pieces_text (factors_in f)) []
    (rw length-append (omega (arith, ratio-length f.content, pieces-length (factors_in f), h.pieces, h.total)))

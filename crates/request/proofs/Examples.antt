-- Jobs by example: document 01's own, a text of each kind that is bad and its place, and lists that are too long.
use Rattle.std.specs.Prelude.{Err}
use mathlib.Core.Path.{◌≡◌, refl}
use Prim.Native.Nat.{ℕ}
use Prim.Native.String.{String}
use lib.Ieee.{le, neg, of_bits}
use Rattle.ratio.specs.Gcd.{gcd_by, gcd_of}
use Rattle.ratio.specs.Refusal.{Outcome, no_refusal}
use Rattle.ratio.specs.declared.Reason.TheVariants.{Malformed, TooLong}
use Rattle.text.specs.Ascii.{bytes}
use Rattle.ops.specs.Op.{name_of}
use Rattle.ops.specs.declared.Op.TheVariants.{Gcd, Unknown}
use Rattle.tokens.specs.Spelling.{digit_of, number_of, natural_of, bits_of}
use Rattle.tokens.specs.Words.{parts_of, length_to}
use Rattle.reading.specs.Numbers.{numerator_of, ratio_from, float_from, budget_from}
use Rattle.reading.specs.Coefficients.{coeffs_from, read_poly}
use Rattle.request.specs.Ops.{begins, op_with_numbers, op_of_one, op_of}
use Rattle.request.specs.Lines.{poly_line_of, ratio_line_of, budget_line_of, float_line_of}
use Rattle.request.specs.Request.{op_line_of, a_of, b_of, x_of, budget_of, lo_of, hi_of, tol_of, made_of, request_of}

abbrev told : String → Outcome
told t = (request_of (bytes t)).outcome

abbrev bad : ℕ → Outcome
bad at = Err (Malformed at)

-- read
jobs : (told "op=gcd\na=-1 0 1\nb=2 -3 1\n" ≡ no_refusal)
    × (told "op=eval\na=1/2 0 -3/4\nx=-5/7\n" ≡ no_refusal)
    × (told "op=neg\na=0\n" ≡ no_refusal)
    × (told "op=factor\na=1 1\nbudget=65536\n" ≡ no_refusal)
    × (told "op=isolate\na=-1 0 1\nlo=c000000000000000\nhi=4000000000000000\ntol=3eb0c6f7a0b5ed8d\n" ≡ no_refusal)
unfolding request_of made_of tol_of hi_of lo_of budget_of x_of b_of a_of op_line_of poly_line_of ratio_line_of budget_line_of float_line_of begins op_of op_of_one op_with_numbers name_of read_poly coeffs_from ratio_from numerator_of float_from budget_from natural_of bits_of number_of digit_of parts_of length_to gcd_of gcd_by le neg of_bits
jobs = (refl, refl, refl, refl, refl)

-- bad lines
lines : (told "" ≡ bad 0)
    × (told "gcd\n" ≡ bad 0)
    × (told "op=foo\n" ≡ bad 3)
    × (told "op=gcd" ≡ bad 6)
    × (told "op=gcd\n" ≡ bad 7)
    × (told "op=add\na=1\nx=1\n" ≡ bad 11)
    × (told "op=roots\na=1\nbudget=0\n" ≡ bad 20)
    × (told "op=roots\na=1\nbudget=65537\n" ≡ bad 20)
    × (told "op=count\na=1\nlo=430c6bf526340001\nhi=0000000000000000\n" ≡ bad 16)
    × (told "op=isolate\na=1\nlo=0000000000000000\nhi=0000000000000000\ntol=0000000000000000\n" ≡ bad 59)
    × (told "op=count\na=1\nlo=3FF0000000000000\nhi=0000000000000000\n" ≡ bad 16)
unfolding request_of made_of tol_of hi_of lo_of budget_of x_of b_of a_of op_line_of poly_line_of ratio_line_of budget_line_of float_line_of begins op_of op_of_one op_with_numbers name_of read_poly coeffs_from ratio_from numerator_of float_from budget_from natural_of bits_of number_of digit_of parts_of length_to gcd_of gcd_by le neg of_bits
lines = (refl, refl, refl, refl, refl, refl, refl, refl, refl, refl, refl)

-- bad coefficients, and what follows a list
lists : (told "op=neg\na=\n" ≡ bad 9)
    × (told "op=neg\na=0 0\n" ≡ bad 11)
    × (told "op=neg\na=0/2\n" ≡ bad 9)
    × (told "op=neg\na=3/1\n" ≡ bad 9)
    × (told "op=neg\na=2/4\n" ≡ bad 9)
    × (told "op=neg\na=-0\n" ≡ bad 9)
    × (told "op=neg\na=+1\n" ≡ bad 9)
    × (told "op=neg\na=01\n" ≡ bad 9)
    × (told "op=neg\na=1  2\n" ≡ bad 11)
    × (told "op=neg\na= 1\n" ≡ bad 9)
    × (told "op=neg\na=1 \n" ≡ bad 11)
    × (told "op=neg\na=1/2/3\n" ≡ bad 9)
    × (told "op=neg\na=1/-2\n" ≡ bad 9)
    × (told "op=neg\na=9223372036854775808\n" ≡ bad 9)
    × (told "op=neg\na=1" ≡ bad 10)
    × (told "op=neg\na=1\nb=1\n" ≡ bad 11)
    × (told "op=neg\na=1\n\n" ≡ bad 11)
    × (told "op=neg\na=1\nbudget=1\n" ≡ bad 11)
    × (told "op=neg\na=1 1 1 1 1 1 1 1 1 1 1 1 1 1 1 1 1 1 1 1 1 1 1 1 1 1 1 1 1 1 1 1 1 x\n" ≡ bad 75)
    × (told "op=neg\na=1 1 1 1 1 1 1 1 1 1 1 1 1 1 1 1 1 1 1 1 1 1 1 1 1 1 1 1 1 1 1 1 1 0\n" ≡ bad 75)
unfolding request_of made_of tol_of hi_of lo_of budget_of x_of b_of a_of op_line_of poly_line_of ratio_line_of budget_line_of float_line_of begins op_of op_of_one op_with_numbers name_of read_poly coeffs_from ratio_from numerator_of float_from budget_from natural_of bits_of number_of digit_of parts_of length_to gcd_of gcd_by le neg of_bits
lists = (refl, refl, refl, refl, refl, refl, refl, refl, refl, refl, refl, refl, refl, refl, refl, refl, refl, refl, refl, refl)

-- 5 before 4
longs : (told "op=add\na=1 1 1 1 1 1 1 1 1 1 1 1 1 1 1 1 1 1 1 1 1 1 1 1 1 1 1 1 1 1 1 1 1\nb=2\n" ≡ Err TooLong)
    × (told "op=add\na=1 1 1 1 1 1 1 1 1 1 1 1 1 1 1 1 1 1 1 1 1 1 1 1 1 1 1 1 1 1 1 1 1\nb=2/4\n" ≡ bad 77)
unfolding request_of made_of tol_of hi_of lo_of budget_of x_of b_of a_of op_line_of poly_line_of ratio_line_of budget_line_of float_line_of begins op_of op_of_one op_with_numbers name_of read_poly coeffs_from ratio_from numerator_of float_from budget_from natural_of bits_of number_of digit_of parts_of length_to gcd_of gcd_by le neg of_bits
longs = (refl, refl)

-- the operation is told even where its line ends the text
named : ((request_of (bytes "op=gcd")).op ≡ Gcd) × ((request_of (bytes "op=gcd ")).op ≡ Unknown) × ((request_of (bytes "op=roots\na=1\n")).budget ≡ 65536)
unfolding request_of made_of tol_of hi_of lo_of budget_of x_of b_of a_of op_line_of poly_line_of ratio_line_of budget_line_of float_line_of begins op_of op_of_one op_with_numbers name_of read_poly coeffs_from ratio_from numerator_of float_from budget_from natural_of bits_of number_of digit_of parts_of length_to gcd_of gcd_by le neg of_bits
named = (refl, refl, refl)

-- Demand 3: the price quoted from the degrees alone. A degree over 31 is no degree here: 4.
use Rattle.ratio.specs.declared.Reason.{Reason}
use Rattle.std.specs.Prelude.{Bool, true, false, ◌&&◌, ℕ, leb, Result, Ok, Err}
use Rattle.ratio.specs.declared.Reason.TheVariants.{TooLong}
use Rattle.remainders.specs.Price.{division_price, gcd_price, square_free_price, resultant_price, discriminant_price}

abbrev pub quote_if : Bool → ℕ → Result ℕ Reason
quote_if true k = Ok k
quote_if false k = Err TooLong

abbrev pub quote_two : ℕ → ℕ → ℕ → Result ℕ Reason
quote_two n m k = quote_if (leb n 31 && leb m 31) k

abbrev pub division_quote : ℕ → ℕ → Result ℕ Reason
division_quote n m = quote_two n m (division_price n m)

abbrev pub gcd_quote : ℕ → ℕ → Result ℕ Reason
gcd_quote n m = quote_two n m (gcd_price n m)

abbrev pub square_free_quote : ℕ → Result ℕ Reason
square_free_quote n = quote_if (leb n 31) (square_free_price n)

abbrev pub resultant_quote : ℕ → ℕ → Result ℕ Reason
resultant_quote n m = quote_two n m (resultant_price n m)

abbrev pub discriminant_quote : ℕ → Result ℕ Reason
discriminant_quote n = quote_if (leb n 31) (discriminant_price n)

-- Document 01, module 6: the sign of a float, as zeros are dropped and as the original's `signum` tells the others apart.
use Rattle.std.specs.Prelude.{Bool, true, false, zero, suc, Float}
use Rattle.std.specs.Float.{nan, inf, fin}
use Rattle.sturm.specs.declared.Sign.{Sign}
use Rattle.sturm.specs.declared.Sign.TheVariants.{Zero, Plus, Minus, Nan}

abbrev pub signed : Bool → Sign
signed true = Minus
signed false = Plus

-- the sign of a float: both zeros have none, an infinity has its own
unfoldable pub sign_of : Float → Sign
sign_of nan = Nan
sign_of (inf s) = signed s
sign_of (fin s zero e) = Zero
sign_of (fin s (suc m) e) = signed s

-- Document 01, "the job program": the operations by name, `?` for any other, and those whose steps are reported.
use Rattle.std.specs.Prelude.{Bool, true, false, List, ℕ}
use Rattle.text.specs.Ascii.{bytes}
use Rattle.ops.specs.declared.Op.{Op}
use Rattle.ops.specs.declared.Op.TheVariants.{Add, Sub, Mul, Divide, Gcd, Resultant, Neg, Diff, Discriminant, Roots, Factor, Rebuild, Eval, Count, Isolate, Unknown}

unfoldable pub name_of : Op → List ℕ
name_of Add = bytes "add"
name_of Sub = bytes "sub"
name_of Mul = bytes "mul"
name_of Divide = bytes "divide"
name_of Gcd = bytes "gcd"
name_of Resultant = bytes "resultant"
name_of Neg = bytes "neg"
name_of Diff = bytes "diff"
name_of Discriminant = bytes "discriminant"
name_of Roots = bytes "roots"
name_of Factor = bytes "factor"
name_of Rebuild = bytes "rebuild"
name_of Eval = bytes "eval"
name_of Count = bytes "count"
name_of Isolate = bytes "isolate"
name_of Unknown = bytes "?"

abbrev pub counted : Op → Bool
counted Add = false
counted Sub = false
counted Mul = false
counted Divide = true
counted Gcd = true
counted Resultant = true
counted Neg = false
counted Diff = false
counted Discriminant = true
counted Roots = false
counted Factor = false
counted Rebuild = false
counted Eval = false
counted Count = false
counted Isolate = false
counted Unknown = false

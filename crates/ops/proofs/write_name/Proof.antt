-- `ops::write_name` meets its contract.
use borrow.Author.Rules.{rules}
use mathlib.Core.Path.{◌≡◌, sym, ap}
use mathlib.Core.List.{List}
use Prim.Native.Nat.{ℕ}
use Rattle.text.proofs.Pages.{Lays, lays-as}
use Rattle.ops.specs.declared.Op.{Op}
use Rattle.ops.specs.Op.{name_of}
use Rattle.ops.proofs.write_name.Statement.{statement}
use Rattle.ops.proofs.write_name.Tie as tie

-- the name of the operation that was met
told : (at : ℕ) (page : List ℕ) {op is : Op} {next : ℕ} {now : List ℕ} → op ≡ is → Lays (name_of is) at page next now → Lays (name_of op) at page next now
told at page e h = lays-as _ _ _ _ (ap name_of (sym e)) h

enum_told : tie.Need-enum_told-1
enum_told c = search rules

write-bytes-requires : tie.Need-write_bytes-requires
write-bytes-requires c κs = tt

enum-told-2 : tie.Need-enum_told-in-Sub
enum-told-2 c = search rules

write-bytes-requires-2 : tie.Need-write_bytes-requires-in-Sub
write-bytes-requires-2 c κs = tt

enum-told-3 : tie.Need-enum_told-in-Mul
enum-told-3 c = search rules

write-bytes-requires-3 : tie.Need-write_bytes-requires-in-Mul
write-bytes-requires-3 c κs = tt

enum-told-4 : tie.Need-enum_told-in-Divide
enum-told-4 c = search rules

write-bytes-requires-4 : tie.Need-write_bytes-requires-in-Divide
write-bytes-requires-4 c κs = tt

enum-told-5 : tie.Need-enum_told-in-Gcd
enum-told-5 c = search rules

write-bytes-requires-5 : tie.Need-write_bytes-requires-in-Gcd
write-bytes-requires-5 c κs = tt

enum-told-6 : tie.Need-enum_told-in-Resultant
enum-told-6 c = search rules

write-bytes-requires-6 : tie.Need-write_bytes-requires-in-Resultant
write-bytes-requires-6 c κs = tt

enum-told-7 : tie.Need-enum_told-in-Neg
enum-told-7 c = search rules

write-bytes-requires-7 : tie.Need-write_bytes-requires-in-Neg
write-bytes-requires-7 c κs = tt

enum-told-8 : tie.Need-enum_told-in-Diff
enum-told-8 c = search rules

write-bytes-requires-8 : tie.Need-write_bytes-requires-in-Diff
write-bytes-requires-8 c κs = tt

enum-told-9 : tie.Need-enum_told-in-Discriminant
enum-told-9 c = search rules

write-bytes-requires-9 : tie.Need-write_bytes-requires-in-Discriminant
write-bytes-requires-9 c κs = tt

enum-told-10 : tie.Need-enum_told-in-Roots
enum-told-10 c = search rules

write-bytes-requires-10 : tie.Need-write_bytes-requires-in-Roots
write-bytes-requires-10 c κs = tt

enum-told-11 : tie.Need-enum_told-in-Factor
enum-told-11 c = search rules

write-bytes-requires-11 : tie.Need-write_bytes-requires-in-Factor
write-bytes-requires-11 c κs = tt

enum-told-12 : tie.Need-enum_told-in-Rebuild
enum-told-12 c = search rules

write-bytes-requires-12 : tie.Need-write_bytes-requires-in-Rebuild
write-bytes-requires-12 c κs = tt

enum-told-13 : tie.Need-enum_told-in-Eval
enum-told-13 c = search rules

write-bytes-requires-13 : tie.Need-write_bytes-requires-in-Eval
write-bytes-requires-13 c κs = tt

enum-told-14 : tie.Need-enum_told-in-Count
enum-told-14 c = search rules

write-bytes-requires-14 : tie.Need-write_bytes-requires-in-Count
write-bytes-requires-14 c κs = tt

enum-told-15 : tie.Need-enum_told-in-Isolate
enum-told-15 c = search rules

write-bytes-requires-15 : tie.Need-write_bytes-requires-in-Isolate
write-bytes-requires-15 c κs = tt

enum-told-16 : tie.Need-enum_told-in-Unknown
enum-told-16 c = search rules

write-bytes-requires-16 : tie.Need-write_bytes-requires-in-Unknown
write-bytes-requires-16 c κs = tt

same_length : tie.Need-shape_of-out-in-Add
same_length c = search rules

returns : tie.Need-returns-in-Add
unfolding name_of
returns c = told _ _ c.in-Add.is c.write_bytes.ensures

same-length-2 : tie.Need-shape_of-out-in-Sub
same-length-2 c = search rules

returns-2 : tie.Need-returns-in-Sub
unfolding name_of
returns-2 c = told _ _ c.in-Sub.is c.write_bytes-in-Sub.ensures

same-length-3 : tie.Need-shape_of-out-in-Mul
same-length-3 c = search rules

returns-3 : tie.Need-returns-in-Mul
unfolding name_of
returns-3 c = told _ _ c.in-Mul.is c.write_bytes-in-Mul.ensures

same-length-4 : tie.Need-shape_of-out-in-Divide
same-length-4 c = search rules

returns-4 : tie.Need-returns-in-Divide
unfolding name_of
returns-4 c = told _ _ c.in-Divide.is c.write_bytes-in-Divide.ensures

same-length-5 : tie.Need-shape_of-out-in-Gcd
same-length-5 c = search rules

returns-5 : tie.Need-returns-in-Gcd
unfolding name_of
returns-5 c = told _ _ c.in-Gcd.is c.write_bytes-in-Gcd.ensures

same-length-6 : tie.Need-shape_of-out-in-Resultant
same-length-6 c = search rules

returns-6 : tie.Need-returns-in-Resultant
unfolding name_of
returns-6 c = told _ _ c.in-Resultant.is c.write_bytes-in-Resultant.ensures

same-length-7 : tie.Need-shape_of-out-in-Neg
same-length-7 c = search rules

returns-7 : tie.Need-returns-in-Neg
unfolding name_of
returns-7 c = told _ _ c.in-Neg.is c.write_bytes-in-Neg.ensures

same-length-8 : tie.Need-shape_of-out-in-Diff
same-length-8 c = search rules

returns-8 : tie.Need-returns-in-Diff
unfolding name_of
returns-8 c = told _ _ c.in-Diff.is c.write_bytes-in-Diff.ensures

same-length-9 : tie.Need-shape_of-out-in-Discriminant
same-length-9 c = search rules

returns-9 : tie.Need-returns-in-Discriminant
unfolding name_of
returns-9 c = told _ _ c.in-Discriminant.is c.write_bytes-in-Discriminant.ensures

same-length-10 : tie.Need-shape_of-out-in-Roots
same-length-10 c = search rules

returns-10 : tie.Need-returns-in-Roots
unfolding name_of
returns-10 c = told _ _ c.in-Roots.is c.write_bytes-in-Roots.ensures

same-length-11 : tie.Need-shape_of-out-in-Factor
same-length-11 c = search rules

returns-11 : tie.Need-returns-in-Factor
unfolding name_of
returns-11 c = told _ _ c.in-Factor.is c.write_bytes-in-Factor.ensures

same-length-12 : tie.Need-shape_of-out-in-Rebuild
same-length-12 c = search rules

returns-12 : tie.Need-returns-in-Rebuild
unfolding name_of
returns-12 c = told _ _ c.in-Rebuild.is c.write_bytes-in-Rebuild.ensures

same-length-13 : tie.Need-shape_of-out-in-Eval
same-length-13 c = search rules

returns-13 : tie.Need-returns-in-Eval
unfolding name_of
returns-13 c = told _ _ c.in-Eval.is c.write_bytes-in-Eval.ensures

same-length-14 : tie.Need-shape_of-out-in-Count
same-length-14 c = search rules

returns-14 : tie.Need-returns-in-Count
unfolding name_of
returns-14 c = told _ _ c.in-Count.is c.write_bytes-in-Count.ensures

same-length-15 : tie.Need-shape_of-out-in-Isolate
same-length-15 c = search rules

returns-15 : tie.Need-returns-in-Isolate
unfolding name_of
returns-15 c = told _ _ c.in-Isolate.is c.write_bytes-in-Isolate.ensures

same-length-16 : tie.Need-shape_of-out-in-Unknown
same-length-16 c = search rules

returns-16 : tie.Need-returns-in-Unknown
unfolding name_of
returns-16 c = told _ _ c.in-Unknown.is c.write_bytes-in-Unknown.ensures

pub write_name_spec : {M : Type 1} → statement M
write_name_spec =
    tie.close
    (tie.spec enum_told write-bytes-requires enum-told-2 write-bytes-requires-2 enum-told-3 write-bytes-requires-3 enum-told-4 write-bytes-requires-4 enum-told-5 write-bytes-requires-5 enum-told-6 write-bytes-requires-6 enum-told-7 write-bytes-requires-7 enum-told-8 write-bytes-requires-8 enum-told-9 write-bytes-requires-9 enum-told-10 write-bytes-requires-10 enum-told-11 write-bytes-requires-11 enum-told-12 write-bytes-requires-12 enum-told-13 write-bytes-requires-13 enum-told-14 write-bytes-requires-14 enum-told-15 write-bytes-requires-15 enum-told-16 write-bytes-requires-16 same_length returns same-length-2 returns-2 same-length-3 returns-3 same-length-4 returns-4 same-length-5 returns-5 same-length-6 returns-6 same-length-7 returns-7 same-length-8 returns-8 same-length-9 returns-9 same-length-10 returns-10 same-length-11 returns-11 same-length-12 returns-12 same-length-13 returns-13 same-length-14 returns-14 same-length-15 returns-15 same-length-16 returns-16)

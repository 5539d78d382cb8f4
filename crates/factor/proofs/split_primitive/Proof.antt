-- `factor::split_primitive` meets its contract.
use mathlib.Core.Path.{◌∙◌}
use Rattle.factor.specs.Factors.{factors_of}
use Rattle.factor.proofs.Works.{factors-refused, factors-done, primitive-refused, decomposition-refused, all_split}
use borrow.Author.Rules.{rules}
use Rattle.factor.proofs.split_primitive.Statement.{statement}
use Rattle.factor.proofs.split_primitive.Tie as tie

enum-known-c : tie.Need-enum_known-c
enum-known-c c = search rules

refused-requires : tie.Need-refused-requires
refused-requires c κs = tt

returns : tie.Need-returns-in-Err
returns c =
    let s = c.args in
    c.refused.ensures ∙ factors-refused s.c (factors_of s.p s.budget) _ c.in-Err.is

enum_told : tie.Need-enum_told-1
enum_told c = search rules

primitive-part-requires : tie.Need-primitive_part-a-requires
primitive-part-requires c κs = tt

enum-known-o : tie.Need-enum_known-o
enum-known-o c = search rules

refused-requires-2 : tie.Need-refused-requires-in-Err-o
refused-requires-2 c κs = tt

returns-2 : tie.Need-returns-in-Err-o
returns-2 c =
    let a = c in
    let t = a in
    let s = t.args in
    c.refused-in-Err-o.ensures ∙ primitive-refused s.p s.budget a.primitive_part-a.result a.primitive_part-a.ensures.0 _ c.in-Err-o.is ∙ factors-done s.c (factors_of s.p s.budget) _ t.in_default.is

enum-told-2 : tie.Need-enum_told-in_default-o
enum-told-2 c = search rules

decompose-requires : tie.Need-decompose-d-requires
decompose-requires c κs = tt

enum-told-3 : tie.Need-enum_told-in-Err-od
enum-told-3 c = search rules

returns-3 : tie.Need-returns-in-Err-od
returns-3 c =
    let d = c in
    let a = d in
    let t = a in
    let s = t.args in
    decomposition-refused s.p s.budget a.primitive_part-a.result a.primitive_part-a.ensures.0 d.in_default-o.is d.decompose-d.result d.decompose-d.ensures _ c.in-Err-od.is ∙ factors-done s.c (factors_of s.p s.budget) _ t.in_default.is

enum-told-4 : tie.Need-enum_told-in_default-od
enum-told-4 c = search rules

split-all-requires : tie.Need-split_all-requires
split-all-requires c κs = tt

returns-4 : tie.Need-returns
returns-4 c =
    let d = c in
    let a = d in
    let t = a in
    let s = t.args in
    all_split s.p s.budget a.primitive_part-a.result a.primitive_part-a.ensures.0 d.in_default-o.is d.decompose-d.result d.decompose-d.ensures c.in_default-od.is c.split_all.result c.split_all.ensures ∙ factors-done s.c (factors_of s.p s.budget) _ t.in_default.is

pub split_primitive_spec : {M : Type 1} → statement M
split_primitive_spec =
    tie.close
    (tie.spec
    enum-known-c
    refused-requires
    returns
    enum_told
    primitive-part-requires
    enum-known-o
    refused-requires-2
    returns-2
    enum-told-2
    decompose-requires
    enum-told-3
    returns-3
    enum-told-4
    split-all-requires
    returns-4)

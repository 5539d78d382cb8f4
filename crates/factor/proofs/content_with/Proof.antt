-- `factor::content_with` meets its contract.
use borrow.Author.Rules.{rules}
use Rattle.factor.proofs.Works.{with-refused, with_none, with-content}
use Rattle.factor.proofs.content_with.Statement.{statement}
use Rattle.factor.proofs.content_with.Tie as tie

enum_told : tie.Need-enum_told-1
enum_told c = search rules

returns : tie.Need-returns-in-Err
returns c =
    let s = c.args in
    with-refused s.o s.c _ c.in-Err.is

enum-told-2 : tie.Need-enum_told-in_default
enum-told-2 c = search rules

enum-known-c : tie.Need-enum_known-c
enum-known-c c = search rules

enum-told-3 : tie.Need-enum_told-in_default-c
enum-told-3 c = search rules

returns-2 : tie.Need-returns-in_default-c
returns-2 c =
    let t = c in
    let s = t.args in
    with_none s.o s.c t.in_default.is _ c.in_default-c.is

returns-3 : tie.Need-returns
returns-3 c =
    let t = c in
    let s = t.args in
    with-content s.o s.c t.in_default.is _ c.in-Ok.is

pub content_with_spec : {M : Type 1} → statement M
content_with_spec =
    tie.close (tie.spec enum_told returns enum-told-2 enum-known-c enum-told-3 returns-2 returns-3)

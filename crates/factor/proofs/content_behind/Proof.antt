-- `factor::content_behind` meets its contract.
use Rattle.std.specs.Prelude.{Err}
use mathlib.Core.Path.{refl}
use borrow.Author.Rules.{rules}
use Rattle.poly.proofs.Doors.{open-entered, shut-entered}
use Rattle.factor.proofs.Works.{content-got, content-none}
use Rattle.factor.proofs.content_behind.Statement.{statement}
use Rattle.factor.proofs.content_behind.Tie as tie

enum_told : tie.Need-enum_told-1
enum_told c = c.in-Open-1.keys1

content-requires : tie.Need-content-requires
content-requires c κs = tt

enum-known-c : tie.Need-enum_known-c
enum-known-c c = search rules

enum-told-2 : tie.Need-enum_told-in_default-content
enum-told-2 c = search rules

returns : tie.Need-returns-in_default-content
returns c =
    let k = c in
    let s = k.args in
    open-entered s.d _ refl k.in-Open.is Err _ _ (content-none s.p k.content.result k.content.ensures.0 _ c.in_default-content.is)

returns-2 : tie.Need-returns-in-Open
returns-2 c =
    let k = c in
    let s = k.args in
    open-entered s.d _ refl k.in-Open.is Err _ _ (content-got s.p k.content.result k.content.ensures.0 _ c.in-Ok.is)

reason-requires : tie.Need-reason-requires
reason-requires c κs = tt

returns-3 : tie.Need-returns
returns-3 c =
    let s = c.args in
    shut-entered s.d _ refl c.in_default.in_default-own.keys2 c.reason.result c.reason.ensures Err _ _ refl

pub content_behind_spec : {M : Type 1} → statement M
content_behind_spec =
    tie.close
    (tie.spec
    enum_told
    content-requires
    enum-known-c
    enum-told-2
    returns
    returns-2
    reason-requires
    returns-3)

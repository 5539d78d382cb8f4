-- `lower::run` meets its contract. The loop's invariant: the words from here on, run on the values, come to what the text comes to.
use mathlib.Core.Path.{◌≡◌, refl, sym, ap, ◌∙◌}
use mathlib.Core.Logic.{⊎_elim}
use mathlib.Core.List.{[]}
use Prim.Native.Nat.{◌≤◌, ◌<◌, ◌+◌, ◌-◌}
use native.Mathlib.Omega.{arith}
use borrow.Author.Rules.{rules}
use lib.ListN.{length, drop, take, length-set}
use Rattle.tokens.specs.Spelling.{token_of}
use Rattle.tokens.specs.Words.{words_of}
use Rattle.tokens.proofs.Heights.{end-within}
use Rattle.lower.specs.Work.{work_of, takes_of}
use Rattle.lower.specs.Room.{bounded, bounded_from, alone}
use Rattle.lower.proofs.Stacks.{Opens, Made, too_few, constant-made, variable-made, change-made, combine-made, stop-made, made-stop, made-full, made-put, opens-put, alone-one, alone-none}
use Rattle.lower.proofs.Works.{takes-few}
use Rattle.lower.proofs.Runs.{rest_after, rest_all, rest-none, run-stop, run_more}
use Rattle.lower.proofs.run.Statement.{statement}
use Rattle.lower.proofs.run.Tie as tie

abbrev invariant-loop : tie.invariant-loop-at
invariant-loop text wrt values₀ free₀ at₀ values free at =
    (at ≤ length text + 1) × (free ≤ 16) × (length values ≡ 16) × Opens free values
    × (bounded_from wrt (rest_after at text) (drop free values) ≡ bounded_from wrt (words_of text) [])

abbrev decreases-loop : tie.decreases-loop-at
decreases-loop text wrt values₀ free₀ at₀ values free at = length text + 1 - at

blank-requires : tie.Need-blank-values-requires invariant-loop decreases-loop
blank-requires c κs = tt

loop-holds : tie.Need-loop-at-init invariant-loop decreases-loop
loop-holds c = (omega arith, omega arith, refl, record { at = λ i d a b. absurd (omega arith) }, ap (λ w. bounded_from c.args.wrt w []) (rest_all c.args.text.now))

word-end-requires : tie.Need-word_end-end-requires invariant-loop decreases-loop
word-end-requires c κs = tt

sub-token-of : tie.Need-slice_bounds-token_of-count invariant-loop decreases-loop
sub-token-of c = omega (arith, c.word_end-end.ensures)

part-token-of-start : tie.Need-slice_bounds-token_of-start invariant-loop decreases-loop
part-token-of-start c = search rules

part-token-of-end : tie.Need-slice_bounds-token_of-end invariant-loop decreases-loop
part-token-of-end c =
    let l = c in
    end-within l.args.text.now l.loop-at.at c.word_end-end.result c.loop-at-test.true c.word_end-end.ensures

token-of-requires : tie.Need-token_of-requires invariant-loop decreases-loop
token-of-requires c κs = tt

work-of-requires : tie.Need-work_of-work-requires invariant-loop decreases-loop
work-of-requires c κs = tt

takes-requires : tie.Need-takes-requires invariant-loop decreases-loop
takes-requires c κs = tt

-- the work is the first word's
asks : (c : tie.After-takes invariant-loop decreases-loop) → let l = c in c.work_of-work.result ≡ work_of (token_of (take (c.word_end-end.result - l.loop-at.at) (drop l.loop-at.at l.args.text.now)))
asks c = c.work_of-work.ensures ∙ ap work_of c.token_of.ensures

few : (c : tie.After-takes invariant-loop decreases-loop) → c.takes.result ≤ 2
few c = omega (arith, c.takes.ensures, takes-few c.work_of-work.result)

add_left : tie.Need-overflow_add-left invariant-loop decreases-loop
add_left c = omega (arith, few c, c.loop-at.invariant.1)

refused-requires : tie.Need-refused-requires invariant-loop decreases-loop
refused-requires c κs = tt

returns : tie.Need-returns-then-left-gt16 invariant-loop decreases-loop
returns c =
    let t = c in
    let w = t in
    let l = w in
    let s = l.args in
    c.refused.ensures ∙ ap alone (run-stop s.text.now l.loop-at.at w.word_end-end.result w.loop-at-test.true w.word_end-end.ensures s.wrt (drop l.loop-at.free l.loop-at.values) t.work_of-work.result (asks t.before.before)
    (ap bounded (too_few s.wrt l.loop-at.values l.loop-at.free l.loop-at.invariant.2 t.work_of-work.result l.loop-at.invariant.1 (omega (arith, c.if-left-gt16.true, t.takes.ensures)))) ∙ l.loop-at.invariant.4)

enum-known-work : tie.Need-enum_known-work invariant-loop decreases-loop
enum-known-work c = c.in-Constant-1.keys1

constant-requires : tie.Need-constant-r-requires invariant-loop decreases-loop
constant-requires c κs = tt

enum-known-work-2 : tie.Need-enum_known-work-in-Variable-1 invariant-loop decreases-loop
enum-known-work-2 c = c.in-Variable-1.keys2

variable-requires : tie.Need-variable-r-requires invariant-loop decreases-loop
variable-requires c κs = tt

enum-known-work-3 : tie.Need-enum_known-work-in-Change-1 invariant-loop decreases-loop
enum-known-work-3 c = c.in-Change-1.keys3

mul-change : tie.Need-offset_bounds-values-free invariant-loop decreases-loop
mul-change c = record { fits = omega (arith, c.if-left-gt16.false, c.takes.ensures, ap takes_of c.in-Change.is) }

array-copy-out-change : tie.Need-bounds-values-free invariant-loop decreases-loop
array-copy-out-change c = omega (arith, c.if-left-gt16.false, c.takes.ensures, ap takes_of c.in-Change.is)

change-requires : tie.Need-change-r-requires invariant-loop decreases-loop
change-requires c κs =
    let l = c in
    l.loop-at.invariant.3.at l.loop-at.free _ (omega arith) (omega (arith, l.loop-at.invariant.2, c.if-left-gt16.false, c.takes.ensures, ap takes_of c.in-Change.is))

enum-known-work-4 : tie.Need-enum_known-work-in-Combine-1 invariant-loop decreases-loop
enum-known-work-4 c = c.in-Combine-1.keys4

add-combine : tie.Need-overflow_add-free invariant-loop decreases-loop
add-combine c = record { fits = omega (arith, c.if-left-gt16.false, c.takes.ensures, ap takes_of c.in-Combine.is) }

mul-combine : tie.Need-offset_bounds-values-free-in-Combine invariant-loop decreases-loop
mul-combine c = record { fits = omega (arith, c.if-left-gt16.false, c.takes.ensures, ap takes_of c.in-Combine.is) }

array-copy-out-combine : tie.Need-bounds-values-free-in-Combine invariant-loop decreases-loop
array-copy-out-combine c = omega (arith, c.if-left-gt16.false, c.takes.ensures, ap takes_of c.in-Combine.is)

mul-combine-2 : tie.Need-offset_bounds-values-free-in-Combine-2 invariant-loop decreases-loop
mul-combine-2 c = record { fits = omega (arith, c.if-left-gt16.false, c.takes.ensures, ap takes_of c.in-Combine.is) }

array-copy-out-combine-2 : tie.Need-bounds-values-free-in-Combine-2 invariant-loop decreases-loop
array-copy-out-combine-2 c = omega (arith, c.if-left-gt16.false, c.takes.ensures, ap takes_of c.in-Combine.is)

combine-requires : tie.Need-combine-r-requires invariant-loop decreases-loop
combine-requires c κs =
    let t = c in
    let l = t in
    let k : l.loop-at.free + 1 < 16 = omega (arith, c.if-left-gt16.false, t.takes.ensures, ap takes_of c.in-Combine.is) in
    (l.loop-at.invariant.3.at (l.loop-at.free + 1) _ (omega arith) (omega (arith, l.loop-at.invariant.2, k)), l.loop-at.invariant.3.at l.loop-at.free _ (omega arith) (omega (arith, l.loop-at.invariant.2, k)))

enum-known-work-5 : tie.Need-enum_known-work-in-Stop-1 invariant-loop decreases-loop
enum-known-work-5 c = c.in-Stop-1.keys5

refused-requires-2 : tie.Need-refused-r-requires invariant-loop decreases-loop
refused-requires-2 c κs = tt

-- what the arms come to
made : (c : tie.Joined-work invariant-loop decreases-loop) → let l = c in Made l.args.wrt c.work_of-work.result l.loop-at.values l.loop-at.free c.match-work.r
made c =
    let t = c in
    let l = t in
    let x = l.args.wrt in
    let v = l.loop-at.values in
    let f = l.loop-at.free in
    let h = l.loop-at.invariant.2 in
    let w = t.work_of-work.result in
    let r = c.match-work.r in
    let k : f + takes_of w ≤ 16 = omega (arith, c.if-left-gt16.false, t.takes.ensures) in
    ⊎_elim (λ a. constant-made x v f h w r _ a.in-Constant.is (a.r-is ∙ a.constant-r.ensures))
    (⊎_elim (λ a. variable-made x v f h w r _ a.in-Variable.is (a.r-is ∙ a.variable-r.ensures))
    (⊎_elim (λ a. change-made x v f h w r _ _ a.in-Change.is k (a.r-is ∙ a.change-r.ensures))
    (⊎_elim (λ a. combine-made x v f h w r _ _ _ a.in-Combine.is k (a.r-is ∙ a.combine-r.ensures))
    (λ a. stop-made x v f h w r _ a.in-Stop.is (a.r-is ∙ a.refused-r.ensures)))))
    c.match-work.branch-raw

enum-known-o : tie.Need-enum_known-o invariant-loop decreases-loop
enum-known-o c = c.in-Err-1.keys1

refused-requires-3 : tie.Need-refused-requires-in-Err invariant-loop decreases-loop
refused-requires-3 c κs = tt

returns-2 : tie.Need-returns-in-Err invariant-loop decreases-loop
returns-2 c =
    let j = c in
    let t = j in
    let w = t in
    let l = w in
    let s = l.args in
    let v = drop l.loop-at.free l.loop-at.values in
    c.refused-in-Err.ensures ∙ ap alone (run-stop s.text.now l.loop-at.at w.word_end-end.result w.loop-at-test.true w.word_end-end.ensures s.wrt v t.work_of-work.result (asks t.before.before.before.before)
    (made-stop s.wrt t.work_of-work.result l.loop-at.values l.loop-at.free j.match-work.r l.loop-at.invariant.2 (made j.before.before) _ c.in-Err.is) ∙ l.loop-at.invariant.4)

enum_told : tie.Need-enum_told-1 invariant-loop decreases-loop
enum_told c = c.in_default-1.keys2

refused-requires-4 : tie.Need-refused-requires-then-left-eq0 invariant-loop decreases-loop
refused-requires-4 c κs = tt

returns-3 : tie.Need-returns-then-left-eq0 invariant-loop decreases-loop
returns-3 c =
    let j = c in
    let t = j in
    let w = t in
    let l = w in
    let s = l.args in
    let v = drop l.loop-at.free l.loop-at.values in
    c.refused-then-left-eq0.ensures ∙ ap alone (run-stop s.text.now l.loop-at.at w.word_end-end.result w.loop-at-test.true w.word_end-end.ensures s.wrt v t.work_of-work.result (asks t.before.before.before.before.before)
    (made-full s.wrt t.work_of-work.result l.loop-at.values l.loop-at.free j.match-work.r l.loop-at.invariant.2 (made j.before.before.before) _ (ap (λ n. l.loop-at.free + n) t.takes.ensures) c.in_default.is c.if-left-eq0.true) ∙ l.loop-at.invariant.4)

sub-free : tie.Need-overflow_sub-free invariant-loop decreases-loop
sub-free c = omega (arith, c.if-left-eq0.false)

mul-values : tie.Need-offset_bounds-values-free-in-loop-at invariant-loop decreases-loop
mul-values c = record { fits = omega (arith, c.if-left-gt16.false) }

array-set-from-values : tie.Need-bounds-values-free-in-loop-at invariant-loop decreases-loop
array-set-from-values c = omega (arith, c.if-left-gt16.false)

add_at : tie.Need-overflow_add-at invariant-loop decreases-loop
add_at c =
    let w = c in
    let l = w in
    let s = l.args in
    record { fits = omega (arith, end-within s.text.now l.loop-at.at w.word_end-end.result w.loop-at-test.true w.word_end-end.ensures, l.well_formed.0) }

loop-less : tie.Need-loop-at-smaller invariant-loop decreases-loop
loop-less c =
    let w = c in
    let l = w in
    let s = l.args in
    omega (arith, end-within s.text.now l.loop-at.at w.word_end-end.result w.loop-at-test.true w.word_end-end.ensures, w.word_end-end.ensures)

loop-again : tie.Need-loop-at-preserved invariant-loop decreases-loop
loop-again c =
    let j = c in
    let t = j in
    let w = t in
    let l = w in
    let s = l.args in
    let v = drop l.loop-at.free l.loop-at.values in
    let n = l.loop-at.free + t.takes.result in (
      omega (arith, end-within s.text.now l.loop-at.at w.word_end-end.result w.loop-at-test.true w.word_end-end.ensures),
      omega (arith, j.if-left-gt16.false),
      length-set l.loop-at.values (n - 1) j.match-work.r.poly ∙ l.loop-at.invariant.2,
      opens-put l.loop-at.values l.loop-at.free n j.match-work.r.poly l.loop-at.invariant.3 (made j.before.before.before).canonical (omega arith),
      run_more s.text.now l.loop-at.at w.word_end-end.result w.loop-at-test.true w.word_end-end.ensures s.wrt v t.work_of-work.result (asks t.before.before.before.before.before)
          (made-put s.wrt t.work_of-work.result l.loop-at.values l.loop-at.free j.match-work.r l.loop-at.invariant.2 (made j.before.before.before) n (ap (λ m. l.loop-at.free + m) t.takes.ensures) c.in_default.is j.if-left-gt16.false c.if-left-eq0.false) ∙ l.loop-at.invariant.4,
    )

mul-done : tie.Need-offset_bounds-values-free-then-free-eq15 invariant-loop decreases-loop
mul-done c = record { fits = omega (arith, c.if-free-eq15.true) }

array-copy-out-done : tie.Need-bounds-values-free-then-free-eq15 invariant-loop decreases-loop
array-copy-out-done c = omega (arith, c.if-free-eq15.true)

done-requires : tie.Need-done-requires invariant-loop decreases-loop
done-requires c κs = tt

refused-requires-5 : tie.Need-refused-requires-else-free-eq15 invariant-loop decreases-loop
refused-requires-5 c κs = tt

returns-4 : tie.Need-returns-then-free-eq15 invariant-loop decreases-loop
returns-4 c =
    let i = c in
    let l = i in
    let s = l.args in
    c.done.ensures ∙ alone-one l.loop-at.values _ l.loop-at.invariant.2 l.loop-at.free i.if-free-eq15.true
    ∙ ap alone (sym (rest-none s.text.now l.loop-at.at s.wrt (drop l.loop-at.free l.loop-at.values) i.loop-at-test.false) ∙ l.loop-at.invariant.4)

returns-5 : tie.Need-returns-else-free-eq15 invariant-loop decreases-loop
returns-5 c =
    let i = c in
    let l = i in
    let s = l.args in
    c.refused-else-free-eq15.ensures ∙ alone-none l.loop-at.values l.loop-at.free l.loop-at.invariant.2 i.if-free-eq15.false
    ∙ ap alone (sym (rest-none s.text.now l.loop-at.at s.wrt (drop l.loop-at.free l.loop-at.values) i.loop-at-test.false) ∙ l.loop-at.invariant.4)

pub run_spec : {M : Type 1} → statement M
run_spec =
    tie.close
    (tie.spec
    invariant-loop
    decreases-loop
    blank-requires
    loop-holds
    word-end-requires
    sub-token-of
    part-token-of-start
    part-token-of-end
    token-of-requires
    work-of-requires
    takes-requires
    add_left
    refused-requires
    returns
    enum-known-work
    constant-requires
    enum-known-work-2
    variable-requires
    enum-known-work-3
    mul-change
    array-copy-out-change
    change-requires
    enum-known-work-4
    add-combine
    mul-combine
    array-copy-out-combine
    mul-combine-2
    array-copy-out-combine-2
    combine-requires
    enum-known-work-5
    refused-requires-2
    enum-known-o
    refused-requires-3
    returns-2
    enum_told
    refused-requires-4
    returns-3
    sub-free
    mul-values
    array-set-from-values
    add_at
    loop-less
    loop-again
    mul-done
    array-copy-out-done
    done-requires
    refused-requires-5
    returns-4
    returns-5)

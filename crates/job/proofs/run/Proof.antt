-- `job::run` meets its contract.
use mathlib.Core.Path.{refl}
use native.Mathlib.Omega.{arith}
use Rattle.job.proofs.Running.{fits, page-long, taken-long, short-ran, short-kept, done-ran, done-written, done-room}
use borrow.Author.Rules.{rules}
use Rattle.job.proofs.run.Statement.{statement}
use Rattle.job.proofs.run.Tie as tie

read-requires : tie.Need-read-requires
read-requires c κs = tt

slice-aggregate-reply-to : tie.Need-slice_bounds-reply_to-end
slice-aggregate-reply-to c = search rules

reply-to-requires : tie.Need-reply_to-t-requires
reply-to-requires c κs = tt

returns : tie.Need-returns-then-n-out
returns c =
    let s = c.args in
    let rd = c.read in
    let rt = c.reply_to-t in
    (short-ran s.input.now rd.result rd.ensures.0 _ _ rt.result rt.ensures refl s.out.now c.if-n-out.true, (short-kept s.input.now rd.result rd.ensures.0 _ _ rt.result rt.ensures refl s.out.now c.if-n-out.true, (fits s.input.now rd.result rd.ensures.0 _ _ rt.result rt.ensures refl, omega arith)))

array-share-prefix-page : tie.Need-slice_bounds-page-end
array-share-prefix-page c =
    let s = c.args in
    let rd = c.read in
    let rt = c.reply_to-t in
    page-long s.input.now rd.result rd.ensures.0 _ _ rt.result rt.ensures refl

slice-aggregate-write-bytes : tie.Need-slice_bounds-write_bytes-end
slice-aggregate-write-bytes c =
    let s = c.args in
    let rd = c.read in
    let rt = c.reply_to-t in
    taken-long s.input.now rd.result rd.ensures.0 _ _ rt.result rt.ensures refl

write-bytes-requires : tie.Need-write_bytes-requires
write-bytes-requires c κs = tt

same_length : tie.Need-shape_of-out
same_length c = search rules

returns-2 : tie.Need-returns
returns-2 c =
    let s = c.args in
    let rd = c.read in
    let rt = c.reply_to-t in
    let w = c.write_bytes in
    (done-ran s.input.now rd.result rd.ensures.0 _ _ rt.result rt.ensures refl s.out.now (omega arith), (done-written s.input.now rd.result rd.ensures.0 _ _ rt.result rt.ensures refl s.out.now (omega arith) _ w.ensures.1, (fits s.input.now rd.result rd.ensures.0 _ _ rt.result rt.ensures refl, done-room s.input.now rd.result rd.ensures.0 _ _ rt.result rt.ensures refl s.out.now (omega arith) _ w.ensures.1)))

pub run_spec : {M : Type 1} → statement M
run_spec =
    tie.close
    (tie.spec
    read-requires
    slice-aggregate-reply-to
    reply-to-requires
    returns
    array-share-prefix-page
    slice-aggregate-write-bytes
    write-bytes-requires
    same_length
    returns-2)

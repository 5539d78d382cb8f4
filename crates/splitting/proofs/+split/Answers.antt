-- The cycle of calls {split} meets its contract: one answer for each way that a split goes on or ends.
use native.Mathlib.Omega.{arith}
use borrow.Author.Tests.{not-true, not-false}
use Rattle.terms.specs.Poly.{terms_of}
use Rattle.splitting.proofs.Onto.{splits-short, splits-refused, peel-done, splits-few, peel-kept-list, peel-padded, splits-rest, splits-kept, splits-pairless, splits-whole, first-shorter, second-shorter, splits-half, half-kept, splits-both}
use Rattle.splitting.proofs.+split.Goals as goal

pub returns-then-n-lt3 : goal.returns-then-n-lt3
returns-then-n-lt3 t c =
    let s = c.args in
    splits-short (terms_of s.f) s.times s.budget s.found c.requires.0 (omega (arith, c.length-n.ensures.is)) c.add.result c.add.ensures

pub returns-in-Err : goal.returns-in-Err
returns-in-Err t c =
    let s = c.args in
    splits-refused (terms_of s.f) s.times s.budget s.found c.requires.0 (omega (arith, c.length-n.ensures.is)) c.roots_of-roots.result c.roots_of-roots.ensures.is _ c.in-Err.is c.refused.result c.refused.ensures.is

pub returns-then-m-lt2 : goal.returns-then-m-lt2
returns-then-m-lt2 t c =
    let s = c.args in
    splits-few (terms_of s.f) s.times s.budget s.found c.requires.0 (omega (arith, c.length-n.ensures.is)) c.roots_of-roots.result c.roots_of-roots.ensures.is c.in_default.is (omega (arith, c.if-roots-gt0.true)) c.peel-l.result c.peel-l.ensures (omega (arith, c.length-m.ensures.is))

pub split-requires : goal.split-requires
split-requires t c =
    let s = c.args in
    let d = peel-done (terms_of s.f) s.times s.budget s.found c.requires.0 (omega (arith, c.length-n.ensures.is)) c.roots_of-roots.result c.roots_of-roots.ensures.is c.in_default.is (omega (arith, c.if-roots-gt0.true)) c.peel-l.result c.peel-l.ensures (omega (arith, c.length-m.ensures.is)) in
    (omega (arith, c.decreases, c.length-n.ensures.is, c.length-m.ensures.is), (peel-kept-list (terms_of s.f) s.times s.budget s.found c.requires.0 (omega (arith, c.length-n.ensures.is)) c.roots_of-roots.result c.roots_of-roots.ensures.is c.in_default.is (omega (arith, c.if-roots-gt0.true)) c.peel-l.result c.peel-l.ensures d, peel-padded (terms_of s.f) s.times s.budget s.found c.requires.0 (omega (arith, c.length-n.ensures.is)) c.roots_of-roots.result c.roots_of-roots.ensures.is c.in_default.is (omega (arith, c.if-roots-gt0.true)) c.peel-l.result c.peel-l.ensures d))

pub returns-then-m-n : goal.returns-then-m-n
returns-then-m-n t c =
    let s = c.args in
    let d = peel-done (terms_of s.f) s.times s.budget s.found c.requires.0 (omega (arith, c.length-n.ensures.is)) c.roots_of-roots.result c.roots_of-roots.ensures.is c.in_default.is (omega (arith, c.if-roots-gt0.true)) c.peel-l.result c.peel-l.ensures (omega (arith, c.length-m.ensures.is)) in
    splits-rest (terms_of s.f) s.times s.budget s.found c.requires.0 (omega (arith, c.length-n.ensures.is)) c.roots_of-roots.result c.roots_of-roots.ensures.is c.in_default.is (omega (arith, c.if-roots-gt0.true)) c.peel-l.result c.peel-l.ensures d (omega (arith, c.length-n.ensures.is, c.length-m.ensures.is)) c.split.result c.split.ensures

pub returns-then-roots-gt0 : goal.returns-then-roots-gt0
returns-then-roots-gt0 t c =
    let s = c.args in
    let d = peel-done (terms_of s.f) s.times s.budget s.found c.requires.0 (omega (arith, c.length-n.ensures.is)) c.roots_of-roots.result c.roots_of-roots.ensures.is c.in_default.is (omega (arith, c.if-roots-gt0.true)) c.peel-l.result c.peel-l.ensures (omega (arith, c.length-m.ensures.is)) in
    splits-kept (terms_of s.f) s.times s.budget s.found c.requires.0 (omega (arith, c.length-n.ensures.is)) c.roots_of-roots.result c.roots_of-roots.ensures.is c.in_default.is (omega (arith, c.if-roots-gt0.true)) c.peel-l.result c.peel-l.ensures d (omega (arith, c.length-n.ensures.is, c.length-m.ensures.is)) c.add-then-roots-gt0.result c.add-then-roots-gt0.ensures

pub returns-in-Err-po : goal.returns-in-Err-po
returns-in-Err-po t c =
    let s = c.args in
    splits-pairless (terms_of s.f) s.times s.budget s.found c.requires.0 (omega (arith, c.length-n.ensures.is)) c.roots_of-roots.result c.roots_of-roots.ensures.is c.in_default.is (omega (arith, c.if-roots-gt0.false)) c.halve-p.result c.halve-p.ensures.0 _ c.in-Err-po.is c.refused-in-Err-po.result c.refused-in-Err-po.ensures.is

pub returns-then-not-p : goal.returns-then-not-p
returns-then-not-p t c =
    let s = c.args in
    splits-whole (terms_of s.f) s.times s.budget s.found c.requires.0 (omega (arith, c.length-n.ensures.is)) c.roots_of-roots.result c.roots_of-roots.ensures.is c.in_default.is (omega (arith, c.if-roots-gt0.false)) c.halve-p.result c.halve-p.ensures.0 c.in_default-po.is (not-true _ c.if-not-p.true) c.add-then-not-p.result c.add-then-not-p.ensures

pub split-a-requires : goal.split-a-requires
split-a-requires t c =
    let s = c.args in
    (omega (arith, c.decreases, first-shorter (terms_of s.f) s.times s.budget s.found c.requires.0 (omega (arith, c.length-n.ensures.is)) c.roots_of-roots.result c.roots_of-roots.ensures.is c.in_default.is (omega (arith, c.if-roots-gt0.false)) c.halve-p.result c.halve-p.ensures.0 c.in_default-po.is (not-false _ c.if-not-p.false)), (c.requires.0, c.halve-p.ensures.1.factor))

pub returns-in-Err-ao : goal.returns-in-Err-ao
returns-in-Err-ao t c =
    let s = c.args in
    splits-half (terms_of s.f) s.times s.budget s.found c.requires.0 (omega (arith, c.length-n.ensures.is)) c.roots_of-roots.result c.roots_of-roots.ensures.is c.in_default.is (omega (arith, c.if-roots-gt0.false)) c.halve-p.result c.halve-p.ensures.0 c.in_default-po.is (not-false _ c.if-not-p.false) c.split-a.result c.split-a.ensures _ c.in-Err-ao.is

pub split-requires-2 : goal.split-requires-2
split-requires-2 t c =
    let s = c.args in
    (omega (arith, c.decreases, second-shorter (terms_of s.f) s.times s.budget s.found c.requires.0 (omega (arith, c.length-n.ensures.is)) c.roots_of-roots.result c.roots_of-roots.ensures.is c.in_default.is (omega (arith, c.if-roots-gt0.false)) c.halve-p.result c.halve-p.ensures.0 c.in_default-po.is (not-false _ c.if-not-p.false)), (half-kept (terms_of s.f) s.times s.budget s.found c.requires.0 (omega (arith, c.length-n.ensures.is)) c.roots_of-roots.result c.roots_of-roots.ensures.is c.in_default.is (omega (arith, c.if-roots-gt0.false)) c.halve-p.result c.halve-p.ensures.0 c.in_default-po.is (not-false _ c.if-not-p.false) c.split-a.result c.split-a.ensures c.in_default-ao.is, c.halve-p.ensures.1.quotient))

pub returns : goal.returns
returns t c =
    let s = c.args in
    splits-both (terms_of s.f) s.times s.budget s.found c.requires.0 (omega (arith, c.length-n.ensures.is)) c.roots_of-roots.result c.roots_of-roots.ensures.is c.in_default.is (omega (arith, c.if-roots-gt0.false)) c.halve-p.result c.halve-p.ensures.0 c.in_default-po.is (not-false _ c.if-not-p.false) c.split-a.result c.split-a.ensures c.in_default-ao.is c.split-2.result c.split-2.ensures

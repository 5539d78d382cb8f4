use Rattle.std.proofs.Common.{◌≡◌, true, Ok, Err, ap, ap₂, ◌∙◌, rules}
use Rattle.ratio.specs.Step.{is_fraction, lowest}
use Rattle.ratio.proofs.Fractions.{fraction-of, product-fraction, got-mul, got-add, missed-mul, missed-add}
use Rattle.ratio.proofs.Models.{add-no-upper, add-no-lower, add-yes}
use Rattle.std.proofs.lemmas.Result.{err_from_is_err_and}
use Rattle.ratio.proofs.add_any.Goals as goal

pub returns-in_err-n : goal.returns-in_err-n
returns-in_err-n c =
    let a = c.args.a in
    let b = c.args.b in
    let ta : is_fraction a ≡ true = search rules in
    let tb : is_fraction b ≡ true = search rules in
    let fa = fraction-of a ta in
    let fb = fraction-of b tb in
    let l = got-mul a.num b.den _ fa.num-within fb.den-within c.in_ok-left.ensures in
    let r = got-mul b.num a.den _ fb.num-within fa.den-within c.in_ok-right.ensures in
    let e = missed-add _ _ _ _ _ l r c.in_err-n.ensures in
    let p = err_from_is_err_and c.from_residual-in_err-n.result c.from_residual-in_err-n.ensures.1 in
    p.1 ∙ ap Err (p.2 ∙ e.1) ∙ add-no-upper a b ta tb l.test r.test e.0

pub returns-in_err-d : goal.returns-in_err-d
returns-in_err-d c =
    let a = c.args.a in
    let b = c.args.b in
    let ta : is_fraction a ≡ true = search rules in
    let tb : is_fraction b ≡ true = search rules in
    let fa = fraction-of a ta in
    let fb = fraction-of b tb in
    let l = got-mul a.num b.den _ fa.num-within fb.den-within c.in_ok-left.ensures in
    let r = got-mul b.num a.den _ fb.num-within fa.den-within c.in_ok-right.ensures in
    let n = got-add _ _ _ _ _ l r c.in_ok-n.ensures in
    let e = missed-mul a.den b.den _ fa.den-within fb.den-within c.in_err-d.ensures in
    let p = err_from_is_err_and c.from_residual-in_err-d.result c.from_residual-in_err-d.ensures.1 in
    p.1 ∙ ap Err (p.2 ∙ e.1) ∙ add-no-lower a b ta tb l.test r.test n.test e.0

pub reduce-requires : goal.reduce-requires
reduce-requires c =
    let a = c.args.a in
    let b = c.args.b in
    let fa = fraction-of a (search rules) in
    let fb = fraction-of b (search rules) in
    let l = got-mul a.num b.den _ fa.num-within fb.den-within c.in_ok-left.ensures in
    let r = got-mul b.num a.den _ fb.num-within fa.den-within c.in_ok-right.ensures in
    let n = got-add _ _ _ _ _ l r c.in_ok-n.ensures in
    let d = got-mul a.den b.den _ fa.den-within fb.den-within c.in_ok-d.ensures in
    rw (n.read, d.read) (product-fraction a b _ fa fb n.fit d.fit)

pub returns : goal.returns
returns c =
    let a = c.args.a in
    let b = c.args.b in
    let ta : is_fraction a ≡ true = search rules in
    let tb : is_fraction b ≡ true = search rules in
    let fa = fraction-of a ta in
    let fb = fraction-of b tb in
    let l = got-mul a.num b.den _ fa.num-within fb.den-within c.in_ok-left.ensures in
    let r = got-mul b.num a.den _ fb.num-within fa.den-within c.in_ok-right.ensures in
    let n = got-add _ _ _ _ _ l r c.in_ok-n.ensures in
    let d = got-mul a.den b.den _ fa.den-within fb.den-within c.in_ok-d.ensures in
    ap Ok (c.reduce.ensures ∙ ap₂ lowest n.read d.read) ∙ add-yes _ _ ta tb l.test r.test n.test d.test

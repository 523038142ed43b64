use Rattle.std.proofs.Common.{false, subst, sym, arith}
use Rattle.std.specs.Fn.{FnReturnsAt}
use Rattle.std.specs.List.{AllByRecursion}
use Rattle.std.proofs.lemmas.Bool.{or_parts}
use Rattle.tail.proofs.Thresholds.{fails_at, gone_more, first_four, before_wanted}
use Rattle.tail.proofs.keeper.skip_to.Goals as goal

pub returns-then-x-y : goal.returns-then-x-y
returns-then-x-y g c =
    let rest = c.loop-rest.rest.now in
    let x = c.x-item.result in
    let y = c.y-item.result in
    let z = c.z-item.result in
    let last = c.last-item.result in
    let n = c.failed.result in
    let four = first_four rest x y z last c.in-len4-up.len_at_least c.x-item.is c.y-item.is c.z-item.is c.last-item.is in
    let fail =
    before_wanted (λ e. FnReturnsAt g.F.Fn c.args.wanted e false) rest x y z last c.wanted-x.result c.wanted-y.result c.wanted-z.result n c.failed.ensures four
    (fails_at g.F.Fn c.args.wanted _ c.wanted-x.result c.wanted-x.ensures)
    (fails_at g.F.Fn c.args.wanted _ c.wanted-y.result c.wanted-y.ensures)
    (fails_at g.F.Fn c.args.wanted _ c.wanted-z.result c.wanted-z.ensures) in
    gone_more (λ e. FnReturnsAt g.F.Fn c.args.wanted e false) c.args.entries.now rest n (omega (arith, fail.0, c.in-len4-up.len_at_least)) fail.1 c.loop-rest.invariant

pub loop-rest-preserved : goal.loop-rest-preserved
loop-rest-preserved g c =
    let rest = c.loop-rest.rest.now in
    let four = first_four rest c.x-item.result c.y-item.result c.z-item.result c.last-item.result c.in-len4-up.len_at_least c.x-item.is c.y-item.is c.z-item.is c.last-item.is in
    let three = or_parts _ _ c.if-x-y.false in
    let two = or_parts _ _ three.0 in
    let one = or_parts _ _ two.0 in
    let first = fails_at g.F.Fn c.args.wanted _ c.wanted-x.result c.wanted-x.ensures one.0 in
    let second = fails_at g.F.Fn c.args.wanted _ c.wanted-y.result c.wanted-y.ensures one.1 in
    let third = fails_at g.F.Fn c.args.wanted _ c.wanted-z.result c.wanted-z.ensures two.1 in
    let fourth = fails_at g.F.Fn c.args.wanted _ c.wanted-last.result c.wanted-last.ensures three.1 in
    let fail = subst (AllByRecursion (λ e. FnReturnsAt g.F.Fn c.args.wanted e false)) (sym four) (first, (second, (third, (fourth, tt)))) in
    gone_more (λ e. FnReturnsAt g.F.Fn c.args.wanted e false) c.args.entries.now rest 4 c.in-len4-up.len_at_least fail c.loop-rest.invariant

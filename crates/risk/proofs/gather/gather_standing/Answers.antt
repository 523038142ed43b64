use Rattle.std.proofs.Common.{◌≡◌, ◌≤◌, length, take, filter, ap, ◌∙◌, arith, take_all}
use Rattle.tables.specs.Limits.{trades_stand}
use Rattle.risk.specs.Groups.{in_group, group_trades}
use Rattle.risk.proofs.Apart.{standing, group_stands}
use Rattle.risk.proofs.gather.gather_standing.Goals as goal

pub returns : goal.returns
unfolding group_trades
returns c =
    let kept = filter (in_group c.args.grouping c.args.day c.args.key) in
    let rows = c.rows-trade-items.result.now in
    let stand = c.rows-trade-items.ensures.keeps in
    let few = (standing rows stand).few in
    let is : take c.loop-trade.count c.loop-trade.room ≡ kept rows = c.loop-trade.invariant.2 ∙ ap kept (take_all _ _ c.loop-trade-test.false) in
    record {
      within = omega (arith, few, c.loop-trade.invariant.0, c.loop-trade.invariant.1);
      stand = ap trades_stand is ∙ group_stands c.args.grouping c.args.day c.args.key rows stand;
      value = is ∙ ap kept c.rows-trade-items.ensures.value;
    }

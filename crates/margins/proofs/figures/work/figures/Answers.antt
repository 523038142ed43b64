use Rattle.std.proofs.Common.{arith}
use Rattle.tables.proofs.Facts.{held}
use Rattle.market.proofs.Facts.{orderly}
use Rattle.margins.proofs.Bounds.{families_within}
use Rattle.margins.proofs.figures.work.figures.Goals as goal

pub securities_value-securities-requires-clause-securities : goal.securities_value-securities-requires-clause-securities
securities_value-securities-requires-clause-securities g c = (orderly c.state.result.now c.state.ensures.keeps).priced

pub securities_value-securities-requires-clause-lots : goal.securities_value-securities-requires-clause-lots
securities_value-securities-requires-clause-lots g c = (held c.row-row.result c.row-row.ensures.keeps).lots

pub overflow_add-obligation : goal.overflow_add-obligation
overflow_add-obligation g c =
    let few = families_within c.args.market.now.state c.args.trades in
    record { fits = omega (arith, c.family-overnight.ensures.obligation, c.family-forward.ensures.obligation) }

pub overflow_add-available : goal.overflow_add-available
overflow_add-available g c =
    let few = families_within c.args.market.now.state c.args.trades in
    record { fits = omega (arith, c.family-overnight.ensures.credit, c.family-forward.ensures.credit) }

pub overflow_add-available-2 : goal.overflow_add-available-2
overflow_add-available-2 g c =
    let few = families_within c.args.market.now.state c.args.trades in
    let cash = (held c.row-row.result c.row-row.ensures.keeps).cash in
    record { fits = omega (arith, cash, c.family-overnight.ensures.credit, c.family-forward.ensures.credit, c.securities_value-securities.ensures.bound) }

pub returns-clause-obligation : goal.returns-clause-obligation
returns-clause-obligation g c =
    let few = families_within c.args.market.now.state c.args.trades in
    omega (arith, c.family-overnight.ensures.obligation, c.family-forward.ensures.obligation)

pub returns-clause-available : goal.returns-clause-available
returns-clause-available g c =
    let few = families_within c.args.market.now.state c.args.trades in
    let cash = (held c.row-row.result c.row-row.ensures.keeps).cash in
    omega (arith, cash, c.family-overnight.ensures.credit, c.family-forward.ensures.credit, c.securities_value-securities.ensures.bound)

pub returns-clause-shortfall : goal.returns-clause-shortfall
returns-clause-shortfall g c =
    let few = families_within c.args.market.now.state c.args.trades in
    omega (arith, c.saturating_sub.ensures, c.family-overnight.ensures.obligation, c.family-forward.ensures.obligation)

use Rattle.std.proofs.Common.{length}
use Rattle.market.specs.Days.{residual_of}
use Rattle.risk.proofs.Rows.{row_small}
use Rattle.risk.proofs.quotes.Quotes.signed_changes.Goals as goal

pub write_negated-requires-clause-small : goal.write_negated-requires-clause-small
write_negated-requires-clause-small g c =
    let q = c.args.self.now in
    let t = c.args.trade.now in
    row_small (g.M.MarginModel.meaning q.model.now) q.day.set t.benchmark (residual_of q.day t) (length c.args.room.now) (g.M.MarginModel.lawful q.model.now) _ c.in-Some.ensures

pub negate-requires : goal.negate-requires
negate-requires g c =
    let q = c.args.self.now in
    let t = c.args.trade.now in
    row_small (g.M.MarginModel.meaning q.model.now) q.day.set t.benchmark (residual_of q.day t) (length c.args.room.now) (g.M.MarginModel.lawful q.model.now) _ c.in-None.ensures

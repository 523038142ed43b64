use Rattle.std.proofs.Common.{◌<◌, length, get_or, pos, arith}
use Rattle.risk.proofs.Apart.{standing}
use Rattle.risk.proofs.Adds.{losses_small, loss_more}
use Rattle.risk.proofs.quotes.Quotes.add_group.Goals as goal

pub add_legs-requires-clause-small : goal.add_legs-requires-clause-small
add_legs-requires-clause-small g c =
    let q = c.args.self.now in
    let ts = c.rows-trade-items.result.now in
    losses_small (g.M.MarginModel.meaning q.model.now) q.day ts c.loop-trade.losses c.args.losses.now c.loop-trade.trade-index (g.M.MarginModel.lawful q.model.now) (standing ts c.rows-trade-items.ensures.keeps).each c.loop-trade-test.true
    (λ j. simp c.rows-trade-items.ensures.value (c.requires.small j)) c.loop-trade.invariant.1

pub loop-trade-preserved : goal.loop-trade-preserved
loop-trade-preserved g c =
    let m = g.M.MarginModel.meaning c.args.self.now.model.now in
    let day = c.args.self.now.day in
    let ts = c.rows-trade-items.result.now in
    let i = c.loop-trade.trade-index in (
      omega arith,
      λ j h.
          let lt : j < length c.loop-trade.losses = omega (arith, c.add_legs.auto.losses) in
          loss_more m day ts c.loop-trade.losses i j c.new.result.row.now (get_or c.args.losses.now j (pos 0)) (get_or c.loop-trade.losses j (pos 0)) (get_or c.add_legs.new.losses j (pos 0)) c.loop-trade-test.true c.new.ensures
          (c.loop-trade.invariant.1 j lt) (c.add_legs.ensures j lt),
    )

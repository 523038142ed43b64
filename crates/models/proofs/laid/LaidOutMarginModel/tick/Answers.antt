use Rattle.std.proofs.Common.{arith}
use Rattle.models.proofs.Held.{ticks_held}
use Rattle.models.proofs.laid.LaidOutMarginModel.tick.Goals as goal

pub number-requires-clause-sizes : goal.number-requires-clause-sizes
number-requires-clause-sizes g c =
    let held = ticks_held g.L.Layout.LIMIT c.lend-numbers.result _ c.lend-numbers.ensures c.args.self.now.sound.ok.2 in
    λ k. omega (arith, held k)

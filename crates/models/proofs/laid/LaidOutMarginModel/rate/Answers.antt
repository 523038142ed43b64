use Rattle.models.proofs.Held.{rates_held}
use Rattle.models.proofs.laid.LaidOutMarginModel.rate.Goals as goal

pub number-requires-clause-sizes : goal.number-requires-clause-sizes
number-requires-clause-sizes g c = rates_held g.L.Layout.LIMIT c.lend-numbers.result _ c.lend-numbers.ensures c.args.self.now.sound.ok.2

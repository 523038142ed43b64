use Rattle.std.proofs.Common.{◌≤◌, arith, rules}
use Rattle.models.specs.Lent.{lent}
use Rattle.models.specs.SoundLaws.{tick_bound, change_bound}
use Rattle.knots.specs.KnotTableLaws.{number_most}
use Rattle.knots.proofs.model.KnotLayoutLayout.changes.Goals as goal

pub number-tick-requires-clause-sizes : goal.number-tick-requires-clause-sizes
number-tick-requires-clause-sizes c = λ k. omega (arith, tick_bound 20000 (lent c.args.numbers) c.requires.sound.2 k)

pub changes-requires-clause-tick : goal.changes-requires-clause-tick
changes-requires-clause-tick c =
    let few : c.args.residual ≤ 120 = search rules in
    rw c.number-tick.ensures (number_most _ _ _ 100000 (tick_bound 20000 (lent c.args.numbers) c.requires.sound.2) few)

pub changes-requires-clause-sizes : goal.changes-requires-clause-sizes
changes-requires-clause-sizes c = change_bound 20000 (lent c.args.numbers) c.requires.sound.2

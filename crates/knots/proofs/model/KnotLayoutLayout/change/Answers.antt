use Rattle.std.proofs.Common.{◌≤◌, nat_abs, arith, rules}
use Rattle.models.specs.Lent.{lent}
use Rattle.models.specs.SoundLaws.{tick_bound, change_bound}
use Rattle.knots.specs.KnotTableLaws.{number_most, shock_most}
use Rattle.knots.proofs.Casts.{same}
use Rattle.knots.proofs.model.KnotLayoutLayout.change.Goals as goal

pub number-tick-requires-clause-sizes : goal.number-tick-requires-clause-sizes
number-tick-requires-clause-sizes c = λ k. omega (arith, tick_bound 20000 (lent c.args.numbers) c.requires.sound.2 k)

pub shock-moved-requires-clause-sizes : goal.shock-moved-requires-clause-sizes
shock-moved-requires-clause-sizes c = change_bound 20000 (lent c.args.numbers) c.requires.sound.2

pub change_of-requires : goal.change_of-requires
change_of-requires c =
    let few : c.args.residual ≤ 120 = search rules in
    let size : nat_abs c.shock-moved.result ≤ 20000 = rw c.shock-moved.ensures (shock_most _ _ _ _ _ (change_bound 20000 (lent c.args.numbers) c.requires.sound.2) few) in
    let back = same c.shock-moved.result (omega arith) in
    (rw c.number-tick.ensures.value (number_most _ _ _ 100000 (tick_bound 20000 (lent c.args.numbers) c.requires.sound.2) few), simp back size)

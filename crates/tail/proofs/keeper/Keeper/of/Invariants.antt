use Rattle.std.proofs.Common.{◌≡◌, length}
use Rattle.tail.proofs.Thresholds.{Kept}
use Rattle.tail.proofs.keeper.Keeper.of.Given as goal

abbrev pub invariant-loop-bar : goal.invariant-loop-bar
invariant-loop-bar g l =
    (l.keeper.places.ghost_name ≡ l.initial.keeper.places.ghost_name)
    × (length l.keeper.places.now ≡ length l.initial.keeper.places.now)
    × Kept g.T.Ranked.reaches l.bar l.entries l.left l.keeper.filled l.keeper.places.now

abbrev pub decreases-loop-bar : goal.decreases-loop-bar
decreases-loop-bar g l = length l.left

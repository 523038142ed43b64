use Rattle.tail.proofs.Places.{Carried}
use Rattle.tail.proofs.keeper.carry.Given as goal

abbrev pub invariant-loop-place : goal.invariant-loop-place
invariant-loop-place g l = Carried g.T.Ranked.reaches l.item l.initial.place-items l.place-items l.place-index l.is_below l.carried

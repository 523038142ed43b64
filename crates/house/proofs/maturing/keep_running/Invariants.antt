use Rattle.std.proofs.lemmas.List.Filters.{FiltersInPlace}
use Rattle.rules.specs.MarketCalls.{running}
use Rattle.house.proofs.maturing.keep_running.Given as goal

abbrev pub invariant-loop-i : goal.invariant-loop-i
invariant-loop-i l = FiltersInPlace (running l.month) l.initial.trades l.trades l.running l.i

use Rattle.std.proofs.Common.{◌≡◌, ℕ, ◌≤◌, true, take, drop}
use Rattle.tables.specs.Limits.{tables_keep}
use Rattle.rules.specs.Stands.{standing}
use Rattle.isolation.specs.Runs.{run, replies}
use Rattle.engine.specs.Promises.{HeldBy}
use Rattle.engine.proofs.replay.play_events.Given as goal

abbrev pub invariant-loop-i : goal.invariant-loop-i
invariant-loop-i g l =
    (l.house.accounts ≡ l.initial.house.accounts)
    × (tables_keep l.house.accounts l.records l.trades ≡ true)
    × (standing l.house.market.state l.records l.trades ≡ run (g.M.MarginModel.meaning l.model) (standing l.initial.house.market.state l.initial.records l.initial.trades) (take l.i (take l.count l.events)))
    × (take l.i l.answers ≡ replies (g.M.MarginModel.meaning l.model) (standing l.initial.house.market.state l.initial.records l.initial.trades) (take l.i (take l.count l.events)))
    × (drop l.i l.answers ≡ drop l.i l.initial.answers)
    × ((j : ℕ) → j ≤ l.i → HeldBy l.initial.house.accounts (run (g.M.MarginModel.meaning l.model) (standing l.initial.house.market.state l.initial.records l.initial.trades) (take j (take l.count l.events))))

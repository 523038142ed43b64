use Rattle.std.proofs.Common.{◌≡◌, take, drop}
use Rattle.rules.specs.Runs.{lent_run, answers_run}
use Rattle.house.proofs.listing.answer_all.Given as goal

abbrev pub invariant-loop-i : goal.invariant-loop-i
invariant-loop-i g l =
    (l.records ≡ (lent_run (g.M.MarginModel.meaning l.model) l.house.market.state l.house.accounts (l.initial.records, l.initial.trades) (take l.i (take l.count l.calls))).0)
    × (l.trades ≡ (lent_run (g.M.MarginModel.meaning l.model) l.house.market.state l.house.accounts (l.initial.records, l.initial.trades) (take l.i (take l.count l.calls))).1)
    × (take l.i l.answers ≡ answers_run (g.M.MarginModel.meaning l.model) l.house.market.state l.house.accounts (l.initial.records, l.initial.trades) (take l.i (take l.count l.calls)))
    × (drop l.i l.answers ≡ drop l.i l.initial.answers)

use Rattle.std.proofs.Common.{◌≡◌, ◌-◌, ◌≤◌, true, ◌∷◌, ◌++◌, map, get_or, take, drop}
use Rattle.tables.specs.Books.{books_of, no_book}
use Rattle.tables.specs.Limits.{tables_keep}
use Rattle.rules.specs.Settling.{settled}
use Rattle.house.proofs.settle.settle_constituents.Given as goal

abbrev pub invariant-loop-i : goal.invariant-loop-i
invariant-loop-i g l =
    (tables_keep l.house.accounts l.records l.trades ≡ true)
    × (1 ≤ l.i)
    × (books_of l.records l.trades
    ≡ (get_or (books_of l.initial.records l.trades) 0 no_book
    ∷ (map (settled (g.M.MarginModel.meaning l.model) l.house.market.state 0) (take (l.i - 1) (drop 1 (books_of l.initial.records l.trades)))
    ++ drop (l.i - 1) (drop 1 (books_of l.initial.records l.trades)))))

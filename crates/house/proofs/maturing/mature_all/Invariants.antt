use Rattle.std.proofs.Common.{◌≡◌, true, ◌++◌, map, take, drop}
use Rattle.tables.specs.Books.{books_of}
use Rattle.tables.specs.Limits.{tables_keep}
use Rattle.rules.specs.MarketCalls.{matured_out}
use Rattle.house.proofs.maturing.mature_all.Given as goal

abbrev pub invariant-loop-i : goal.invariant-loop-i
invariant-loop-i l =
    (tables_keep l.house.accounts l.records l.trades ≡ true)
    × (books_of l.records l.trades ≡ map (matured_out l.month) (take l.i (books_of l.initial.records l.initial.trades)) ++ drop l.i (books_of l.initial.records l.initial.trades))

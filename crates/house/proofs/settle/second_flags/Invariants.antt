use Rattle.std.proofs.Common.{◌≡◌, ◌++◌, map, take, drop}
use Rattle.rules.specs.Settling.{row_reflagged}
use Rattle.house.proofs.settle.second_flags.Given as goal

abbrev pub invariant-loop-row : goal.invariant-loop-row
invariant-loop-row l = l.rows ≡ map (row_reflagged l.restricted) (take l.row-index l.initial.rows) ++ drop l.row-index l.initial.rows

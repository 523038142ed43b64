-- Concentration levels, and what volatility and concentration charge.
-- level_of: the level after a value v and a published average a are known. levels_of: both levels of a family.
-- level_percent: what a level charges. concentration_of, volatility_of: the charges on a family's initial margin.
use Rattle.std.specs.Prelude.{ℕ, ◌*◌, max, ◌&&◌, Some, None, Option, ◌==◌, nat_le, nat_lt, if◌then◌else◌}
use Rattle.tables.specs.Numbers.{rounded_up}
use Rattle.tables.specs.declared.row.Levels.{Levels}
use Rattle.market.specs.declared.state.Averages.{Averages}

abbrev pub level_of : ℕ → ℕ → ℕ → ℕ
level_of l v a =
    if nat_lt (15 * a) (100 * v) then 2
    else (if l == 2 && nat_le (13 * a) (100 * v) then 2
    else (if nat_le 1 l then (if nat_le (6 * a) (100 * v) then 1 else 0) else (if nat_lt (8 * a) (100 * v) then 1 else 0)))

-- before the first averages both are 0
abbrev pub levels_of : Option Averages → Levels → ℕ → ℕ → Levels
levels_of None l v g = record { initial = 0; gross = 0 }
levels_of (Some a) l v g = record { initial = level_of l.initial v a.initial; gross = level_of l.gross g a.gross }

abbrev pub level_percent : ℕ → ℕ
level_percent l = if l == 2 then 20 else (if l == 1 then 15 else 0)

-- the higher level charges
abbrev pub concentration_of : ℕ → Levels → ℕ
concentration_of v l = rounded_up (v * level_percent (max l.initial l.gross)) 100

-- in tenths of a per cent
abbrev pub volatility_of : ℕ → ℕ → ℕ
volatility_of v t = rounded_up (v * t) 1000

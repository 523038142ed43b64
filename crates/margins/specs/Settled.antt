-- What is settled again at the same values stays.
-- LevelSettles, OwnSettles, SecondSettles: a level and the two flags. with_levels: a record with these levels. FiguresSettle: all figures of an account.
use Rattle.std.specs.Prelude.{◌≡◌, ℕ, Bool, List}
use Rattle.models.specs.Meaning.{Meaning}
use Rattle.tables.specs.declared.row.AccountRow.{AccountRow}
use Rattle.tables.specs.declared.row.Levels.{Levels}
use Rattle.tables.specs.declared.row.TradeRow.{TradeRow}
use Rattle.market.specs.declared.state.MarketState.{MarketState}
use Rattle.margins.specs.Charges.{level_of}
use Rattle.margins.specs.Figures.{figures_of}
use Rattle.margins.specs.Flags.{own_after, second_after}

abbrev pub LevelSettles : Type 0
LevelSettles = (l v a : ℕ) → level_of (level_of l v a) v a ≡ level_of l v a

abbrev pub OwnSettles : Type 0
OwnSettles = (was : Bool) (o a : ℕ) → own_after (own_after was o a) o a ≡ own_after was o a

abbrev pub SecondSettles : Type 0
SecondSettles = (restricted was : Bool) (o a : ℕ) → second_after restricted (second_after restricted was o a) o a ≡ second_after restricted was o a

abbrev pub with_levels : AccountRow → Levels → Levels → AccountRow
with_levels r f g = record {
  cash = r.cash;
  obligation = r.obligation;
  available = r.available;
  shortfall = r.shortfall;
  lots = r.lots;
  overnight = f;
  forward = g;
  trades = r.trades;
  own = r.own;
  second = r.second;
}

abbrev pub FiguresSettle : Type 0
FiguresSettle = (m : Meaning) (k : MarketState) (r : AccountRow) (ts : List TradeRow) → figures_of m k (with_levels r (figures_of m k r ts).overnight.levels (figures_of m k r ts).forward.levels) ts ≡ figures_of m k r ts

-- Standing trades, and how they are put into groups.
-- TradeFits, Standing: trades within their limits, at most 64.
-- key_of: the group of a trade, by residual, by half-year bucket or by benchmark. groups_of: how many groups there are.
-- in_group, group_trades: the trades of one group, in their order.
-- alike, all_alike: trades of one benchmark and residual, which the code nets; no rule goes by them.
-- LoneTrade: the first of trades that are all alike.
use Rattle.std.specs.Prelude.{◌≡◌, ℕ, ◌/◌, ◌<◌, ◌≤◌, min, Bool, true, List, All, length, filter, slice_index_or, ◌==◌, ◌&&◌}
use Rattle.std.specs.List.{list_all}
use Rattle.tables.specs.Limits.{no_trade}
use Rattle.tables.specs.declared.row.TradeRow.{TradeRow}
use Rattle.market.specs.declared.day.Day.{Day}
use Rattle.market.specs.Days.{residual_of}
use Rattle.risk.specs.declared.grouping.Grouping.{Grouping}
use Rattle.risk.specs.declared.grouping.Grouping.TheVariants.{ByResidual, ByHalfYear, ByBenchmark}

abbrev pub TradeFits : TradeRow → Type 0
TradeFits t = (t.notional ≤ 1000000) × (t.rate ≤ 200000)

pub record Standing (ts : List TradeRow) : Type 0 where
  pub few : length ts ≤ 64
  pub each : All TradeFits ts

-- residual 120 joins the last of the twenty half-year buckets
abbrev pub key_of : Grouping → Day → TradeRow → ℕ
key_of ByResidual d t = residual_of d t
key_of ByHalfYear d t = min (residual_of d t / 6) 19
key_of ByBenchmark d t = t.benchmark

abbrev pub groups_of : Grouping → ℕ
groups_of ByResidual = 121
groups_of ByHalfYear = 20
groups_of ByBenchmark = 4

abbrev pub in_group : Grouping → Day → ℕ → TradeRow → Bool
in_group g d k t = key_of g d t == k

unfoldable pub group_trades : Grouping → Day → ℕ → List TradeRow → List TradeRow
group_trades g d k ts = filter (in_group g d k) ts

abbrev pub alike : Day → TradeRow → TradeRow → Bool
alike d f t = (t.benchmark == f.benchmark) && (residual_of d t == residual_of d f)

abbrev pub all_alike : Day → TradeRow → List TradeRow → Bool
all_alike d f ts = list_all (alike d f) ts

-- f is the first of the trades, and all of them are alike
abbrev pub LoneTrade : Day → TradeRow → List TradeRow → Type 0
LoneTrade d f ts = (0 < length ts) × (f ≡ slice_index_or ts 0 no_trade) × (all_alike d f ts ≡ true)

-- How many trades the benchmarks of a family, and of both families, have; and how large the notionals are together.
use Rattle.std.proofs.Common.{◌≡◌, ◌+◌, ◌*◌, ◌≤◌, true, List, length, arith}
use Rattle.std.proofs.lemmas.List.Elements.{All-weaker}
use Rattle.std.proofs.lemmas.List.Sums.{sum_by-le}
use Rattle.tables.specs.Codes.{first_benchmark, second_benchmark}
use Rattle.tables.specs.declared.codes.Family.{Family}
use Rattle.tables.specs.declared.codes.Family.TheVariants.{Overnight, Forward}
use Rattle.tables.specs.declared.row.TradeRow.{TradeRow}
use Rattle.tables.specs.declared.standing.StandingTrades.{StandingTrades}
use Rattle.tables.specs.Limits.{trades_stand}
use Rattle.market.specs.declared.state.MarketState.{MarketState}
use Rattle.risk.specs.Groups.{TradeFits}
use Rattle.risk.proofs.Apart.{benchmarks_few, standing}
use Rattle.margins.specs.Figures.{gross_of, many}

pub family_few : (k : MarketState) (f : Family) (ts : List TradeRow) → many k (first_benchmark f) ts + many k (second_benchmark f) ts ≤ length ts
family_few k Overnight ts = omega (arith, benchmarks_few k.day ts)
family_few k Forward ts = omega (arith, benchmarks_few k.day ts)

pub families_few : (k : MarketState) (ts : List TradeRow) → (many k (first_benchmark Overnight) ts + many k (second_benchmark Overnight) ts) + (many k (first_benchmark Forward) ts + many k (second_benchmark Forward) ts) ≤ length ts
families_few k ts = omega (arith, benchmarks_few k.day ts)

-- of standing trades, and so at most 64
pub family_within : (k : MarketState) (f : Family) (s : StandingTrades) → many k (first_benchmark f) s.trades.now + many k (second_benchmark f) s.trades.now ≤ 64
family_within k f s = omega (arith, family_few k f s.trades.now, (standing s.trades.now s.stand).few)

pub families_within : (k : MarketState) (s : StandingTrades) → (many k (first_benchmark Overnight) s.trades.now + many k (second_benchmark Overnight) s.trades.now) + (many k (first_benchmark Forward) s.trades.now + many k (second_benchmark Forward) s.trades.now) ≤ 64
families_within k s = omega (arith, families_few k s.trades.now, (standing s.trades.now s.stand).few)

pub gross_most : (ts : List TradeRow) → trades_stand ts ≡ true → gross_of ts ≤ 1000000 * length ts
unfolding gross_of
gross_most ts stand =
    let each = All-weaker TradeFits (λ (t : TradeRow). t.notional ≤ 1000000) (λ t fit. fit.0) ts (standing ts stand).each in
    omega (arith, sum_by-le (λ (t : TradeRow). t.notional) 1000000 ts each)

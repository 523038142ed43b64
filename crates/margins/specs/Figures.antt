-- The figures of one account.
-- gross_of: the sum of notionals. benchmark_of: what the trades of one benchmark come to. part_of: of an account's trades.
-- both_initial: the initial margin of a family. family_at, family_from, family_of: what a family comes to at levels, as they settle, and of an account's trades.
-- securities_of: what the lots of the 32 securities count for. figures_from, figures_of: what the account comes to.
-- many: how many trades of a benchmark there are. Bounded: what trades of one benchmark come to at most.
use Rattle.std.specs.Prelude.{ℕ, ◌+◌, ◌-◌, ◌*◌, ◌≤◌, List, length, sum_by, slice_index, slice_index_or}
use Rattle.models.specs.Meaning.{Meaning}
use Rattle.tables.specs.Codes.{benchmark_code, first_benchmark, second_benchmark}
use Rattle.tables.specs.Collateral.{lots_value}
use Rattle.tables.specs.Limits.{no_security}
use Rattle.tables.specs.Numbers.{sum_below}
use Rattle.tables.specs.declared.codes.Benchmark.{Benchmark}
use Rattle.tables.specs.declared.codes.Family.{Family}
use Rattle.tables.specs.declared.codes.Family.TheVariants.{Overnight, Forward}
use Rattle.tables.specs.declared.row.AccountRow.{AccountRow}
use Rattle.tables.specs.declared.row.Levels.{Levels}
use Rattle.tables.specs.declared.row.SecurityRow.{SecurityRow}
use Rattle.tables.specs.declared.row.TradeRow.{TradeRow}
use Rattle.market.specs.declared.state.FamilyState.{FamilyState}
use Rattle.market.specs.declared.state.MarketState.{MarketState}
use Rattle.market.specs.States.{family_state}
use Rattle.risk.specs.declared.grouping.Grouping.TheVariants.{ByBenchmark}
use Rattle.risk.specs.Groups.{group_trades}
use Rattle.risk.specs.Initial.{risk_of}
use Rattle.risk.specs.Signs.{lost_of}
use Rattle.margins.specs.declared.figures.BenchmarkFigures.{BenchmarkFigures}
use Rattle.margins.specs.declared.figures.FamilyFigures.{FamilyFigures}
use Rattle.margins.specs.declared.figures.Figures.{Figures}
use Rattle.margins.specs.Marks.{marks_of, credit_of}
use Rattle.margins.specs.Charges.{levels_of, concentration_of, volatility_of}

unfoldable pub gross_of : List TradeRow → ℕ
gross_of ts = sum_by (λ t. t.notional) ts

-- of the trades of one benchmark
unfoldable pub benchmark_of : Meaning → MarketState → List TradeRow → BenchmarkFigures
benchmark_of m k ts = record {
  trades = length ts;
  gross = gross_of ts;
  risk = risk_of m k.day k.percent ts;
  mark = marks_of m k.day ts;
  loss = lost_of (marks_of m k.day ts);
  credit = credit_of (marks_of m k.day ts);
}

unfoldable pub part_of : Meaning → MarketState → Benchmark → List TradeRow → BenchmarkFigures
part_of m k b ts = benchmark_of m k (group_trades ByBenchmark k.day (benchmark_code b) ts)

abbrev pub both_initial : BenchmarkFigures → BenchmarkFigures → ℕ
both_initial p q = p.risk.initial + q.risk.initial

-- with the levels n that the family has then
abbrev pub family_at : FamilyState → Levels → BenchmarkFigures → BenchmarkFigures → FamilyFigures
family_at s n p q = record {
  first = p;
  second = q;
  initial = both_initial p q;
  gross = p.gross + q.gross;
  levels = n;
  volatility = volatility_of (both_initial p q) s.volatility;
  concentration = concentration_of (both_initial p q) n;
  obligation = both_initial p q + (p.loss + q.loss) + volatility_of (both_initial p q) s.volatility + concentration_of (both_initial p q) n;
  credit = p.credit + q.credit;
}

abbrev pub family_from : FamilyState → Levels → BenchmarkFigures → BenchmarkFigures → FamilyFigures
family_from s l p q = family_at s (levels_of s.averages l (both_initial p q) (p.gross + q.gross)) p q

unfoldable pub family_of : Meaning → MarketState → Family → Levels → List TradeRow → FamilyFigures
family_of m k f l ts = family_from (family_state k f) l (part_of m k (first_benchmark f) ts) (part_of m k (second_benchmark f) ts)

unfoldable pub securities_of : List ℕ → List SecurityRow → ℕ
securities_of ls ss = sum_below (λ i. lots_value (slice_index ls i) (slice_index_or ss i no_security)) 32

abbrev pub figures_from : ℕ → ℕ → FamilyFigures → FamilyFigures → Figures
figures_from cash securities f g = record {
  overnight = f;
  forward = g;
  securities = securities;
  collateral = cash + securities;
  obligation = f.obligation + g.obligation;
  available = cash + securities + (f.credit + g.credit);
  shortfall = (f.obligation + g.obligation) - (cash + securities + (f.credit + g.credit));
}

-- of an account with that record and those standing trades; without the cover that a house carries
unfoldable pub figures_of : Meaning → MarketState → AccountRow → List TradeRow → Figures
figures_of m k r ts =
    figures_from r.cash (securities_of r.lots k.securities)
    (family_of m k Overnight r.overnight ts)
    (family_of m k Forward r.forward ts)

abbrev pub many : MarketState → Benchmark → List TradeRow → ℕ
many k b ts = length (group_trades ByBenchmark k.day (benchmark_code b) ts)

-- what n trades of one benchmark come to at most
pub record Bounded (p : BenchmarkFigures) (n : ℕ) : Type 0 where
  pub initial : p.risk.initial ≤ 4800000000000 * n
  pub loss : p.loss ≤ 20000000000000 * n
  pub credit : p.credit ≤ 20000000000000 * n
  pub gross : p.gross ≤ 1000000 * n

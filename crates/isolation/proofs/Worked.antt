-- The examples, by computation.
use Rattle.std.proofs.Common.{◌≡◌, ℕ, List, length, sum_by, refl, ap, arith}
use Rattle.tables.specs.Numbers.{sum_below}
use Rattle.risk.specs.Groups.{group_trades}
use Rattle.risk.specs.Initial.{grouped_risk, minimum_of, risk_of}
use Rattle.risk.specs.Losses.{losses_of, tail_loss, var_of}
use Rattle.margins.specs.Figures.{gross_of, benchmark_of, part_of, family_of, securities_of, figures_of}
use Rattle.margins.specs.Marks.{marks_of}
use Rattle.rules.specs.declared.call.Reply.{Reply}
use Rattle.rules.specs.declared.call.Reply.TheVariants.{Account as AccountReply, Market as MarketReply}
use Rattle.rules.specs.Opening.{opened_market, empty_row}
use Rattle.rules.specs.Settling.{settled_row}
use Rattle.isolation.specs.Runs.{opened}
use Rattle.isolation.specs.Examples.{Examples}

-- answers differ where these sums do
abbrev restriction_in : Reply → ℕ
restriction_in (AccountReply a) = a.restriction
restriction_in (MarketReply a) = 0

abbrev restrictions : List Reply → ℕ
restrictions os = sum_by restriction_in os

pub examples : Examples
unfolding settled_row figures_of family_of securities_of part_of benchmark_of gross_of marks_of risk_of grouped_risk minimum_of group_trades var_of tail_loss losses_of sum_below opened_market empty_row opened
examples = record {
  told_quiet = refl;
  told_turning = refl;
  told_alike = refl;
  heard_alike = refl;
  released = refl;
  held_back = refl;
  same_calls = refl;
  told_apart = λ e. let z : ◌≡◌ {A = ℕ} 5 7 = ap length e in omega arith;
  heard_apart = λ e. let z : ◌≡◌ {A = ℕ} 4 2 = ap restrictions e in omega arith;
  told_level = refl;
  told_swelling = refl;
  told_alike_house = refl;
  heard_alike_house = refl;
  flagged = refl;
  free = refl;
  same_calls_house = refl;
  told_apart_house = λ e. let z : ◌≡◌ {A = ℕ} 3 5 = ap length e in omega arith;
  heard_apart_house = λ e. let z : ◌≡◌ {A = ℕ} 0 1 = ap restrictions e in omega arith;
}

-- The initial margin of the trades of one benchmark.
-- KnownRisks, KnownLone, GroupRisks: what an array of values at risk holds of the groups; the code keeps it, and no rule goes by it.
-- grouped_risk: the values at risk of the groups, added up (X by residual, Z by half-year bucket).
-- spread_of: the spread charge. band_rate, weight_of, minimum_of: the minimum margin.
-- stepped_up: with the step-up. initial_of: the initial margin.
-- risk_from: all of these as one record, from X, Z, Y and the minimum margin. risk_of: the same of trades.
use Rattle.std.specs.Prelude.{◌≡◌, ℕ, ◌+◌, ◌-◌, ◌*◌, max, List, Option, None, IfSome, unwrap_or, ℤ, pos, ◌*ℤ◌, nat_le, slice_index_or, unsigned_abs, if◌then◌else◌}
use Rattle.models.specs.Meaning.{Meaning}
use Rattle.tables.specs.Codes.{side_of}
use Rattle.tables.specs.Numbers.{sum_below, rounded_up}
use Rattle.tables.specs.declared.codes.Side.TheVariants.{Receive}
use Rattle.tables.specs.declared.row.TradeRow.{TradeRow}
use Rattle.market.specs.declared.day.Day.{Day}
use Rattle.market.specs.Days.{residual_of}
use Rattle.risk.specs.declared.grouping.Grouping.{Grouping}
use Rattle.risk.specs.declared.grouping.Grouping.TheVariants.{ByResidual, ByHalfYear}
use Rattle.risk.specs.declared.figures.RiskFigures.{RiskFigures}
use Rattle.risk.specs.Groups.{group_trades, groups_of, LoneTrade}
use Rattle.risk.specs.Signs.{signed_sum, negated_for}
use Rattle.risk.specs.Losses.{var_of}

-- what is known: of each group its value at risk, or nothing
abbrev pub KnownRisks : Meaning → Day → Grouping → List TradeRow → List (Option ℕ) → Type 0
KnownRisks m d g ts rs = (k : ℕ) → IfSome (slice_index_or rs k None) (λ v. v ≡ var_of m d (group_trades g d k ts))

-- the same of the residual that all of the trades are of: it is the value at risk of these trades
abbrev pub KnownLone : Meaning → Day → List TradeRow → List (Option ℕ) → Type 0
KnownLone m d ts rs = (f : TradeRow) → LoneTrade d f ts → IfSome (slice_index_or rs (residual_of d f) None) (λ v. v ≡ var_of m d ts)

-- of each group its value at risk; nothing of a group that has none
abbrev pub GroupRisks : Meaning → Day → Grouping → List TradeRow → List (Option ℕ) → Type 0
GroupRisks m d g ts rs = (k : ℕ) → unwrap_or (slice_index_or rs k None) 0 ≡ var_of m d (group_trades g d k ts)

unfoldable pub grouped_risk : Meaning → Day → Grouping → List TradeRow → ℕ
grouped_risk m d g ts = sum_below (λ k. var_of m d (group_trades g d k ts)) (groups_of g)

-- x by residual, z by half-year bucket, y as a whole; a negative difference counts as 0
abbrev pub spread_of : ℕ → ℕ → ℕ → ℕ
spread_of x z y = rounded_up (2 * (x - z) + (z - y)) 10

-- paise for each lakh, by residual
abbrev pub band_rate : ℕ → ℕ
band_rate r = if nat_le r 36 then 50000 else (if nat_le r 60 then 100000 else 175000)

abbrev pub weight_of : Day → TradeRow → ℤ
weight_of d t = negated_for Receive (side_of t.side) (pos t.notional *ℤ pos (band_rate (residual_of d t)))

-- the size of a signed sum, pay plus and receive minus
unfoldable pub minimum_of : Day → List TradeRow → ℕ
minimum_of d ts = unsigned_abs (signed_sum (weight_of d) ts)

-- s is the step-up in per cent
abbrev pub stepped_up : ℕ → ℕ → ℕ
stepped_up s base = base + rounded_up (base * s) 100

abbrev pub initial_of : ℕ → ℕ → ℕ → ℕ → ℕ
initial_of s whole spread minimum = stepped_up s (max (whole + spread) minimum)

abbrev pub risk_from : ℕ → ℕ → ℕ → ℕ → ℕ → RiskFigures
risk_from s x z y minimum = record {
  residuals = x;
  halfyears = z;
  whole = y;
  spread = spread_of x z y;
  minimum = minimum;
  initial = initial_of s y (spread_of x z y) minimum;
}

unfoldable pub risk_of : Meaning → Day → ℕ → List TradeRow → RiskFigures
risk_of m d s ts =
    risk_from s (grouped_risk m d ByResidual ts) (grouped_risk m d ByHalfYear ts) (var_of m d ts) (minimum_of d ts)

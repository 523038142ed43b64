-- The market state and its limits.
-- family_state: the state of one of the two families.
-- average_keeps, averages_keep: an average, and both of a family, are in range. mark_keeps, marks_keep: a trigger and its calm mark are in range,
-- and all five of a family. thresholds_keep, family_keeps, market_keeps: every number is in range; the step-up is the market's `percent`.
use Rattle.std.specs.Prelude.{ℕ, Bool, true, ◌&&◌, List, Some, None, Option, nat_le, slice_index}
use Rattle.tables.specs.declared.codes.Family.{Family}
use Rattle.tables.specs.declared.codes.Family.TheVariants.{Overnight, Forward}
use Rattle.tables.specs.Limits.{security_keeps}
use Rattle.std.specs.List.{list_all}
use Rattle.market.specs.declared.state.Averages.{Averages}
use Rattle.market.specs.declared.state.Thresholds.{Thresholds}
use Rattle.market.specs.declared.state.FamilyState.{FamilyState}
use Rattle.market.specs.declared.state.MarketState.{MarketState}

abbrev pub family_state : MarketState → Family → FamilyState
family_state k Overnight = k.overnight
family_state k Forward = k.forward

abbrev pub average_keeps : ℕ → Bool
average_keeps n = nat_le 1 n && nat_le n 10000000000000000

abbrev pub averages_keep : Option Averages → Bool
averages_keep None = true
averages_keep (Some a) = average_keeps a.initial && average_keeps a.gross

abbrev pub mark_keeps : ℕ → ℕ → Bool
mark_keeps t c = nat_le 1 c && (nat_le c t && nat_le t 1000000)

abbrev pub marks_keep : List ℕ → List ℕ → Bool
marks_keep ts cs =
    mark_keeps (slice_index ts 0) (slice_index cs 0)
    && (mark_keeps (slice_index ts 1) (slice_index cs 1)
    && (mark_keeps (slice_index ts 2) (slice_index cs 2)
    && (mark_keeps (slice_index ts 3) (slice_index cs 3) && mark_keeps (slice_index ts 4) (slice_index cs 4))))

abbrev pub thresholds_keep : Option Thresholds → Bool
thresholds_keep None = true
thresholds_keep (Some t) = marks_keep t.triggers t.calm

abbrev pub family_keeps : FamilyState → Bool
family_keeps f =
    nat_le f.volatility 1000
    && (nat_le f.slot 4 && (nat_le f.checks 4 && (averages_keep f.averages && thresholds_keep f.thresholds)))

abbrev pub market_keeps : MarketState → Bool
market_keeps k =
    nat_le k.day.month 1199
    && (nat_le k.percent 100
    && (family_keeps k.overnight && (family_keeps k.forward && list_all security_keeps k.securities)))

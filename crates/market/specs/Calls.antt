-- The calls of the market: what each asks, and what it changes in the market state.
-- with_day, with_percent, with_family, with_security: a market state with its month and set, its step-up, a family or a security replaced.
-- with_averages, with_thresholds: a family with other averages or thresholds.
-- quoted: the row that a quote gives. quote_fits, return_fits, returns_fit, is_given, slot_fits, month_fits: the tests of the questions.
-- set_questions, price_questions, step_up_questions, averages_questions, thresholds_questions, check_questions, month_questions: the questions of
-- each such call after question 1, in their order. market_questions: of any; `sets` is how many sets the call's model has.
-- calm_returns: every return is below its calm mark. checked_by, checked: a family after a volatility check.
-- volatility_after_day, closed_family: the per cent of a family, and the family, after the day.
-- market_changed: the market state after an accepted call. can_change: the change can be made as it stands.
use Rattle.std.specs.Prelude.{ℕ, ◌+◌, min, max, Bool, true, false, if◌then◌else◌, ◌&&◌, List, [], ◌∷◌, Some, None, Option, ◌==◌, nat_le, nat_lt, slice_index, slice_set}
use Rattle.refusals.specs.declared.refusal.Refusal.TheVariants.{NoSecurity, NoSet, WrongPrice, WrongStepUp, NoFamily, WrongAverages, WrongThresholds, WrongReturns, NoThresholds, WrongSlot, WrongMonth}
use Rattle.refusals.specs.Refusals.{Question}
use Rattle.tables.specs.declared.codes.Family.{Family}
use Rattle.tables.specs.declared.codes.Family.TheVariants.{Overnight, Forward}
use Rattle.tables.specs.declared.row.SecurityRow.{SecurityRow}
use Rattle.tables.specs.Codes.{family_of}
use Rattle.tables.specs.Limits.{security_keeps}
use Rattle.market.specs.declared.call.Check.{Check}
use Rattle.market.specs.declared.call.MarketCall.{MarketCall}
use Rattle.market.specs.declared.call.MarketCall.TheVariants.{Set, Price, StepUp, Averages, Thresholds, Volatility, Close, Month}
use Rattle.market.specs.declared.call.Quote.{Quote}
use Rattle.market.specs.declared.day.Day.{Day}
use Rattle.market.specs.declared.state.Averages.{Averages as AverageFigures}
use Rattle.market.specs.declared.state.Thresholds.{Thresholds as Marks}
use Rattle.market.specs.declared.state.FamilyState.{FamilyState}
use Rattle.market.specs.declared.state.MarketState.{MarketState}
use Rattle.market.specs.States.{averages_keep, thresholds_keep, family_state}
use Rattle.market.specs.Volatility.{charged}

abbrev pub with_day : Day → MarketState → MarketState
with_day d k = record { day = d; percent = k.percent; overnight = k.overnight; forward = k.forward; securities = k.securities }

abbrev pub with_percent : ℕ → MarketState → MarketState
with_percent n k = record { day = k.day; percent = n; overnight = k.overnight; forward = k.forward; securities = k.securities }

abbrev pub with_family : Family → FamilyState → MarketState → MarketState
with_family Overnight f k = record { day = k.day; percent = k.percent; overnight = f; forward = k.forward; securities = k.securities }
with_family Forward f k = record { day = k.day; percent = k.percent; overnight = k.overnight; forward = f; securities = k.securities }

abbrev pub with_security : ℕ → SecurityRow → MarketState → MarketState
with_security i s k = record { day = k.day; percent = k.percent; overnight = k.overnight; forward = k.forward; securities = slice_set k.securities i s }

abbrev pub with_averages : AverageFigures → FamilyState → FamilyState
with_averages a f = record { volatility = f.volatility; averages = Some a; thresholds = f.thresholds; slot = f.slot; checks = f.checks; calm = f.calm }

-- the per cent in force, the slots and what earlier checks of the day found stay
abbrev pub with_thresholds : Marks → FamilyState → FamilyState
with_thresholds t f = record { volatility = f.volatility; averages = f.averages; thresholds = Some t; slot = f.slot; checks = f.checks; calm = f.calm }

-- listed is 0 (no) or 1 (yes)
abbrev pub quoted : Quote → SecurityRow
quoted q = record { price = q.price; haircut = q.haircut; listed = (q.listed == 1) }

abbrev pub quote_fits : Quote → Bool
quote_fits q = nat_le 1 q.price && (nat_le q.price 30000 && (nat_le q.haircut 100 && nat_le q.listed 1))

abbrev pub return_fits : ℕ → Bool
return_fits x = nat_le x 1000000

abbrev pub returns_fit : List ℕ → Bool
returns_fit rs =
    return_fits (slice_index rs 0)
    && (return_fits (slice_index rs 1) && (return_fits (slice_index rs 2) && (return_fits (slice_index rs 3) && return_fits (slice_index rs 4))))

abbrev pub is_given : Option Marks → Bool
is_given None = false
is_given (Some t) = true

-- slots 1 to 4, each above the last of the day
abbrev pub slot_fits : FamilyState → ℕ → Bool
slot_fits f slot = nat_le 1 slot && (nat_le slot 4 && nat_lt f.slot slot)

abbrev pub month_fits : MarketState → ℕ → Bool
month_fits k month = nat_lt k.day.month month && nat_le month 1199

abbrev pub set_questions : ℕ → ℕ → List Question
set_questions sets s = (nat_lt s sets, NoSet) ∷ []

abbrev pub price_questions : Quote → List Question
price_questions q = (nat_lt q.security 32, NoSecurity) ∷ (quote_fits q, WrongPrice) ∷ []

abbrev pub step_up_questions : ℕ → List Question
step_up_questions n = (nat_le n 100, WrongStepUp) ∷ []

abbrev pub averages_questions : ℕ → AverageFigures → List Question
averages_questions family a = (nat_le family 1, NoFamily) ∷ (averages_keep (Some a), WrongAverages) ∷ []

abbrev pub thresholds_questions : ℕ → Marks → List Question
thresholds_questions family t = (nat_le family 1, NoFamily) ∷ (thresholds_keep (Some t), WrongThresholds) ∷ []

abbrev pub check_questions : MarketState → Check → List Question
check_questions k c =
    (nat_le c.family 1, NoFamily)
    ∷ (returns_fit c.returns, WrongReturns)
    ∷ (is_given (family_state k (family_of c.family)).thresholds, NoThresholds)
    ∷ (slot_fits (family_state k (family_of c.family)) c.slot, WrongSlot)
    ∷ []

abbrev pub month_questions : MarketState → ℕ → List Question
month_questions k month = (month_fits k month, WrongMonth) ∷ []

abbrev pub market_questions : ℕ → MarketState → MarketCall → List Question
market_questions sets k (Set s) = set_questions sets s
market_questions sets k (Price q) = price_questions q
market_questions sets k (StepUp n) = step_up_questions n
market_questions sets k (Averages family a) = averages_questions family a
market_questions sets k (Thresholds family t) = thresholds_questions family t
market_questions sets k (Volatility c) = check_questions k c
market_questions sets k Close = []
market_questions sets k (Month month) = month_questions k month

abbrev pub calm_returns : List ℕ → List ℕ → Bool
calm_returns marks rs =
    nat_lt (slice_index rs 0) (slice_index marks 0)
    && (nat_lt (slice_index rs 1) (slice_index marks 1)
    && (nat_lt (slice_index rs 2) (slice_index marks 2) && (nat_lt (slice_index rs 3) (slice_index marks 3) && nat_lt (slice_index rs 4) (slice_index marks 4))))

-- the per cent replaces a smaller one in force, the slot counts as checked, and calm is judged by the marks now in force
abbrev pub checked_by : Option Marks → ℕ → List ℕ → FamilyState → FamilyState
checked_by None slot rs f = f
checked_by (Some t) slot rs f = record { volatility = max f.volatility (charged t.triggers rs); averages = f.averages; thresholds = f.thresholds; slot = slot; checks = min (f.checks + 1) 4; calm = f.calm && calm_returns t.calm rs }

abbrev pub checked : ℕ → List ℕ → FamilyState → FamilyState
checked slot rs f = checked_by f.thresholds slot rs f

-- the per cent falls to 0 if all four slots were checked that day, and every return was calm at its check
abbrev pub volatility_after_day : FamilyState → ℕ
volatility_after_day f = if f.checks == 4 && f.calm then 0 else f.volatility

-- slots begin anew
abbrev pub closed_family : FamilyState → FamilyState
closed_family f = record { volatility = volatility_after_day f; averages = f.averages; thresholds = f.thresholds; slot = 0; checks = 0; calm = true }

abbrev pub market_changed : MarketCall → MarketState → MarketState
market_changed (Set s) k = with_day (record { month = k.day.month; set = s }) k
market_changed (Price q) k = with_security q.security (quoted q) k
market_changed (StepUp n) k = with_percent n k
market_changed (Averages family a) k = with_family (family_of family) (with_averages a (family_state k (family_of family))) k
market_changed (Thresholds family t) k = with_family (family_of family) (with_thresholds t (family_state k (family_of family))) k
market_changed (Volatility c) k = with_family (family_of c.family) (checked c.slot c.returns (family_state k (family_of c.family))) k
market_changed Close k = with_family Overnight (closed_family k.overnight) (with_family Forward (closed_family k.forward) k)
market_changed (Month month) k = with_day (record { month = month; set = k.day.set }) k

abbrev pub can_change : MarketCall → MarketState → Bool
can_change (Set s) k = true
can_change (Price q) k = nat_lt q.security 32 && security_keeps (quoted q)
can_change (StepUp n) k = true
can_change (Averages family a) k = true
can_change (Thresholds family t) k = true
can_change (Volatility c) k = nat_le c.slot 4 && nat_le (family_state k (family_of c.family)).checks 4
can_change Close k = true
can_change (Month month) k = true

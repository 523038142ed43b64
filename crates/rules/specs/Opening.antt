-- The opening of a house.
-- quiet_family, opened_market: a family and a market as an opening leaves them. empty_row: a record with nothing in it.
-- opening_questions: its questions in their order. opened_rows, opened_trades: the tables that it leaves.
-- opening_result: what an opening that brings its own tables is answered.
use Rattle.std.specs.Prelude.{ℕ, ◌*◌, true, false, ◌&&◌, List, [], ◌∷◌, length, replicate, None, Result, ◌==◌, nat_le}
use Rattle.tables.specs.declared.row.AccountRow.{AccountRow}
use Rattle.tables.specs.declared.row.TradeRow.{TradeRow}
use Rattle.tables.specs.Books.{no_levels}
use Rattle.tables.specs.Limits.{no_trade, no_security}
use Rattle.market.specs.declared.state.FamilyState.{FamilyState}
use Rattle.market.specs.declared.state.MarketState.{MarketState}
use Rattle.refusals.specs.declared.refusal.Refusal.{Refusal}
use Rattle.refusals.specs.declared.refusal.Refusal.TheVariants.{Tables, WrongAccounts, WrongOpeningMonth}
use Rattle.refusals.specs.Refusals.{Question, first_no}

-- volatility 0, no averages, no thresholds, no slot checked
abbrev pub quiet_family : FamilyState
quiet_family = record { volatility = 0; averages = None; thresholds = None; slot = 0; checks = 0; calm = true }

-- set 0, step-up 0, every security unlisted
unfoldable pub opened_market : ℕ → MarketState
opened_market month = record { day = record { month = month; set = 0 }; percent = 0; overnight = quiet_family; forward = quiet_family; securities = replicate 32 no_security }

unfoldable pub empty_row : AccountRow
empty_row = record { cash = 0; obligation = 0; available = 0; shortfall = 0; lots = replicate 32 0; overnight = no_levels; forward = no_levels; trades = 0; own = false; second = false }

abbrev pub opened_rows : ℕ → List AccountRow
opened_rows n = replicate n empty_row

abbrev pub opened_trades : ℕ → List TradeRow
opened_trades n = replicate (64 * n) no_trade

abbrev pub opening_questions : ℕ → ℕ → List AccountRow → List TradeRow → List Question
opening_questions n month rs ts =
    (nat_le 1 n && nat_le n 32, WrongAccounts)
    ∷ (nat_le month 1199, WrongOpeningMonth)
    ∷ (length rs == n && (length ts == 64 * n), Tables)
    ∷ []

abbrev pub opening_result : ℕ → ℕ → Result (Unit {0}) Refusal
opening_result n month = first_no (opening_questions n month (opened_rows n) (opened_trades n))

-- What meets the premises of laws, by computation: of this crate's and of those below it that it sees. The model is `still`, whose numbers are 0,
-- and the house has three accounts, opened in month 300.
use Rattle.std.proofs.Common.{◌≡◌, ℕ, ◌+◌, ◌<◌, ◌≤◌, true, false, map, replicate, pos, refl, arith}
use Rattle.models.specs.Joined.{joint}
use Rattle.models.specs.Tables.{Tables}
use Rattle.models.specs.Sound.{Counts, Lengths}
use Rattle.tail.specs.Tail.{reaches_loss}
use Rattle.tables.specs.Limits.{tables_keep}
use Rattle.rules.specs.Opening.{empty_row, opened_rows, opened_trades}
use Rattle.isolation.specs.Runs.{opened, run}
use Rattle.isolation.specs.Examples.{still, quiet}
use Rattle.engine.specs.Promises.{Past}
use Rattle.crows.specs.declared.row.CFamily.{CFamily}
use Rattle.crows.specs.declared.row.CHouse.{CHouse}
use Rattle.crows.specs.Rows.{account_numbers, accounts_fit, house_keeps}

-- `Orders`, for losses: 1 does not reach 2; 3 reaches 2, and 2 reaches 1
pub order_met : (reaches_loss (pos 1) (pos 2) ≡ false) × (reaches_loss (pos 3) (pos 2) ≡ true) × (reaches_loss (pos 2) (pos 1) ≡ true)
order_met = (refl, refl, refl)

-- `Joins`: a set and a scenario that the joined model has, of the first and of the second, and some that it has not
pub joined_met : (0 < (joint still still).sets) × (0 < still.scenarios) × (still.scenarios + 0 < 1000) × ((joint still still).sets ≤ 1) × ((joint still still).scenarios ≤ 2)
joined_met = (omega arith, omega arith, omega arith, omega arith, omega arith)

-- `ByKnots`: tables of one set and one scenario, with a set, a benchmark and a scenario
abbrev pub zeros : Tables
zeros = record { sets = 1; scenarios = 1; rates = replicate 48 0; ticks = replicate 48 0; changes = replicate 48 (pos 0) }

pub knots_met : Counts zeros.sets zeros.scenarios × Lengths 48 zeros × (0 < zeros.sets) × (0 < zeros.scenarios)
knots_met = ((omega arith, omega arith, omega arith, omega arith), (refl, refl, refl), omega arith, omega arith)

-- `IsolatedRun`: a past
pub past_met : Past still (run still (opened 300 3) quiet)
past_met = record { month = 300; accounts = 3; some = omega arith; events = quiet; leads = refl }

-- `HeldBy`: tables within their limits
pub held_met : tables_keep 3 (opened_rows 3) (opened_trades 3) ≡ true
unfolding empty_row
held_met = refl

-- records and a house in the memory of a caller in C: `RowsAnswered`, `AccountAnswered`, `MarketAnswered`
abbrev pub family : CFamily
family = record { initial = 0; gross = 0; volatility = 0; triggers = replicate 5 0; marks = replicate 5 0; given = 0; slot = 0; checks = 0; calm = 0 }

abbrev pub house_of : ℕ → CHouse
house_of n = record { overnight = family; forward = family; accounts = n; set = 0; percent = 0; month = 300; securities = replicate 32 (record { price = 0; haircut = 0; listed = 0 }) }

pub records_met : accounts_fit (map account_numbers (opened_rows 3)) ≡ true
unfolding empty_row
records_met = refl

pub no_records_met : accounts_fit (replicate 33 (account_numbers empty_row)) ≡ false
unfolding empty_row
no_records_met = refl

pub house_met : (house_keeps (house_of 3) ≡ true) × (house_keeps (house_of 0) ≡ false)
house_met = (refl, refl)

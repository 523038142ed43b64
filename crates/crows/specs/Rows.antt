-- The rows of callers in C: what they stand for, and which of them stand for anything.
-- flag_of, number_of_flag: a flag of a number, and back: 1 is set.
-- account_of, account_numbers: the record of an account, and back. account_fits: its flags are 0 or 1.
-- accounts_of: all records. accounts_fit: no more than 32, and all their flags 0 or 1.
-- security_of, security_numbers, security_fits: of a security likewise.
-- averages_of, thresholds_of, family_of: what the numbers of a family stand for. family_fits: `given` is at most 3, and its flag 0 or 1.
-- state_of: the market of a house. flags_fit: the same of all its families and securities.
-- house_keeps: it is a house: 1 to 32 accounts, flags as they must be, and a market within its limits.
use Rattle.std.specs.Prelude.{ℕ, Bool, ◌&&◌, ◌||◌, List, map, length, Some, None, Option, if◌then◌else◌, ◌==◌, nat_le}
use Rattle.std.specs.List.{list_all}
use Rattle.tables.specs.declared.row.AccountRow.{AccountRow}
use Rattle.tables.specs.declared.row.SecurityRow.{SecurityRow}
use Rattle.market.specs.declared.state.Averages.{Averages}
use Rattle.market.specs.declared.state.Thresholds.{Thresholds}
use Rattle.market.specs.declared.state.FamilyState.{FamilyState}
use Rattle.market.specs.declared.state.MarketState.{MarketState}
use Rattle.market.specs.States.{market_keeps}
use Rattle.crows.specs.declared.row.CAccount.{CAccount}
use Rattle.crows.specs.declared.row.CSecurity.{CSecurity}
use Rattle.crows.specs.declared.row.CFamily.{CFamily}
use Rattle.crows.specs.declared.row.CHouse.{CHouse}

abbrev pub flag_of : ℕ → Bool
flag_of n = n == 1

abbrev pub number_of_flag : Bool → ℕ
number_of_flag b = if b then 1 else 0

abbrev pub account_of : CAccount → AccountRow
account_of r = record { cash = r.cash; obligation = r.obligation; available = r.available; shortfall = r.shortfall; lots = r.lots; overnight = r.overnight; forward = r.forward; trades = r.trades; own = flag_of r.own; second = flag_of r.second }

abbrev pub account_numbers : AccountRow → CAccount
account_numbers r = record { cash = r.cash; obligation = r.obligation; available = r.available; shortfall = r.shortfall; lots = r.lots; overnight = r.overnight; forward = r.forward; trades = r.trades; own = number_of_flag r.own; second = number_of_flag r.second }

abbrev pub account_fits : CAccount → Bool
account_fits r = nat_le r.own 1 && nat_le r.second 1

abbrev pub accounts_of : List CAccount → List AccountRow
accounts_of rs = map account_of rs

abbrev pub accounts_fit : List CAccount → Bool
accounts_fit rs = nat_le (length rs) 32 && list_all account_fits rs

abbrev pub security_of : CSecurity → SecurityRow
security_of s = record { price = s.price; haircut = s.haircut; listed = flag_of s.listed }

abbrev pub security_numbers : SecurityRow → CSecurity
security_numbers s = record { price = s.price; haircut = s.haircut; listed = number_of_flag s.listed }

abbrev pub security_fits : CSecurity → Bool
security_fits s = nat_le s.listed 1

abbrev pub averages_of : CFamily → Option Averages
averages_of f = if (f.given == 1) || (f.given == 3) then Some (record { initial = f.initial; gross = f.gross }) else None

abbrev pub thresholds_of : CFamily → Option Thresholds
thresholds_of f = if (f.given == 2) || (f.given == 3) then Some (record { triggers = f.triggers; calm = f.marks }) else None

abbrev pub family_of : CFamily → FamilyState
family_of f = record { volatility = f.volatility; averages = averages_of f; thresholds = thresholds_of f; slot = f.slot; checks = f.checks; calm = flag_of f.calm }

abbrev pub family_fits : CFamily → Bool
family_fits f = nat_le f.given 3 && nat_le f.calm 1

abbrev pub state_of : CHouse → MarketState
state_of h = record { day = record { month = h.month; set = h.set }; percent = h.percent; overnight = family_of h.overnight; forward = family_of h.forward; securities = map security_of h.securities }

abbrev pub flags_fit : CHouse → Bool
flags_fit h = family_fits h.overnight && (family_fits h.forward && list_all security_fits h.securities)

abbrev pub house_keeps : CHouse → Bool
house_keeps h = nat_le 1 h.accounts && (nat_le h.accounts 32 && (flags_fit h && market_keeps (state_of h)))

-- What an entry of an account's file sets: the numbers of the entry stand in the place, and all else is as it was. Assumes nothing.
--   with_flags, SetsFlags             both flags of an account
--   with_lots, SetsLots               the lots of one security
--   family_number                     the number of a family in a file
--   with_levels, SetsLevels           the levels of one family
--   with_volatility, SetsVolatility   the volatility of both families
--   with_averages, SetsAverages       the averages of one family
--   with_security, SetsSecurity       one security
--   TradeEntry, AddsTrade             a trade of the numbers of an entry, after those before
--   Gives                             the one number of an entry, as a field
--   with_restricted, SetsRestricted   whether the house is restricted
--   with_month, with_set, with_percent   the month, the set, the step-up of the market
--   with_state, with_row              the market, the record of the account
--   with_cash                         the cash of an account
--   MarketEntry, AccountEntry, Entry  what an entry of the market, of the account, of the file sets, by its word
use Rattle.std.specs.Prelude.{◌≡◌, ◌≢◌, ℕ, ◌<◌, Bool, Some, Ok, Result, List, [], ◌∷◌, ◌++◌, codes, length, slice_index, slice_set, vec_items}
use Rattle.std.specs.Int.{from_bool}
use Rattle.tables.specs.declared.codes.Family.{Family}
use Rattle.tables.specs.declared.codes.Family.TheVariants.{Overnight, Forward}
use Rattle.tables.specs.declared.row.AccountRow.{AccountRow}
use Rattle.tables.specs.declared.row.Levels.{Levels}
use Rattle.tables.specs.declared.row.SecurityRow.{SecurityRow}
use Rattle.tables.specs.declared.row.TradeRow.{TradeRow}
use Rattle.market.specs.declared.state.Averages.{Averages}
use Rattle.market.specs.declared.state.MarketState.{MarketState}
use Rattle.statement.specs.declared.account_file.Input.{Input}

abbrev pub with_flags : AccountRow → Bool → Bool → AccountRow
with_flags row own second = record {
  cash = row.cash;
  obligation = row.obligation;
  available = row.available;
  shortfall = row.shortfall;
  lots = row.lots;
  overnight = row.overnight;
  forward = row.forward;
  trades = row.trades;
  own = own;
  second = second;
}

abbrev pub SetsFlags : List ℕ → AccountRow → AccountRow → Type 0
SetsFlags numbers old new = (numbers ≡ from_bool new.own ∷ from_bool new.second ∷ []) × (new ≡ with_flags old new.own new.second)

abbrev pub with_lots : AccountRow → ℕ → ℕ → AccountRow
with_lots row i lots = record {
  cash = row.cash;
  obligation = row.obligation;
  available = row.available;
  shortfall = row.shortfall;
  lots = slice_set row.lots i lots;
  overnight = row.overnight;
  forward = row.forward;
  trades = row.trades;
  own = row.own;
  second = row.second;
}

abbrev pub SetsLots : List ℕ → AccountRow → AccountRow → Type 0
SetsLots numbers old new = (i : ℕ) × (lots : ℕ) × (numbers ≡ i ∷ lots ∷ []) × (i < 32) × (new ≡ with_lots old i lots)

abbrev pub with_volatility : MarketState → ℕ → ℕ → MarketState
with_volatility k overnight forward = record {
  day = k.day;
  percent = k.percent;
  overnight = record { volatility = overnight; averages = k.overnight.averages; thresholds = k.overnight.thresholds; slot = k.overnight.slot; checks = k.overnight.checks; calm = k.overnight.calm };
  forward = record { volatility = forward; averages = k.forward.averages; thresholds = k.forward.thresholds; slot = k.forward.slot; checks = k.forward.checks; calm = k.forward.calm };
  securities = k.securities;
}

abbrev pub SetsVolatility : List ℕ → MarketState → MarketState → Type 0
SetsVolatility numbers old new =
    (numbers ≡ new.overnight.volatility ∷ new.forward.volatility ∷ []) × (new ≡ with_volatility old new.overnight.volatility new.forward.volatility)

abbrev pub with_security : MarketState → ℕ → SecurityRow → MarketState
with_security k i s = record { day = k.day; percent = k.percent; overnight = k.overnight; forward = k.forward; securities = slice_set k.securities i s }

abbrev pub SetsSecurity : List ℕ → MarketState → MarketState → Type 0
SetsSecurity numbers old new =
    (i : ℕ) × (s : SecurityRow) × (numbers ≡ i ∷ s.price ∷ s.haircut ∷ from_bool s.listed ∷ []) × (i < 32) × (new ≡ with_security old i s)

pub record TradeEntry (numbers : List ℕ) (t : TradeRow) : Type 0 where
  pub six : length numbers ≡ 6
  pub number : t.number ≡ slice_index numbers 0
  pub benchmark : t.benchmark ≡ slice_index numbers 1
  pub side : t.side ≡ slice_index numbers 2
  pub maturity : t.maturity ≡ slice_index numbers 3
  pub notional : t.notional ≡ slice_index numbers 4
  pub rate : t.rate ≡ slice_index numbers 5

-- a trade of these numbers stands after those before
pub record AddsTrade (numbers : List ℕ) (old new : Input) : Type 0 where
  pub added : (t : TradeRow) × TradeEntry numbers t × (vec_items new.trades ≡ vec_items old.trades ++ t ∷ [])
  pub state : new.state ≡ old.state
  pub row : new.row ≡ old.row
  pub restricted : new.restricted ≡ old.restricted

abbrev pub with_levels : AccountRow → Family → Levels → AccountRow
with_levels row Overnight l = record {
  cash = row.cash;
  obligation = row.obligation;
  available = row.available;
  shortfall = row.shortfall;
  lots = row.lots;
  overnight = l;
  forward = row.forward;
  trades = row.trades;
  own = row.own;
  second = row.second;
}
with_levels row Forward l = record {
  cash = row.cash;
  obligation = row.obligation;
  available = row.available;
  shortfall = row.shortfall;
  lots = row.lots;
  overnight = row.overnight;
  forward = l;
  trades = row.trades;
  own = row.own;
  second = row.second;
}

-- the number of a family in a file
abbrev pub family_number : Family → ℕ
family_number Overnight = 0
family_number Forward = 1

abbrev pub SetsLevels : List ℕ → AccountRow → AccountRow → Type 0
SetsLevels numbers old new =
    (f : Family) × (l : Levels) × (numbers ≡ family_number f ∷ l.initial ∷ l.gross ∷ []) × (new ≡ with_levels old f l)

abbrev pub with_averages : MarketState → Family → Averages → MarketState
with_averages k Overnight a = record {
  day = k.day;
  percent = k.percent;
  overnight = record { volatility = k.overnight.volatility; averages = Some a; thresholds = k.overnight.thresholds; slot = k.overnight.slot; checks = k.overnight.checks; calm = k.overnight.calm };
  forward = k.forward;
  securities = k.securities;
}
with_averages k Forward a = record {
  day = k.day;
  percent = k.percent;
  overnight = k.overnight;
  forward = record { volatility = k.forward.volatility; averages = Some a; thresholds = k.forward.thresholds; slot = k.forward.slot; checks = k.forward.checks; calm = k.forward.calm };
  securities = k.securities;
}

abbrev pub SetsAverages : List ℕ → MarketState → MarketState → Type 0
SetsAverages numbers old new =
    (f : Family) × (a : Averages) × (numbers ≡ family_number f ∷ a.initial ∷ a.gross ∷ []) × (new ≡ with_averages old f a)

-- the entry is one number n, and its conversion gives x
abbrev pub Gives : {X E : Type 0} → (ℕ → Result X E → Type 0) → List ℕ → X → Type 0
Gives gives numbers x = (n : ℕ) × (numbers ≡ n ∷ []) × gives n (Ok x)

abbrev pub with_restricted : Input → Bool → Input
with_restricted i restricted = record { state = i.state; row = i.row; restricted = restricted; trades = i.trades }

abbrev pub SetsRestricted : List ℕ → Input → Input → Type 0
SetsRestricted numbers old new = (numbers ≡ from_bool new.restricted ∷ []) × (new ≡ with_restricted old new.restricted)

abbrev pub with_month : MarketState → ℕ → MarketState
with_month k month = record { day = record { month = month; set = k.day.set }; percent = k.percent; overnight = k.overnight; forward = k.forward; securities = k.securities }

abbrev pub with_set : MarketState → ℕ → MarketState
with_set k set = record { day = record { month = k.day.month; set = set }; percent = k.percent; overnight = k.overnight; forward = k.forward; securities = k.securities }

abbrev pub with_percent : MarketState → ℕ → MarketState
with_percent k percent = record { day = k.day; percent = percent; overnight = k.overnight; forward = k.forward; securities = k.securities }

-- an entry of the market, by its word
pub record MarketEntry (word numbers : List ℕ) (old new : MarketState) : Type 0 where
  pub month : word ≡ codes "month" → (numbers ≡ new.day.month ∷ []) × (new ≡ with_month old new.day.month)
  pub set : word ≡ codes "set" → (numbers ≡ new.day.set ∷ []) × (new ≡ with_set old new.day.set)
  pub percent : word ≡ codes "step-up" → (numbers ≡ new.percent ∷ []) × (new ≡ with_percent old new.percent)
  pub volatility : word ≡ codes "volatility" → SetsVolatility numbers old new
  pub averages : word ≡ codes "averages" → SetsAverages numbers old new
  pub security : word ≡ codes "security" → SetsSecurity numbers old new

abbrev pub with_state : Input → MarketState → Input
with_state i state = record { state = state; row = i.row; restricted = i.restricted; trades = i.trades }

abbrev pub with_row : Input → AccountRow → Input
with_row i row = record { state = i.state; row = row; restricted = i.restricted; trades = i.trades }

abbrev pub with_cash : AccountRow → ℕ → AccountRow
with_cash row cash = record {
  cash = cash;
  obligation = row.obligation;
  available = row.available;
  shortfall = row.shortfall;
  lots = row.lots;
  overnight = row.overnight;
  forward = row.forward;
  trades = row.trades;
  own = row.own;
  second = row.second;
}

-- an entry of the account, or of the market, by its word
pub record AccountEntry (word numbers : List ℕ) (old new : Input) : Type 0 where
  pub cash : word ≡ codes "cash" → (numbers ≡ new.row.cash ∷ []) × (new ≡ with_row old (with_cash old.row new.row.cash))
  pub lots : word ≡ codes "lots" → SetsLots numbers old.row new.row × (new ≡ with_row old new.row)
  pub levels : word ≡ codes "levels" → SetsLevels numbers old.row new.row × (new ≡ with_row old new.row)
  pub flags : word ≡ codes "flags" → SetsFlags numbers old.row new.row × (new ≡ with_row old new.row)
  pub market : word ≢ codes "cash" → word ≢ codes "lots" → word ≢ codes "levels" → word ≢ codes "flags"
      → MarketEntry word numbers old.state new.state × (new ≡ with_state old new.state)

-- an entry, by its word
pub record Entry (word numbers : List ℕ) (old new : Input) : Type 0 where
  pub trade : word ≡ codes "trade" → AddsTrade numbers old new
  pub restricted : word ≡ codes "house-restricted" → SetsRestricted numbers old new
  pub account : word ≢ codes "trade" → word ≢ codes "house-restricted" → AccountEntry word numbers old new

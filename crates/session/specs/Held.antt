-- What a session holds, and what is made of it. Assumes nothing.
--   Held             accounts, market state, both tables, and the meaning of the model in use
--   holding          such a record of its five parts
--   held             what a session holds
--   first_held       at the start: 1 account, month 0, and a model whose numbers are all 0
--   opened           after an opening: all begins anew but the model; a refused one changes nothing
--   called           what a call answers and leaves, with the model in use
--   after_call       after a call
--   with_model       after another model is taken into use
--   kept_tables      whether the tables have their lengths, and every record and place keeps its limits
use Rattle.std.specs.Prelude.{ℕ, Bool, List, vec_items}
use Rattle.models.specs.Meaning.{Meaning}
use Rattle.owned.specs.Any.{any_of}
use Rattle.modelfile.specs.Default.{zero_table}
use Rattle.refusals.specs.Refusals.{decided}
use Rattle.tables.specs.declared.row.AccountRow.{AccountRow}
use Rattle.tables.specs.declared.row.TradeRow.{TradeRow}
use Rattle.tables.specs.Limits.{tables_keep}
use Rattle.market.specs.declared.state.MarketState.{MarketState}
use Rattle.rules.specs.declared.call.Call.{Call}
use Rattle.rules.specs.Calls.{Outcome, outcome}
use Rattle.rules.specs.Opening.{opened_market, opened_rows, opened_trades, opening_result}
use Rattle.session.specs.declared.session.Session.{Session}

pub record Held : Type 0 where
  pub accounts : ℕ
  pub market : MarketState
  pub rows : List AccountRow
  pub trades : List TradeRow
  pub model : Meaning

abbrev pub holding : ℕ → MarketState → List AccountRow → List TradeRow → Meaning → Held
holding n k rs ts m = record { accounts = n; market = k; rows = rs; trades = ts; model = m }

abbrev pub held : Session → Held
held s = holding s.house.accounts s.house.market.state (vec_items s.records) (vec_items s.trades) (any_of s.model)

abbrev pub first_held : Held
first_held = holding 1 (opened_market 0) (opened_rows 1) (opened_trades 1) zero_table

abbrev pub opened : ℕ → ℕ → Held → Held
opened n month h =
    decided (opening_result n month) (holding n (opened_market month) (opened_rows n) (opened_trades n) h.model) (λ e. h)

abbrev pub called : Held → Call → Outcome
called h c = outcome h.model h.market h.accounts h.rows h.trades c

abbrev pub after_call : Held → Call → Held
after_call h c = holding h.accounts (called h c).market (called h c).rows (called h c).trades h.model

abbrev pub with_model : Held → Meaning → Held
with_model h m = holding h.accounts h.market h.rows h.trades m

abbrev pub kept_tables : Held → Bool
kept_tables h = tables_keep h.accounts h.rows h.trades

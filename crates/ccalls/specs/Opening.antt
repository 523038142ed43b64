-- What an opening leaves.
-- Opened: the house and both tables after an accepted one.
-- Opens: n accounts and a month; house h, records rs and places ts before, h', us and vs after; r is the first no among its questions.
use Rattle.std.specs.Prelude.{◌≡◌, ℕ, true, List, Ok, Err, Result}
use Rattle.refusals.specs.declared.refusal.Refusal.{Refusal}
use Rattle.tables.specs.declared.row.TradeRow.{TradeRow}
use Rattle.rules.specs.Opening.{opened_market, opened_rows, opened_trades}
use Rattle.crows.specs.declared.row.CAccount.{CAccount}
use Rattle.crows.specs.declared.row.CHouse.{CHouse}
use Rattle.crows.specs.Rows.{accounts_of, accounts_fit, state_of, house_keeps}

pub record Opened (n month : ℕ) (h : CHouse) (us : List CAccount) (vs : List TradeRow) : Type 0 where
  pub rows : accounts_of us ≡ opened_rows n
  pub fit : accounts_fit us ≡ true
  pub trades : vs ≡ opened_trades n
  pub accounts : h.accounts ≡ n
  pub market : state_of h ≡ opened_market month
  pub keeps : house_keeps h ≡ true

abbrev pub Opens : ℕ → ℕ → CHouse → CHouse → List CAccount → List CAccount → List TradeRow → List TradeRow → Result (Unit {0}) Refusal → Type 0
Opens n month h h' rs us ts vs (Ok done) = Opened n month h' us vs
Opens n month h h' rs us ts vs (Err e) = (h' ≡ h) × (us ≡ rs) × (vs ≡ ts)

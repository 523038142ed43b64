-- Worked figures, as one theorem on the rules.
-- today: month 300, set 0. pay, receive: a trade in MIBOR of so many lakh with so many months left.
-- Still: a model whose changes are 0. InitialIs: the initial margin of trades under every such model, with no step-up. Worked: the worked figures.
use Rattle.std.specs.Prelude.{◌≡◌, ℕ, ◌+◌, true, List, [], ◌∷◌, pos}
use Rattle.tail.specs.Tail.{Kth, reaches_loss}
use Rattle.models.specs.Meaning.{Meaning}
use Rattle.tables.specs.Collateral.{lots_value}
use Rattle.tables.specs.declared.row.TradeRow.{TradeRow}
use Rattle.market.specs.declared.day.Day.{Day}
use Rattle.market.specs.Volatility.{charged}
use Rattle.risk.specs.Initial.{risk_of}
use Rattle.margins.specs.Marks.{mark_of, credit_of}
use Rattle.margins.specs.Charges.{level_of}

abbrev pub today : Day
today = record { month = 300; set = 0 }

abbrev pub pay : ℕ → ℕ → ℕ → TradeRow
pay lakh months fixed = record { number = 1; benchmark = 0; side = 0; maturity = 300 + months; notional = lakh; rate = fixed }

abbrev pub receive : ℕ → ℕ → ℕ → TradeRow
receive lakh months fixed = record { number = 2; benchmark = 0; side = 1; maturity = 300 + months; notional = lakh; rate = fixed }

abbrev pub Still : Meaning → Type 0
Still m = (s b r j : ℕ) → m.change s b r j ≡ pos 0

abbrev pub InitialIs : List TradeRow → ℕ → Type 0
InitialIs ts n = (m : Meaning) → Still m → (risk_of m today 0 ts).initial ≡ n

pub record Worked : Type 0 where
  pub initial_pair : InitialIs (pay 1000000 36 0 ∷ receive 200000 60 0 ∷ []) 30000000000
  pub initial_36 : InitialIs (pay 100 36 0 ∷ []) 5000000
  pub initial_37 : InitialIs (pay 100 37 0 ∷ []) 10000000
  pub initial_60 : InitialIs (pay 100 60 0 ∷ []) 10000000
  pub initial_61 : InitialIs (pay 100 61 0 ∷ []) 17500000
  pub second_loss : Kth reaches_loss 2 (pos 9 ∷ pos 9 ∷ pos 5 ∷ []) (pos 9)
  pub mark : (m : Meaning) → m.rate 0 0 36 ≡ 65500 → m.tick 0 0 36 ≡ 10000 → mark_of m today (pay 100 36 65000) ≡ pos 500000
  pub credit : credit_of (pos 500000) ≡ 475000
  pub volatility : charged (10000 ∷ 10000 ∷ 10000 ∷ 10000 ∷ 10000 ∷ []) (13226 ∷ 13226 ∷ 0 ∷ 0 ∷ 0 ∷ []) ≡ 175
  pub collateral : lots_value 10 (record { price = 9850; haircut = 4; listed = true }) ≡ 9456000
  pub level_80 : level_of 0 80 1000 ≡ 0
  pub level_81 : level_of 0 81 1000 ≡ 1
  pub level_150 : level_of 0 150 1000 ≡ 1
  pub level_151 : level_of 0 151 1000 ≡ 2
  pub level_130 : level_of 2 130 1000 ≡ 2
  pub level_129 : level_of 2 129 1000 ≡ 1

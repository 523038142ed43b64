-- What a group of trades loses in the scenarios, and its value at risk.
-- leg_of, loss_of, losses_of: the loss of a trade and of a group in a scenario, and of the group in each scenario.
-- tail_size: how many of the highest losses make the tail. tail_loss: the lowest of the tail.
-- var_of: the value at risk. AtRisk: the same in the rule's words. OneAtRisk: the words leave one number.
use Rattle.std.specs.Prelude.{◌≡◌, ℕ, ◌-◌, ◌/◌, max, List, map, ℤ, pos, ◌*ℤ◌, slice_index_or}
use Rattle.std.specs.List.{range_with_len}
use Rattle.tail.specs.Tail.{ranked, reaches_loss, Kth}
use Rattle.models.specs.Meaning.{Meaning}
use Rattle.tables.specs.Codes.{side_of}
use Rattle.tables.specs.declared.codes.Side.TheVariants.{Pay}
use Rattle.tables.specs.declared.row.TradeRow.{TradeRow}
use Rattle.market.specs.declared.day.Day.{Day}
use Rattle.market.specs.Days.{residual_of}
use Rattle.risk.specs.Signs.{signed_sum, negated_for, gain_of}

-- the change is what one lakh of a pay-fixed swap gains
abbrev pub leg_of : Meaning → Day → ℕ → TradeRow → ℤ
leg_of m d j t = negated_for Pay (side_of t.side) (pos t.notional *ℤ m.change d.set t.benchmark (residual_of d t) j)

abbrev pub loss_of : Meaning → Day → ℕ → List TradeRow → ℤ
loss_of m d j ts = signed_sum (leg_of m d j) ts

unfoldable pub losses_of : Meaning → Day → List TradeRow → List ℤ
losses_of m d ts = map (λ j. loss_of m d j ts) (range_with_len 0 m.scenarios)

abbrev pub tail_size : ℕ → ℕ
tail_size n = max 1 (n / 100)

unfoldable pub tail_loss : Meaning → Day → List TradeRow → ℤ
tail_loss m d ts = slice_index_or (ranked reaches_loss (losses_of m d ts)) (tail_size m.scenarios - 1) (pos 0)

-- 0 where the lowest of the tail is a gain
unfoldable pub var_of : Meaning → Day → List TradeRow → ℕ
var_of m d ts = gain_of (tail_loss m d ts)

-- r is the greatest L such that at least k losses are at least L, or 0 where L is negative
pub record AtRisk (m : Meaning) (d : Day) (ts : List TradeRow) (r : ℕ) : Type 0 where
  pub loss : ℤ
  pub kth : Kth reaches_loss (tail_size m.scenarios) (losses_of m d ts) loss
  pub is : r ≡ gain_of loss

abbrev pub OneAtRisk : Type 0
OneAtRisk = (m : Meaning) (d : Day) (ts : List TradeRow) (r s : ℕ) → AtRisk m d ts r → AtRisk m d ts s → r ≡ s

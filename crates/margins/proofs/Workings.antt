-- The worked figures, by computation.
use Rattle.std.proofs.Common.{◌≡◌, ℕ, List, [], ◌∷◌, pos, refl, ap, ◌∙◌, arith}
use Rattle.std.specs.Int.{int_div_euclid}
use Rattle.tail.proofs.Orders.{loss_orders}
use Rattle.tail.proofs.Kths.{kth_from_ranked}
use Rattle.tables.specs.declared.row.TradeRow.{TradeRow}
use Rattle.risk.specs.declared.grouping.Grouping.TheVariants.{ByResidual, ByHalfYear}
use Rattle.risk.specs.Initial.{grouped_risk, minimum_of, risk_from, risk_of}
use Rattle.risk.specs.Losses.{var_of}
use Rattle.risk.proofs.Apart.{grouped_still}
use Rattle.risk.proofs.Risks.{var_still}
use Rattle.market.specs.Volatility.{charged}
use Rattle.margins.specs.Marks.{worth_of}
use Rattle.margins.specs.Worked.{today, pay, receive, InitialIs, Worked}

-- where nothing is at risk the minimum decides
still_is : (ts : List TradeRow) (n : ℕ) → (risk_from 0 0 0 0 (minimum_of today ts)).initial ≡ n → InitialIs ts n
unfolding risk_of
still_is ts n is m still =
    ap (λ x. (risk_from 0 x (grouped_risk m today ByHalfYear ts) (var_of m today ts) (minimum_of today ts)).initial) (grouped_still m today ByResidual ts still)
    ∙ ap (λ z. (risk_from 0 0 z (var_of m today ts) (minimum_of today ts)).initial) (grouped_still m today ByHalfYear ts still)
    ∙ ap (λ y. (risk_from 0 0 0 y (minimum_of today ts)).initial) (var_still m today ts still)
    ∙ is

pub worked : Worked
unfolding minimum_of charged
worked = record {
  initial_pair = still_is (pay 1000000 36 0 ∷ receive 200000 60 0 ∷ []) 30000000000 refl;
  initial_36 = still_is (pay 100 36 0 ∷ []) 5000000 refl;
  initial_37 = still_is (pay 100 37 0 ∷ []) 10000000 refl;
  initial_60 = still_is (pay 100 60 0 ∷ []) 10000000 refl;
  initial_61 = still_is (pay 100 61 0 ∷ []) 17500000 refl;
  second_loss = kth_from_ranked loss_orders (pos 9 ∷ pos 9 ∷ pos 5 ∷ []) 2 (pos 9) (omega arith) (omega arith) refl;
  mark = λ m rate tick. ap (λ r. int_div_euclid (worth_of 100 r 65000 (m.tick 0 0 36)) (pos 1000)) rate ∙ ap (λ k. int_div_euclid (worth_of 100 65500 65000 k) (pos 1000)) tick;
  credit = refl;
  volatility = refl;
  collateral = refl;
  level_80 = refl;
  level_81 = refl;
  level_150 = refl;
  level_151 = refl;
  level_130 = refl;
  level_129 = refl;
}

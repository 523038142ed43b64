-- What meets the premises of `OneAtRisk`: one swap, on a model whose changes are 0, puts 0 at risk.
use Rattle.std.proofs.Common.{List, [], ◌∷◌, pos, refl, subst, arith}
use Rattle.models.specs.Meaning.{Meaning, Lawful}
use Rattle.tables.specs.declared.row.TradeRow.{TradeRow}
use Rattle.market.specs.declared.day.Day.{Day}
use Rattle.risk.specs.Losses.{AtRisk}
use Rattle.risk.proofs.Risks.{at_risk, var_still}
use Rattle.statement.specs.Worked.{worked_trade}

abbrev still : Meaning
still = record { sets = 1; scenarios = 1; rate = λ s b r. 0; tick = λ s b r. 0; change = λ s b r j. pos 0 }

still_lawful : Lawful still
still_lawful = record {
  some_set = omega arith;
  few_sets = omega arith;
  some_scenario = omega arith;
  few_scenarios = omega arith;
  rate_most = λ s b r. omega arith;
  tick_most = λ s b r. omega arith;
  change_most = λ s b r j. omega arith;
  rate_outside = λ s b r h. refl;
  tick_outside = λ s b r h. refl;
  change_outside = λ s b r j h. refl;
  change_past = λ s b r j h. refl;
}

abbrev today : Day
today = record { month = 300; set = 0 }

abbrev swaps : List TradeRow
swaps = worked_trade 0 100 36 0 ∷ []

pub risk_met : AtRisk still today swaps 0
risk_met = subst (AtRisk still today swaps) (var_still still today swaps (λ s b r i. refl)) (at_risk still today swaps still_lawful)

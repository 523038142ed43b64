-- What the limits of a market state tell, each fact under its name.
use Rattle.std.proofs.Common.{◌≡◌, ◌≤◌, true, leb, rules}
use Rattle.std.specs.List.{All, list_all}
use Rattle.std.proofs.lemmas.Bool.{and_parts, and_from, leb-true}
use Rattle.tables.specs.declared.codes.Family.{Family}
use Rattle.tables.specs.declared.codes.Family.TheVariants.{Overnight, Forward}
use Rattle.tables.specs.Limits.{security_keeps}
use Rattle.tables.proofs.Alls.{all_from}
use Rattle.market.specs.declared.state.FamilyState.{FamilyState}
use Rattle.market.specs.declared.state.MarketState.{MarketState}
use Rattle.market.specs.States.{averages_keep, thresholds_keep, family_keeps, family_state, market_keeps}

-- the limits of a family and of a market, part by part
pub record FamilyParts (f : FamilyState) : Type 0 where
  pub volatility : leb f.volatility 1000 ≡ true
  pub slot : leb f.slot 4 ≡ true
  pub checks : leb f.checks 4 ≡ true
  pub averages : averages_keep f.averages ≡ true
  pub thresholds : thresholds_keep f.thresholds ≡ true

pub family_parts : (f : FamilyState) → family_keeps f ≡ true → FamilyParts f
family_parts f h =
    let a = and_parts (leb f.volatility 1000) _ h in
    let b = and_parts (leb f.slot 4) _ a.1 in
    let c = and_parts (leb f.checks 4) _ b.1 in
    let d = and_parts (averages_keep f.averages) (thresholds_keep f.thresholds) c.1 in
    record { volatility = a.0; slot = b.0; checks = c.0; averages = d.0; thresholds = d.1 }

pub family_from : (f : FamilyState) → FamilyParts f → family_keeps f ≡ true
family_from f p = and_from _ _ p.volatility (and_from _ _ p.slot (and_from _ _ p.checks (and_from _ _ p.averages p.thresholds)))

pub record MarketParts (k : MarketState) : Type 0 where
  pub month : leb k.day.month 1199 ≡ true
  pub percent : leb k.percent 100 ≡ true
  pub overnight : family_keeps k.overnight ≡ true
  pub forward : family_keeps k.forward ≡ true
  pub securities : list_all security_keeps k.securities ≡ true

pub market_parts : (k : MarketState) → market_keeps k ≡ true → MarketParts k
market_parts k h =
    let a = and_parts (leb k.day.month 1199) _ h in
    let b = and_parts (leb k.percent 100) _ a.1 in
    let c = and_parts (family_keeps k.overnight) _ b.1 in
    let d = and_parts (family_keeps k.forward) (list_all security_keeps k.securities) c.1 in
    record { month = a.0; percent = b.0; overnight = c.0; forward = d.0; securities = d.1 }

pub market_from : (k : MarketState) → MarketParts k → market_keeps k ≡ true
market_from k p = and_from _ _ p.month (and_from _ _ p.percent (and_from _ _ p.overnight (and_from _ _ p.forward p.securities)))

pub record FamilyOrderly (f : FamilyState) : Type 0 where
  pub volatile : f.volatility ≤ 1000
  pub averaged : averages_keep f.averages ≡ true
  pub marked : thresholds_keep f.thresholds ≡ true

pub record Orderly (k : MarketState) : Type 0 where
  pub month : k.day.month ≤ 1199
  pub stepped : k.percent ≤ 100
  pub family : (f : Family) → FamilyOrderly (family_state k f)
  pub priced : All (λ s. security_keeps s ≡ true) k.securities

family_orderly : (f : FamilyState) → family_keeps f ≡ true → FamilyOrderly f
family_orderly f h = search rules

either_orderly : (k : MarketState) → FamilyOrderly k.overnight → FamilyOrderly k.forward → (f : Family) → FamilyOrderly (family_state k f)
either_orderly k p q Overnight = p
either_orderly k p q Forward = q

pub orderly : (k : MarketState) → market_keeps k ≡ true → Orderly k
orderly k h =
    let p = market_parts k h in
    record {
      month = leb-true _ _ p.month;
      stepped = leb-true _ _ p.percent;
      family = either_orderly k (family_orderly _ p.overnight) (family_orderly _ p.forward);
      priced = all_from security_keeps (λ s. security_keeps s ≡ true) (λ s h. h) k.securities p.securities;
    }

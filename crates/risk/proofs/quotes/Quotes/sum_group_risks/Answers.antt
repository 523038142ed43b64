use Rattle.std.proofs.Common.{◌≡◌, ℕ, ◌+◌, ◌<◌, None, unwrap_or, ap, ◌∙◌, arith}
use Rattle.std.proofs.lemmas.List.{get_or-take, length-take-le}
use Rattle.tables.specs.Numbers.{sum_below}
use Rattle.tables.proofs.Numbers.{sum_more}
use Rattle.risk.specs.Groups.{groups_of, group_trades}
use Rattle.risk.specs.Losses.{var_of}
use Rattle.risk.specs.Initial.{grouped_risk}
use Rattle.risk.proofs.Alones.{groups_within}
use Rattle.risk.proofs.Apart.{groups_most, standing}
use Rattle.risk.proofs.quotes.Quotes.sum_group_risks.Goals as goal

pub overflow_add-sum : goal.overflow_add-sum
overflow_add-sum g c =
    let m = g.M.MarginModel.meaning c.args.self.now.model.now in
    let law = g.M.MarginModel.lawful c.args.self.now.model.now in
    let day = c.args.self.now.day in
    let ts = c.args.trades.trades.now in
    let stands = standing ts c.args.trades.stand in
    let few = stands.few in
    let i = c.loop-risk.risk-index in
    let risk : ℕ → ℕ = λ k. var_of m day (group_trades c.args.grouping day k ts) in
    let front = length-take-le c.groups.result c.args.risks.now (omega (arith, c.groups.ensures, groups_within c.args.grouping, c.told-risks)) in
    let below : i < c.groups.result = omega (arith, c.loop-risk-test.true, front) in
    let one = c.unwrap_or-sum.ensures ∙ ap (λ o. unwrap_or o 0) (get_or-take c.groups.result c.args.risks.now i None below) ∙ c.requires i in
    record { fits = omega (arith, one, c.loop-risk.invariant.1, groups_most m day c.args.grouping ts (i + 1) law stands, sum_more risk i) }

pub returns-clause-value : goal.returns-clause-value
unfolding grouped_risk
returns-clause-value g c =
    let m = g.M.MarginModel.meaning c.args.self.now.model.now in
    let front = length-take-le c.groups.result c.args.risks.now (omega (arith, c.groups.ensures, groups_within c.args.grouping, c.told-risks)) in
    let all : c.loop-risk.risk-index ≡ groups_of c.args.grouping = omega (arith, c.loop-risk.invariant.0, c.loop-risk-test.false, front, c.groups.ensures) in
    c.loop-risk.invariant.1 ∙ ap (sum_below (λ k. var_of m c.args.self.now.day (group_trades c.args.grouping c.args.self.now.day k c.args.trades.trades.now))) all

pub returns-clause-bound : goal.returns-clause-bound
returns-clause-bound g c =
    let ts = c.args.trades.trades.now in
    omega (arith, c.loop-risk.invariant.1, groups_most (g.M.MarginModel.meaning c.args.self.now.model.now) c.args.self.now.day c.args.grouping ts c.loop-risk.risk-index (g.M.MarginModel.lawful c.args.self.now.model.now) (standing ts c.args.trades.stand))

use Rattle.std.proofs.Common.{◌≡◌, [], sym, ap, ◌∙◌, subst, rules}
use Rattle.std.proofs.lemmas.List.{nil_from_length}
use Rattle.risk.specs.Losses.{var_of, AtRisk}
use Rattle.risk.proofs.Apart.{risk_nought}
use Rattle.risk.proofs.Risks.{var_none, at_risk}
use Rattle.risk.proofs.quotes.Quotes.work_out.Goals as goal

pub returns-then-is_empty-clause-value : goal.returns-then-is_empty-clause-value
returns-then-is_empty-clause-value g c =
    risk_nought (g.M.MarginModel.meaning c.args.self.now.model.now) c.args.self.now.day c.args.percent c.args.trades.trades.now (nil_from_length _ (search rules))
    c.default.result c.default.ensures

pub returns-then-is_empty-clause-words : goal.returns-then-is_empty-clause-words
returns-then-is_empty-clause-words g c =
    let m = g.M.MarginModel.meaning c.args.self.now.model.now in
    let law = g.M.MarginModel.lawful c.args.self.now.model.now in
    let day = c.args.self.now.day in
    let none : c.args.trades.trades.now ≡ [] = nil_from_length _ (search rules) in
    subst (AtRisk m day c.args.trades.trades.now) (ap (var_of m day) none ∙ var_none m day ∙ sym c.default.ensures.1.1.0) (at_risk m day c.args.trades.trades.now law)

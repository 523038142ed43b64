use Rattle.std.proofs.Common.{◌≡◌, true, sym, refl, ap, ◌∙◌}
use Rattle.tables.specs.Limits.{tables_keep}
use Rattle.rules.specs.Outcomes.{Outcome}
use Rattle.rules.specs.declared.call.Answer.{Answer}
use Rattle.refusals.specs.declared.refusal.Refusal.TheVariants.{NoAccount}
use Rattle.refusals.proofs.Facts.{refusal_some}
use Rattle.house.proofs.Acting.{absent, outcome_kept}
use Rattle.house.proofs.Untouched.{others_kept}
use Rattle.house.proofs.account.answer_account.Goals as goal

pub returns-then-account-house : goal.returns-then-account-house
returns-then-account-house g c =
    let n = c.args.house.now.accounts in
    let rs = c.args.records.now in
    let ts = c.args.trades.now in
    let m = g.M.MarginModel.meaning c.args.model.now in
    let k = c.args.house.now.market.state in
    let h : tables_keep n rs ts ≡ true = sym c.if-not-tables_keep.ensures in
    let e = outcome_kept m k n rs ts c.args.account c.args.call h in
    let o = absent m k n rs ts c.args.account c.args.call c.args.house.now.some h c.if-account-house.true in
    record {
      answer = c.refused-then-account-house.ensures ∙ sym (ap (λ (x : Outcome). x.answer) e ∙ o.0);
      rows = sym (ap (λ (x : Outcome). x.rows) e ∙ o.1);
      trades = sym (ap (λ (x : Outcome). x.trades) e ∙ o.2);
      keeps = refl;
      rests = λ nil. absurd (refusal_some NoAccount (sym (ap (λ (a : Answer). a.number) c.refused-then-account-house.ensures) ∙ nil));
      stands = λ _. o.3;
      others = others_kept k n c.args.house.now.some m rs rs ts ts c.args.account c.args.call c.refused-then-account-house.result h h o.3 (c.refused-then-account-house.ensures ∙ sym o.0);
    }

pub returns-clause-others : goal.returns-clause-others
returns-clause-others g c =
    let h : tables_keep c.args.house.now.accounts c.args.records.now c.args.trades.now ≡ true = sym c.if-not-tables_keep.ensures in
    others_kept c.args.house.now.market.state c.args.house.now.accounts c.args.house.now.some (g.M.MarginModel.meaning c.args.model.now) c.args.records.now c.act.new.records c.args.trades.now c.act.new.trades c.args.account c.args.call c.act.result h c.act.ensures.keeps c.act.ensures.stands c.act.ensures.answer

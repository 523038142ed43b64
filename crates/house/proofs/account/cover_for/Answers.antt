use Rattle.std.proofs.Common.{sym, ◌∙◌}
use Rattle.std.proofs.lemmas.Bool.{eq-eqb, cond-true}
use Rattle.house.proofs.Finishing.{cover_books}
use Rattle.house.proofs.account.cover_for.Goals as goal

pub returns-then-account-eq0-clause-value : goal.returns-then-account-eq0-clause-value
returns-then-account-eq0-clause-value c =
    c.stored_cover.ensures
    ∙ cover_books c.args.records.now c.args.trades.now
    ∙ sym (cond-true _ _ _ (eq-eqb c.args.account 0 c.if-account-eq0.true))

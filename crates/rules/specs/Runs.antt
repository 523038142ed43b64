-- Account calls one after the other.
-- Lent: the two tables. lent_after, answer_to: the tables after a call, and its answer. lent_run: the tables after a list of calls.
-- answers_run: the answers to a list of calls.
use Rattle.std.specs.Prelude.{ℕ, List, [], ◌∷◌, fold}
use Rattle.models.specs.Meaning.{Meaning}
use Rattle.tables.specs.declared.row.AccountRow.{AccountRow}
use Rattle.tables.specs.declared.row.TradeRow.{TradeRow}
use Rattle.market.specs.declared.state.MarketState.{MarketState}
use Rattle.rules.specs.declared.call.Answer.{Answer}
use Rattle.rules.specs.declared.call.NamedCall.{NamedCall}
use Rattle.rules.specs.Outcomes.{account_outcome}

abbrev pub Lent : Type 0
Lent = List AccountRow × List TradeRow

module _ (m : Meaning) (k : MarketState) (n : ℕ) where
  unfoldable pub lent_after : Lent → NamedCall → Lent
  lent_after t c = ((account_outcome m k n t.0 t.1 c.account c.call).rows, (account_outcome m k n t.0 t.1 c.account c.call).trades)

  unfoldable pub answer_to : Lent → NamedCall → Answer
  answer_to t c = (account_outcome m k n t.0 t.1 c.account c.call).answer

  abbrev pub lent_run : Lent → List NamedCall → Lent
  lent_run t cs = fold lent_after t cs

  abbrev pub answers_run : Lent → List NamedCall → List Answer
  answers_run t [] = []
  answers_run t (c ∷ cs) = answer_to t c ∷ answers_run (lent_after t c) cs

-- An answered call, said of a model of equal meaning.
use Rattle.std.proofs.Common.{◌≡◌, ℕ, List, ap, ◌∙◌, subst}
use Rattle.models.specs.Meaning.{Meaning}
use Rattle.tables.specs.declared.row.AccountRow.{AccountRow}
use Rattle.tables.specs.declared.row.TradeRow.{TradeRow}
use Rattle.market.specs.declared.state.MarketState.{MarketState}
use Rattle.rules.specs.declared.call.Call.{Call}
use Rattle.rules.specs.declared.call.Reply.{Reply}
use Rattle.engine.specs.Promises.{AnswersCall}

pub moved : {m o : Meaning} {k l : MarketState} {n : ℕ} {rs us : List AccountRow} {ts vs : List TradeRow} {c : Call} {a : Reply} → m ≡ o → AnswersCall m k l n rs us ts vs c a → AnswersCall o k l n rs us ts vs c a
moved {k = k} {l = l} {n = n} {rs = rs} {us = us} {ts = ts} {vs = vs} {c = c} {a = a} e p = subst (λ (x : Meaning). AnswersCall x k l n rs us ts vs c a) e p

-- the meaning of one model out of that of an equal one
pub through : {X : Type 0} {x y : X} {m : Meaning} → x ≡ y → (f : X → Meaning) → f y ≡ m → f x ≡ m
through e f h = ap f e ∙ h

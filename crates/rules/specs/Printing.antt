-- What the answers print: their numbers in decimal, with a blank (byte 32) between two.
-- answer_text: number, obligation, available, shortfall and restriction. market_text: number, set, month and both per cents.
-- reply_text: either.
use Rattle.std.specs.Prelude.{ℕ, List, [], ◌∷◌}
use Rattle.risk.specs.Printing.{numbers_text}
use Rattle.rules.specs.declared.call.Answer.{Answer}
use Rattle.rules.specs.declared.call.MarketAnswer.{MarketAnswer}
use Rattle.rules.specs.declared.call.Reply.{Reply}
use Rattle.rules.specs.declared.call.Reply.TheVariants.{Account, Market}

abbrev pub answer_text : Answer → List ℕ
answer_text a = numbers_text (a.number ∷ a.obligation ∷ a.available ∷ a.shortfall ∷ a.restriction ∷ [])

abbrev pub market_text : MarketAnswer → List ℕ
market_text a = numbers_text (a.number ∷ a.set ∷ a.month ∷ a.overnight ∷ a.forward ∷ [])

abbrev pub reply_text : Reply → List ℕ
reply_text (Account a) = answer_text a
reply_text (Market a) = market_text a

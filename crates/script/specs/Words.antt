-- The words that a line may begin with. Assumes nothing.
--   word_text          how each is written
--   Written            a word, and how it is written
--   account_words      the words of trades and shows, as they are written
--   collateral_words   of collateral
--   market_words       of market calls
--   session_words      and the others
--   looked_up          the word that a text is, in such a table
--   or_else            the first of two words that is there
--   account_word, collateral_word, market_word, session_word   the word that a text is, in each of the four
--   word_named         the word that a text is, in all four
--   account_call_word, market_call_word   the word that asks for a call of an account, and of the market
--   call_word          the word that asks for a call
use Rattle.std.specs.Prelude.{ℕ, if◌then◌else◌, List, [], ◌∷◌, Some, None, codes, Option}
use Rattle.std.specs.Str.{bytes_eq}
use Rattle.market.specs.declared.call.MarketCall.{MarketCall}
use Rattle.market.specs.declared.call.MarketCall.TheVariants.{Set as SetCall, Price as PriceCall, StepUp as StepUpCall, Averages as AveragesCall, Thresholds as ThresholdsCall, Volatility as VolatilityCall, Close as CloseCall, Month as MonthCall}
use Rattle.rules.specs.declared.call.AccountCall.{AccountCall}
use Rattle.rules.specs.declared.call.AccountCall.TheVariants.{Trade as TradeCall, End as EndCall, LodgeCash as LodgeCashCall, DrawCash as DrawCashCall, LodgeSecurity as LodgeSecurityCall, DrawSecurity as DrawSecurityCall, Show as ShowCall}
use Rattle.rules.specs.declared.call.Call.{Call}
use Rattle.rules.specs.declared.call.Call.TheVariants.{Account, Market}
use Rattle.script.specs.declared.word.Word.{Word}
use Rattle.script.specs.declared.word.Word.TheVariants.{Open, Model, Trade, End, LodgeCash, DrawCash, LodgeSecurity, DrawSecurity, Show, Set, Price, StepUp, Averages, Thresholds, Check, Close, Month, Report}

abbrev pub word_text : Word → List ℕ
word_text Open = codes "open"
word_text Model = codes "model"
word_text Trade = codes "trade"
word_text End = codes "end"
word_text LodgeCash = codes "lodge-cash"
word_text DrawCash = codes "draw-cash"
word_text LodgeSecurity = codes "lodge-security"
word_text DrawSecurity = codes "draw-security"
word_text Show = codes "show"
word_text Set = codes "set"
word_text Price = codes "price"
word_text StepUp = codes "step-up"
word_text Averages = codes "averages"
word_text Thresholds = codes "thresholds"
word_text Check = codes "check"
word_text Close = codes "close"
word_text Month = codes "month"
word_text Report = codes "report"

abbrev pub Written : Type 0
Written = List ℕ × Word

abbrev pub account_words : List Written
account_words = (codes "trade", Trade) ∷ (codes "end", End) ∷ (codes "show", Show) ∷ []

abbrev pub collateral_words : List Written
collateral_words =
    (codes "lodge-cash", LodgeCash) ∷ (codes "draw-cash", DrawCash) ∷ (codes "lodge-security", LodgeSecurity) ∷ (codes "draw-security", DrawSecurity) ∷ []

abbrev pub market_words : List Written
market_words =
    (codes "set", Set) ∷ (codes "price", Price) ∷ (codes "step-up", StepUp) ∷ (codes "averages", Averages)
    ∷ (codes "thresholds", Thresholds) ∷ (codes "check", Check) ∷ (codes "close", Close) ∷ (codes "month", Month) ∷ []

abbrev pub session_words : List Written
session_words = (codes "open", Open) ∷ (codes "model", Model) ∷ (codes "report", Report) ∷ []

abbrev pub looked_up : List ℕ → List Written → Option Word
looked_up t [] = None
looked_up t (p ∷ ps) = if bytes_eq t p.0 then Some p.1 else looked_up t ps

abbrev pub or_else : Option Word → Option Word → Option Word
or_else None o = o
or_else (Some w) o = Some w

unfoldable pub account_word : List ℕ → Option Word
account_word t = looked_up t account_words

unfoldable pub collateral_word : List ℕ → Option Word
collateral_word t = looked_up t collateral_words

unfoldable pub market_word : List ℕ → Option Word
market_word t = looked_up t market_words

unfoldable pub session_word : List ℕ → Option Word
session_word t = looked_up t session_words

unfoldable pub word_named : List ℕ → Option Word
word_named t = or_else (account_word t) (or_else (collateral_word t) (or_else (market_word t) (session_word t)))

abbrev pub account_call_word : AccountCall → Word
account_call_word (TradeCall t) = Trade
account_call_word (EndCall n) = End
account_call_word (LodgeCashCall a) = LodgeCash
account_call_word (DrawCashCall a) = DrawCash
account_call_word (LodgeSecurityCall s l) = LodgeSecurity
account_call_word (DrawSecurityCall s l) = DrawSecurity
account_call_word ShowCall = Show

abbrev pub market_call_word : MarketCall → Word
market_call_word (SetCall s) = Set
market_call_word (PriceCall q) = Price
market_call_word (StepUpCall p) = StepUp
market_call_word (AveragesCall f a) = Averages
market_call_word (ThresholdsCall f t) = Thresholds
market_call_word (VolatilityCall c) = Check
market_call_word CloseCall = Close
market_call_word (MonthCall m) = Month

abbrev pub call_word : Call → Word
call_word (Account named) = account_call_word named.call
call_word (Market change) = market_call_word change

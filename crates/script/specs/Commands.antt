-- What a line asks for. Assumes nothing.
--   trade_fields, five       the fields of a trade without its account, and of five numbers
--   fields_for               the fields that each word wants
--   at, five_from            the number of a field, and five from a field on
--   on_account, of_market    a call of an account, and of the market, as a command
--   made                     what is asked for by a word with the numbers of its fields
--   Found, made_of           what is asked for, with the text after its fields
--   command_in               a word's fields read: what is asked for, and the text after them
--   ended                    no word may be left
--   by_word, whole_of        what a text asks for by its first word
--   asked_in                 what a text asks for, or nothing where it has no word
--   command_of               what a line asks for, nothing where it has no word, or why it cannot be read
use Rattle.std.specs.Prelude.{ℕ, cond, List, [], ◌∷◌, ◌++◌, length, take, drop, Some, None, Ok, Err, Option, Result, ◌==◌, slice_index}
use Rattle.scan.specs.Words.{word_of, rest_of}
use Rattle.market.specs.declared.call.MarketCall.{MarketCall}
use Rattle.market.specs.declared.call.MarketCall.TheVariants.{Set as SetCall, Price as PriceCall, StepUp as StepUpCall, Averages as AveragesCall, Thresholds as ThresholdsCall, Volatility as VolatilityCall, Close as CloseCall, Month as MonthCall}
use Rattle.rules.specs.declared.call.AccountCall.{AccountCall}
use Rattle.rules.specs.declared.call.AccountCall.TheVariants.{Trade as TradeCall, End as EndCall, LodgeCash as LodgeCashCall, DrawCash as DrawCashCall, LodgeSecurity as LodgeSecurityCall, DrawSecurity as DrawSecurityCall, Show as ShowCall}
use Rattle.rules.specs.declared.call.Call.TheVariants.{Account, Market}
use Rattle.script.specs.declared.command.Command.{Command}
use Rattle.script.specs.declared.command.Command.TheVariants.{Open as OpenCommand, Model as ModelCommand, Call as CallCommand, Report as ReportCommand}
use Rattle.script.specs.declared.reason.Reason.{Reason}
use Rattle.script.specs.declared.reason.Reason.TheVariants.{UnknownWord, TooManyWords}
use Rattle.script.specs.declared.word.Word.{Word}
use Rattle.script.specs.declared.word.Word.TheVariants.{Open, Model, Trade, End, LodgeCash, DrawCash, LodgeSecurity, DrawSecurity, Show, Set, Price, StepUp, Averages, Thresholds, Check, Close, Month, Report}
use Rattle.script.specs.Fields.{Field, name, bits8, bits16, bits32, bits64, then, Taken, fields_of}
use Rattle.script.specs.Lines.{uncommented}
use Rattle.script.specs.Words.{word_named}

abbrev pub trade_fields : List Field
trade_fields = bits32 ∷ bits8 ∷ bits8 ∷ bits16 ∷ bits32 ∷ bits32 ∷ []

abbrev pub five : List Field
five = bits32 ∷ bits32 ∷ bits32 ∷ bits32 ∷ bits32 ∷ []

abbrev pub fields_for : Word → List Field
fields_for Open = bits32 ∷ bits16 ∷ []
fields_for Model = name ∷ []
fields_for Trade = bits32 ∷ trade_fields
fields_for End = bits32 ∷ bits32 ∷ []
fields_for LodgeCash = bits32 ∷ bits64 ∷ []
fields_for DrawCash = bits32 ∷ bits64 ∷ []
fields_for LodgeSecurity = bits32 ∷ bits32 ∷ bits32 ∷ []
fields_for DrawSecurity = bits32 ∷ bits32 ∷ bits32 ∷ []
fields_for Show = bits32 ∷ []
fields_for Set = bits32 ∷ []
fields_for Price = bits32 ∷ bits32 ∷ bits32 ∷ bits32 ∷ []
fields_for StepUp = bits32 ∷ []
fields_for Averages = bits32 ∷ bits64 ∷ bits64 ∷ []
fields_for Thresholds = bits32 ∷ (five ++ five)
fields_for Check = bits32 ∷ bits32 ∷ five
fields_for Close = []
fields_for Month = bits16 ∷ []
fields_for Report = []

-- the number of a field, counted from 0
abbrev pub at : List ℕ → ℕ → ℕ
at xs i = slice_index xs i

-- five numbers, from the field i on
abbrev pub five_from : List ℕ → ℕ → List ℕ
five_from xs i = take 5 (drop i xs)

abbrev pub on_account : ℕ → AccountCall → Command
on_account i c = CallCommand (Account (record { account = i; call = c }))

abbrev pub of_market : MarketCall → Command
of_market c = CallCommand (Market c)

abbrev pub made : Word → List ℕ → Command
made Open xs = OpenCommand (at xs 0) (at xs 1)
made Model xs = ModelCommand
made Trade xs = on_account (at xs 0) (TradeCall (record { number = at xs 1; benchmark = at xs 2; side = at xs 3; maturity = at xs 4; notional = at xs 5; rate = at xs 6 }))
made End xs = on_account (at xs 0) (EndCall (at xs 1))
made LodgeCash xs = on_account (at xs 0) (LodgeCashCall (at xs 1))
made DrawCash xs = on_account (at xs 0) (DrawCashCall (at xs 1))
made LodgeSecurity xs = on_account (at xs 0) (LodgeSecurityCall (at xs 1) (at xs 2))
made DrawSecurity xs = on_account (at xs 0) (DrawSecurityCall (at xs 1) (at xs 2))
made Show xs = on_account (at xs 0) ShowCall
made Set xs = of_market (SetCall (at xs 0))
made Price xs = of_market (PriceCall (record { security = at xs 0; price = at xs 1; haircut = at xs 2; listed = at xs 3 }))
made StepUp xs = of_market (StepUpCall (at xs 0))
made Averages xs = of_market (AveragesCall (at xs 0) (record { initial = at xs 1; gross = at xs 2 }))
made Thresholds xs = of_market (ThresholdsCall (at xs 0) (record { triggers = five_from xs 1; calm = five_from xs 6 }))
made Check xs = of_market (VolatilityCall (record { family = at xs 0; slot = at xs 1; returns = five_from xs 2 }))
made Close xs = of_market CloseCall
made Month xs = of_market (MonthCall (at xs 0))
made Report xs = ReportCommand

abbrev pub Found : Type 0
Found = Command × List ℕ

abbrev pub made_of : Word → Taken → Result Found Reason
made_of w t = Ok (made w t.0, t.1)

unfoldable pub command_in : Word → List ℕ → Result Found Reason
command_in w bs = then (fields_of (fields_for w) bs) (made_of w)

-- no word may be left
abbrev pub ended : Found → Result Command Reason
ended f = cond (length (word_of f.1) == 0) (Ok f.0) (Err TooManyWords)

abbrev pub by_word : Option Word → List ℕ → Result Command Reason
by_word None bs = Err UnknownWord
by_word (Some w) bs = then (command_in w bs) ended

-- the command of a text that has a word
unfoldable pub whole_of : List ℕ → Result Command Reason
whole_of bs = by_word (word_named (word_of bs)) (rest_of bs)

abbrev pub asked_in : List ℕ → Result (Option Command) Reason
asked_in bs = cond (length (word_of bs) == 0) (Ok None) (then (whole_of bs) (λ c. Ok (Some c)))

abbrev pub command_of : List ℕ → Result (Option Command) Reason
command_of line = asked_in (uncommented line)

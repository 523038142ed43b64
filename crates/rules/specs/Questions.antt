-- What an account call asks of the named account, in order.
-- amount_fits, lots_fit, in_term: the tests of an amount, of lots and of a maturity.
-- trade_questions, end_questions, lodge_cash_questions, draw_cash_questions, lodge_security_questions, draw_security_questions: the questions
-- on the numbers of each such call and the book as it stands. asked_before: of any call.
-- traded_questions, drawn_questions, asked_after: the questions on the figures with the change, r being the record as it stands and q as it would settle.
-- restricted_by: whether a record is restricted; the house by its own flag alone. covered: available reaches the obligation.
use Rattle.std.specs.Prelude.{ℕ, ◌+◌, Bool, if◌then◌else◌, not, ◌&&◌, ◌||◌, List, [], ◌∷◌, nat_le, nat_lt, slice_index}
use Rattle.tables.specs.declared.row.AccountRow.{AccountRow}
use Rattle.tables.specs.declared.row.TradeRow.{TradeRow}
use Rattle.tables.specs.Books.{Book, standing_of}
use Rattle.market.specs.declared.state.MarketState.{MarketState}
use Rattle.rules.specs.declared.call.AccountCall.{AccountCall}
use Rattle.rules.specs.declared.call.AccountCall.TheVariants.{Trade, End, LodgeCash, DrawCash, LodgeSecurity, DrawSecurity, Show}
use Rattle.refusals.specs.declared.refusal.Refusal.TheVariants.{WrongBenchmark, WrongSide, WrongNotional, WrongRate, WrongMaturity, NumberUsed, TooManyTrades, NotLower, NotCovered, NoTrade, WrongAmount, OverLimit, NotHeld, DrawnShort, NoSecurity, WrongLots}
use Rattle.rules.specs.Changes.{holds}
use Rattle.refusals.specs.Refusals.{Question}

abbrev pub amount_fits : ℕ → Bool
amount_fits x = nat_le 1 x && nat_le x 100000000000000

abbrev pub lots_fit : ℕ → Bool
lots_fit n = nat_le 1 n && nat_le n 1000000

-- from the current month to 120 months later
abbrev pub in_term : MarketState → ℕ → Bool
in_term k maturity = nat_le k.day.month maturity && nat_le maturity (k.day.month + 120)

abbrev pub trade_questions : MarketState → Book → TradeRow → List Question
trade_questions k b t =
    (nat_le t.benchmark 3, WrongBenchmark)
    ∷ (nat_le t.side 1, WrongSide)
    ∷ (nat_le 1 t.notional && nat_le t.notional 1000000, WrongNotional)
    ∷ (nat_le t.rate 200000, WrongRate)
    ∷ (in_term k t.maturity, WrongMaturity)
    ∷ (not (holds t.number (standing_of b)), NumberUsed)
    ∷ (nat_lt b.row.trades 64, TooManyTrades)
    ∷ []

abbrev pub end_questions : Book → ℕ → List Question
end_questions b n = (holds n (standing_of b), NoTrade) ∷ []

abbrev pub lodge_cash_questions : AccountRow → ℕ → List Question
lodge_cash_questions r x = (amount_fits x, WrongAmount) ∷ (nat_le (r.cash + x) 100000000000000, OverLimit) ∷ []

abbrev pub draw_cash_questions : AccountRow → ℕ → List Question
draw_cash_questions r x = (amount_fits x, WrongAmount) ∷ (nat_le x r.cash, NotHeld) ∷ []

abbrev pub lodge_security_questions : AccountRow → ℕ → ℕ → List Question
lodge_security_questions r s n =
    (nat_lt s 32, NoSecurity) ∷ (lots_fit n, WrongLots) ∷ (nat_le (slice_index r.lots s + n) 1000000, OverLimit) ∷ []

abbrev pub draw_security_questions : AccountRow → ℕ → ℕ → List Question
draw_security_questions r s n = (nat_lt s 32, NoSecurity) ∷ (lots_fit n, WrongLots) ∷ (nat_le n (slice_index r.lots s), NotHeld) ∷ []

abbrev pub asked_before : MarketState → Book → AccountCall → List Question
asked_before k b (Trade t) = trade_questions k b t
asked_before k b (End n) = end_questions b n
asked_before k b (LodgeCash x) = lodge_cash_questions b.row x
asked_before k b (DrawCash x) = draw_cash_questions b.row x
asked_before k b (LodgeSecurity s n) = lodge_security_questions b.row s n
asked_before k b (DrawSecurity s n) = draw_security_questions b.row s n
asked_before k b Show = []

abbrev pub restricted_by : Bool → AccountRow → Bool
restricted_by house r = if house then r.own else (r.own || r.second)

abbrev pub covered : AccountRow → Bool
covered q = nat_le q.obligation q.available

abbrev pub traded_questions : Bool → AccountRow → AccountRow → List Question
traded_questions house r q =
    (not (restricted_by house r) || nat_lt q.obligation r.obligation, NotLower)
    ∷ (restricted_by house r || covered q, NotCovered)
    ∷ []

abbrev pub drawn_questions : AccountRow → List Question
drawn_questions q = (covered q, DrawnShort) ∷ []

abbrev pub asked_after : Bool → AccountRow → AccountRow → AccountCall → List Question
asked_after house r q (Trade t) = traded_questions house r q
asked_after house r q (End n) = []
asked_after house r q (LodgeCash x) = []
asked_after house r q (DrawCash x) = drawn_questions q
asked_after house r q (LodgeSecurity s n) = []
asked_after house r q (DrawSecurity s n) = drawn_questions q
asked_after house r q Show = []

-- The lines that a script prints: words and decimal numbers, as `line` of crate `scan` puts them together. Assumes nothing.
--   reply_line     of line n of the script, a call that was made: the call's word and the reply
--   place_words    a place as a word, if there is one
--   refused_line   of a model that was refused: its number, and the place if it has one
--   right, left    a column of a table: a number at its right end, a word at its left
--   restriction_word   which flags restrict an account: none, own, second or both
--   record_line    a row of the report's table: an account and its record; an empty word makes the two blanks before the restriction
--   record_lines   a row for each account, from the account of this number on
--   report_line    the first line of the report: how many accounts, the set, the month, and both volatilities
--   heading        the names of the columns
--   report_text    the report of what is held: market, heading, and a row for each account
--   said_text      of what is said to line n, where this is held after it
use Rattle.std.specs.Prelude.{ℕ, ◌+◌, ◌-◌, Bool, true, false, List, [], ◌∷◌, ◌++◌, length, replicate, Some, None, Ok, Err, Option, codes}
use Rattle.std.specs.Fmt.{decimal}
use Rattle.models.specs.Refusals.{number_of, place_of}
use Rattle.models.specs.declared.refusal.MakingRefusal.{MakingRefusal}
use Rattle.scan.specs.Texts.{line}
use Rattle.tables.specs.declared.row.AccountRow.{AccountRow}
use Rattle.rules.specs.Printing.{reply_text}
use Rattle.rules.specs.declared.call.Call.{Call}
use Rattle.rules.specs.declared.call.Reply.{Reply}
use Rattle.script.specs.Words.{word_text, call_word}
use Rattle.script.specs.Reasons.{reason_text}
use Rattle.session.specs.Held.{Held}
use Rattle.session.specs.Lines.{Reply as LineReply}
use Rattle.session.specs.declared.said.Said.TheVariants.{Nothing, Opened, Loaded, Refused, Replied, Report}

abbrev pub reply_line : ℕ → Call → Reply → List ℕ
reply_line n c r = line (decimal n ∷ word_text (call_word c) ∷ reply_text r ∷ [])

abbrev pub place_words : Option ℕ → List (List ℕ)
place_words None = []
place_words (Some place) = decimal place ∷ []

abbrev pub refused_line : ℕ → MakingRefusal → List ℕ
refused_line n e = line (decimal n ∷ codes "model" ∷ decimal (number_of e) ∷ place_words (place_of e))

abbrev pub right : ℕ → ℕ → List ℕ
right width n = replicate (width - length (decimal n)) 32 ++ decimal n

abbrev pub left : ℕ → List ℕ → List ℕ
left width word = word ++ replicate (width - length word) 32

-- what an account is restricted by: its own flag, its second flag
abbrev pub restriction_word : Bool → Bool → List ℕ
restriction_word true true = codes "both"
restriction_word true false = codes "own"
restriction_word false true = codes "second"
restriction_word false false = codes "none"

abbrev pub record_line : ℕ → AccountRow → List ℕ
record_line account r =
    line (right 7 account ∷ right 19 r.obligation ∷ right 19 r.available ∷ right 19 r.shortfall ∷ [] ∷ left 11 (restriction_word r.own r.second) ∷ right 6 r.trades ∷ [])

abbrev pub record_lines : ℕ → List AccountRow → List ℕ
record_lines account [] = []
record_lines account (r ∷ rs) = record_line account r ++ record_lines (account + 1) rs

abbrev pub report_line : ℕ → Held → List ℕ
report_line n h =
    line (decimal n ∷ codes "report" ∷ decimal (length h.rows) ∷ decimal h.market.day.set ∷ decimal h.market.day.month ∷ decimal h.market.overnight.volatility ∷ decimal h.market.forward.volatility ∷ [])

abbrev pub heading : List ℕ
heading = line (codes "account          obligation           available           shortfall  restriction trades" ∷ [])

abbrev pub report_text : ℕ → Held → List ℕ
report_text n h = report_line n h ++ heading ++ record_lines 0 h.rows

abbrev pub said_text : ℕ → Held → LineReply → List ℕ
said_text n h (Ok Nothing) = []
said_text n h (Ok (Opened number)) = line (decimal n ∷ codes "open" ∷ decimal number ∷ [])
said_text n h (Ok Loaded) = line (decimal n ∷ codes "model" ∷ codes "0" ∷ [])
said_text n h (Ok (Refused e)) = refused_line n e
said_text n h (Ok (Replied c r)) = reply_line n c r
said_text n h (Ok Report) = report_text n h
said_text n h (Err reason) = line (decimal n ∷ codes "error" ∷ reason_text reason ∷ [])

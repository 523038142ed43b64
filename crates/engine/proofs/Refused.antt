-- A refused call changes nothing: market and both tables are as they were.
use Rattle.std.proofs.Common.{◌≡◌, ◌≢◌, ℕ, ◌≤◌, Bool, true, false, List, length, refl, ap, ◌∙◌, Ok, Err, Result}
use Rattle.std.specs.Prelude.{nat_lt, slice_index_or, if◌then◌else◌}
use Rattle.models.specs.Meaning.{Meaning}
use Rattle.refusals.specs.declared.refusal.Refusal.{Refusal}
use Rattle.refusals.specs.Refusals.{first_no, number_of, result_number, decided}
use Rattle.tables.specs.declared.row.AccountRow.{AccountRow}
use Rattle.tables.specs.declared.row.TradeRow.{TradeRow}
use Rattle.tables.specs.Books.{Book, no_book}
use Rattle.tables.specs.Limits.{tables_keep}
use Rattle.market.specs.declared.call.MarketCall.{MarketCall}
use Rattle.market.specs.declared.state.MarketState.{MarketState}
use Rattle.market.specs.Calls.{market_questions, market_changed}
use Rattle.rules.specs.declared.call.AccountCall.{AccountCall}
use Rattle.rules.specs.Stands.{Stand, Verdict, standing, books_in, rows_of, trades_of, verdict, concluded, after_account, refused, granted}
use Rattle.rules.specs.Outcomes.{verdict_number, account_outcome, Outcome, answer_of, blank_answer, account_reply}
use Rattle.rules.specs.MarketCalls.{market_outcome, MarketOutcome, all_settled, after_market, market_answer, market_reply}
use Rattle.house.proofs.Lent.{rows_stand, trades_stand}
use Rattle.rules.specs.declared.call.Answer.{Answer}
use Rattle.refusals.specs.declared.refusal.Refusal.TheVariants.{NoAccount, Tables}

module _ (m : Meaning) (k : MarketState) (n : ℕ) (some : 1 ≤ n) (rs : List AccountRow) (ts : List TradeRow) where
  abbrev s : Stand
  s = standing k rs ts

  -- an account call
  module _ (i : ℕ) (c : AccountCall) where
    concluded_same : (v : Verdict Book) → verdict_number v ≢ 0 → concluded m s i v ≡ s
    concluded_same (refused e) ne = refl
    concluded_same (granted b) ne = absurd (ne refl)

    abbrev replied : Bool → Answer
    replied there = if there then answer_of (verdict_number (verdict m s i c)) (slice_index_or (books_in (after_account m s i c)) i no_book).row else blank_answer (number_of NoAccount)

    after_same : (there : Bool) → (replied there).number ≢ 0 → (if there then concluded m s i (verdict m s i c) else s) ≡ s
    after_same true ne = concluded_same (verdict m s i c) ne
    after_same false ne = refl

    abbrev made : Bool → Outcome
    made keeps =
        if keeps
        then record { answer = account_reply m s i c; rows = rows_of (after_account m s i c); trades = trades_of (after_account m s i c) }
        else record { answer = blank_answer (number_of Tables); rows = rs; trades = ts }

    made_same : (keeps : Bool) → tables_keep n rs ts ≡ keeps → (made keeps).answer.number ≢ 0 → ((made keeps).rows ≡ rs) × ((made keeps).trades ≡ ts)
    made_same true h ne =
        let e : after_account m s i c ≡ s = after_same (nat_lt i (length (books_in s))) ne in
        (ap rows_of e ∙ rows_stand k n rs ts some h, ap trades_of e ∙ trades_stand k n rs ts some h)
    made_same false h ne = (refl, refl)

    pub account_refused : (account_outcome m k n rs ts i c).answer.number ≢ 0 → ((account_outcome m k n rs ts i c).rows ≡ rs) × ((account_outcome m k n rs ts i c).trades ≡ ts)
    account_refused ne = made_same (tables_keep n rs ts) refl ne

  -- a market call
  module _ (c : MarketCall) where
    decided_same : (a : Result (Unit {0}) Refusal) → result_number a ≢ 0 → decided a (all_settled m (market_changed c k) c s) (λ e. s) ≡ s
    decided_same (Ok x) ne = absurd (ne refl)
    decided_same (Err e) ne = refl

    abbrev left : Bool → MarketOutcome
    left keeps =
        if keeps
        then record { answer = market_reply m s c; market = (after_market m s c).market; rows = rows_of (after_market m s c); trades = trades_of (after_market m s c) }
        else record { answer = market_answer (number_of Tables) k; market = k; rows = rs; trades = ts }

    left_same : (keeps : Bool) → tables_keep n rs ts ≡ keeps → (left keeps).answer.number ≢ 0 → ((left keeps).market ≡ k) × ((left keeps).rows ≡ rs) × ((left keeps).trades ≡ ts)
    left_same true h ne =
        let e : after_market m s c ≡ s = decided_same (first_no (market_questions m.sets k c)) ne in
        (ap (λ (x : Stand). x.market) e, ap rows_of e ∙ rows_stand k n rs ts some h, ap trades_of e ∙ trades_stand k n rs ts some h)
    left_same false h ne = (refl, refl, refl)

    pub market_refused : (market_outcome m k n rs ts c).answer.number ≢ 0 → ((market_outcome m k n rs ts c).market ≡ k) × ((market_outcome m k n rs ts c).rows ≡ rs) × ((market_outcome m k n rs ts c).trades ≡ ts)
    market_refused ne = left_same (tables_keep n rs ts) refl ne

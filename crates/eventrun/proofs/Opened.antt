-- What an opening and the answers after it make of a file.
use Rattle.std.proofs.Common.{◌≡◌, ℕ, ◌*◌, ◌≤◌, min, Bool, true, cond, ◌&&◌, eqb, leb, List, [], ◌∷◌, map, length, take, Some, Ok, vec_items, sym, refl, ap, ◌∙◌, subst, ap₂, arith}
use lib.ListN.{length-map}
use Rattle.std.proofs.lemmas.List.{length-replicate, take_all}
use Rattle.models.specs.Meaning.{Meaning}
use Rattle.tables.specs.Limits.{no_trade}
use Rattle.tables.specs.declared.row.AccountRow.{AccountRow}
use Rattle.tables.specs.declared.row.TradeRow.{TradeRow}
use Rattle.events.specs.declared.event.Event.{Event}
use Rattle.events.specs.declared.event.Event.TheVariants.{Open}
use Rattle.market.specs.declared.state.MarketState.{MarketState}
use Rattle.rules.specs.declared.call.Event.{Event as ListedEvent}
use Rattle.rules.specs.declared.call.Reply.{Reply}
use Rattle.rules.specs.declared.call.Reply.TheVariants.{Account as AccountReply}
use Rattle.refusals.specs.declared.refusal.Refusal.TheVariants.{Tables, WrongAccounts, WrongOpeningMonth}
use Rattle.refusals.specs.Refusals.{first_no, result_number}
use Rattle.rules.specs.Opening.{opening_questions, opened_market, opened_rows, opened_trades, empty_row}
use Rattle.rules.specs.Runs.{answers_run}
use Rattle.rules.specs.Stands.{rows_of, trades_of}
use Rattle.isolation.specs.Runs.{run, replies, opened}
use Rattle.opening.proofs.Opened.{allowed, opened_keeps}
use Rattle.house.proofs.Lent.{rows_stand, trades_stand}
use Rattle.engine.specs.Promises.{HeldBy, PlaysDay}
use Rattle.engine.proofs.Played.{isolated_day}
use Rattle.eventrun.specs.Calls.{calls_in, event_of}
use Rattle.eventrun.specs.Files.{answer_in, opening_number, Plays}
use Rattle.eventrun.specs.declared.play.Played.{Played as FilePlayed}
use Rattle.eventrun.proofs.Answered.{answers_back, replies_answers}

min_same : (x : ℕ) → min x x ≡ x
min_same x = omega arith

-- the number depends on the lengths of the tables alone
pub number_by_lengths : (n month : ℕ) (rs : List AccountRow) (ts : List TradeRow) → length rs ≡ n → length ts ≡ 64 * n
    → result_number (first_no (opening_questions n month rs ts)) ≡ opening_number n month
number_by_lengths n month rs ts er et =
    ap₂ (λ (a b : ℕ). result_number (first_no ((leb 1 n && leb n 32, WrongAccounts) ∷ (leb month 1199, WrongOpeningMonth) ∷ (eqb a n && eqb b (64 * n), Tables) ∷ [])))
    (er ∙ sym (length-replicate n empty_row)) (et ∙ sym (length-replicate (64 * n) no_trade))

module _ (m : Meaning) (n month : ℕ) (es : List Event) (rs us : List AccountRow) (ts vs : List TradeRow) (k l : MarketState) (h h' : ℕ) (cs : List ListedEvent) (os ps : List Reply) (p : FilePlayed)
    (er : length rs ≡ n) (et : length ts ≡ 64 * n) where
  pub accepted : (r : ℕ) → PlaysDay m month n k l h h' rs us ts vs cs os ps (Ok r) → cs ≡ map event_of (calls_in es) → length os ≡ length cs → length ps ≡ length os → p.number ≡ Some 0 → vec_items p.answers ≡ map answer_in ps → Plays m (Open n month ∷ es) p
  unfolding opened
  accepted r day ec eb ea ep ev =
      let t = day.2 in
      let named = calls_in es in
      let first = opened month n in
      let answers = answers_run m (opened_market month) n (opened_rows n, opened_trades n) named in
      let all : r ≡ length cs = t.played ∙ ap (λ (x : ℕ). min (length cs) x) eb ∙ min_same (length cs) in
      let whole : take r ps ≡ ps = take_all r ps (omega (arith, all, eb, ea)) in
      let calls : take r cs ≡ map event_of named = take_all r cs (omega (arith, all)) ∙ ec in
      let some : 1 ≤ n = (allowed n month rs ts day.0).some in
      let keeps = opened_keeps n some in
      let long : r ≡ length named = all ∙ ap length ec ∙ length-map named event_of in
      let heard : replies m first (map event_of named) ≡ map AccountReply (answers_run m (opened_market month) n (rows_of first, trades_of first) named) =
      replies_answers m n (opened_market month) first named refl (λ i le. subst (λ (xs : List ListedEvent). HeldBy n (run m first (take i xs))) ec (t.throughout i (omega (arith, le, long)))) in
      let replied : ps ≡ map AccountReply answers =
      sym whole ∙ t.replied ∙ ap (replies m first) calls ∙ heard
      ∙ ap₂ (λ (x : List AccountRow) (y : List TradeRow). map AccountReply (answers_run m (opened_market month) n (x, y) named)) (rows_stand (opened_market month) n (opened_rows n) (opened_trades n) some keeps) (trades_stand (opened_market month) n (opened_rows n) (opened_trades n) some keeps) in
      let said : vec_items p.answers ≡ answers = ev ∙ ap (map answer_in) replied ∙ answers_back answers in
      let same : 0 ≡ opening_number n month = ap result_number (sym day.0) ∙ number_by_lengths n month rs ts er et in
      let none : eqb (opening_number n month) 0 ≡ true = ap (λ (y : ℕ). eqb y 0) (sym same) in
      record {
        number = ep ∙ ap (λ (y : ℕ). Some y) same;
        answers = said ∙ sym (ap (λ (b : Bool). cond b answers []) none);
        isolated = λ _. isolated_day m month n some (map event_of named) (map AccountReply (vec_items p.answers)) (run m first (map event_of named))
            (ap (map AccountReply) said ∙ sym replied ∙ sym whole ∙ t.replied ∙ ap (replies m first) calls) refl;
      }

-- The house's view goes by what the house is told.
use Rattle.std.proofs.Common.{◌≡◌, ℕ, true, false, nat_eq, map, slice_set, Ok, Err, Result, sym, refl, ap, ◌∙◌, subst, true≢false}
use Rattle.std.proofs.lemmas.Bool.{eqb-true, eqb-false}
use Rattle.models.specs.Meaning.{Meaning}
use Rattle.refusals.specs.declared.refusal.Refusal.{Refusal}
use Rattle.refusals.specs.declared.refusal.Refusal.TheVariants.{Tables}
use Rattle.refusals.specs.Refusals.{first_no, decided, number_of, result_number}
use Rattle.tables.specs.Books.{Book}
use Rattle.market.specs.declared.call.MarketCall.{MarketCall}
use Rattle.market.specs.declared.state.MarketState.{MarketState}
use Rattle.market.specs.Calls.{market_questions, market_changed}
use Rattle.rules.specs.declared.call.AccountCall.{AccountCall}
use Rattle.rules.specs.declared.call.Call.TheVariants.{Account, Market}
use Rattle.rules.specs.declared.call.Event.{Event}
use Rattle.rules.specs.declared.call.Event.TheVariants.{RightTables, WrongTables}
use Rattle.rules.specs.declared.call.Reply.{Reply}
use Rattle.rules.specs.declared.call.Reply.TheVariants.{Account as AccountReply, Market as MarketReply}
use Rattle.rules.specs.Settling.{settled, house_settled}
use Rattle.rules.specs.Stands.{Stand, Verdict, refused, granted, cover_of, ordered, finish, after_account}
use Rattle.rules.specs.Outcomes.{answer_of, blank_answer, verdict_number, account_reply}
use Rattle.rules.specs.MarketCalls.{aged, market_answer}
use Rattle.rules.proofs.Resting.{cover_reflagged}
use Rattle.isolation.specs.Runs.{after, reply}
use Rattle.isolation.specs.Views.{View, house_view, concerns}
use Rattle.isolation.proofs.Steps.{house_after, constituent_after, market_after, house_verdict, constituent_verdict, house_steps, house_replies, account_cases, Rests, rests_after}
use Rattle.isolation.proofs.Unwinding.{Unwound}

abbrev look : MarketState → ℕ → Book → View ℕ
look k x b = record { market = k; figure = x; own = b }

module _ (m : Meaning) where
  -- what an order on the own account, and a market call, leave in the view; x is the cover after it
  abbrev by_order : View ℕ → ℕ → Verdict Book → View ℕ
  by_order v x (refused e) = v
  by_order v x (granted b) = look v.market x (house_settled m v.market x b)

  abbrev by_market : View ℕ → ℕ → MarketCall → Result (Unit {0}) Refusal → View ℕ
  by_market v x c a = decided a (look (market_changed c v.market) x (house_settled m (market_changed c v.market) x (aged c v.own))) (λ e. v)

  abbrev by_call : View ℕ → Event → ℕ → View ℕ
  by_call v (WrongTables c) x = v
  by_call v (RightTables (Account c)) x = by_order v x (ordered m v.market true v.figure v.own c.call)
  by_call v (RightTables (Market c)) x = by_market v x c (first_no (market_questions m.sets v.market c))

  abbrev by_turn : View ℕ → ℕ → View ℕ
  by_turn v x = look v.market x (house_settled m v.market x v.own)

  abbrev says : View ℕ → View ℕ → Event → Reply
  says v w (WrongTables (Account c)) = AccountReply (blank_answer (number_of Tables))
  says v w (WrongTables (Market c)) = MarketReply (market_answer (number_of Tables) v.market)
  says v w (RightTables (Account c)) = AccountReply (answer_of (verdict_number (ordered m v.market true v.figure v.own c.call)) w.own.row)
  says v w (RightTables (Market c)) = MarketReply (market_answer (result_number (first_no (market_questions m.sets v.market c))) w.market)

  -- what the house sees when a stand is settled
  finished : (s : Stand) → house_view (finish m s) ≡ look s.market (cover_of (finish m s)) (house_settled m s.market (cover_of (finish m s)) s.house)
  finished s = ap (λ (x : ℕ). look s.market (cover_of (finish m s)) (house_settled m s.market x s.house)) (sym (cover_reflagged (finish m s).house.row.own s.constituents))

  -- a stand at rest: the house, settled at the cover, rests
  pub house_rests : (s : Stand) → Rests m s → by_turn (house_view s) (cover_of s) ≡ house_view s
  house_rests s k = ap (λ (t : Stand). look s.market (cover_of s) t.house) k

  own_goes : (s : Stand) (v : Verdict Book) → house_view (house_after m s v) ≡ by_order (house_view s) (cover_of (house_after m s v)) v
  own_goes s (refused e) = refl
  own_goes s (granted b) = finished (record { market = s.market; house = b; constituents = s.constituents })

  market_goes : (s : Stand) (c : MarketCall) (a : Result (Unit {0}) Refusal) → house_view (market_after m s c a) ≡ by_market (house_view s) (cover_of (market_after m s c a)) c a
  market_goes s c (Err e) = refl
  market_goes s c (Ok x) =
      let k = market_changed c s.market in
      finished (record { market = k; house = aged c s.house; constituents = map (λ (b : Book). settled m k 0 (aged c b)) s.constituents })

  other_goes : (s : Stand) (j : ℕ) (v : Verdict Book) → Rests m s → house_view (constituent_after m s j v) ≡ by_turn (house_view s) (cover_of (constituent_after m s j v))
  other_goes s j (refused e) k = sym (house_rests s k)
  other_goes s j (granted b) k = finished (record { market = s.market; house = s.house; constituents = slice_set s.constituents j b })

  pub on_answer : (s : Stand) (e : Event) → Rests m s → concerns 0 e ≡ true → reply m s e ≡ says (house_view s) (house_view (after m s e)) e
  on_answer s (WrongTables (Account c)) k p = refl
  on_answer s (WrongTables (Market c)) k p = refl
  on_answer s (RightTables (Market c)) k p = refl
  on_answer s (RightTables (Account c)) k p =
      let same : c.account ≡ 0 = eqb-true c.account 0 p in
      ap AccountReply (ap (λ (i : ℕ). account_reply m s i c.call) same ∙ house_replies m s c.call
      ∙ ap (λ (i : ℕ). answer_of (verdict_number (house_verdict m s c.call)) (after_account m s i c.call).house.row) (sym same))

  pub on_call : (s : Stand) (e : Event) → Rests m s → concerns 0 e ≡ true → house_view (after m s e) ≡ by_call (house_view s) e (cover_of (after m s e))
  on_call s (WrongTables c) k p = refl
  on_call s (RightTables (Market c)) k p = market_goes s c (first_no (market_questions m.sets s.market c))
  on_call s (RightTables (Account c)) k p =
      let same : c.account ≡ 0 = eqb-true c.account 0 p in
      let is : after_account m s c.account c.call ≡ house_after m s (house_verdict m s c.call) =
      ap (λ (i : ℕ). after_account m s i c.call) same ∙ house_steps m s c.call in
      subst (λ (t : Stand). house_view t ≡ by_order (house_view s) (cover_of t) (house_verdict m s c.call)) (sym is) (own_goes s (house_verdict m s c.call))

  account_turns : (s : Stand) (i : ℕ) (c : AccountCall) → Rests m s → (i ≡ 0 → ⊥) → house_view (after_account m s i c) ≡ by_turn (house_view s) (cover_of (after_account m s i c))
  account_turns s i c k ne =
      account_cases m s i c (λ (t : Stand). house_view t ≡ by_turn (house_view s) (cover_of t)) (sym (house_rests s k)) (λ e. absurd (ne e))
      (λ j e l. other_goes s j (constituent_verdict m s j c) k)

  pub on_other : (s : Stand) (e : Event) → Rests m s → concerns 0 e ≡ false → house_view (after m s e) ≡ by_turn (house_view s) (cover_of (after m s e))
  on_other s (WrongTables c) k p = sym (house_rests s k)
  on_other s (RightTables (Market c)) k p = absurd (true≢false p)
  on_other s (RightTables (Account c)) k p = account_turns s c.account c.call k (eqb-false c.account 0 p)

  abbrev pub house_unwound : Unwound cover_of nat_eq m 0 house_view
  house_unwound = record {
    Kept = Rests m;
    says = says;
    by_call = by_call;
    by_turn = by_turn;
    same_is = eqb-true;
    keeps = rests_after m;
    on_answer = on_answer;
    on_call = on_call;
    on_other = on_other;
    rests = house_rests;
  }

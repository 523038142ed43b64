-- A constituent's view goes by what the constituent is told.
use Rattle.std.proofs.Common.{◌≡◌, ℕ, suc, ◌<◌, Bool, true, false, map, length, slice_index_or, slice_set, Ok, Err, Result, sym, refl, ap, ◌∙◌, subst, true≢false, length-set, get_or-set_other, get_or-set_same}
use mathlib.Core.Bool.{beq}
use lib.ListN.{length-map}
use Rattle.std.proofs.lemmas.List.{get_or-map}
use Rattle.std.proofs.lemmas.Bool.{eqb-true, eqb-false}
use Rattle.models.specs.Meaning.{Meaning}
use Rattle.refusals.specs.declared.refusal.Refusal.{Refusal}
use Rattle.refusals.specs.declared.refusal.Refusal.TheVariants.{Tables}
use Rattle.refusals.specs.Refusals.{first_no, decided, number_of, result_number}
use Rattle.tables.specs.Books.{Book, no_book}
use Rattle.market.specs.declared.call.MarketCall.{MarketCall}
use Rattle.market.specs.declared.state.MarketState.{MarketState}
use Rattle.market.specs.Calls.{market_questions, market_changed}
use Rattle.rules.specs.declared.call.AccountCall.{AccountCall}
use Rattle.rules.specs.declared.call.Call.TheVariants.{Account, Market}
use Rattle.rules.specs.declared.call.Event.{Event}
use Rattle.rules.specs.declared.call.Event.TheVariants.{RightTables, WrongTables}
use Rattle.rules.specs.declared.call.Reply.{Reply}
use Rattle.rules.specs.declared.call.Reply.TheVariants.{Account as AccountReply, Market as MarketReply}
use Rattle.rules.specs.Settling.{settled, reflagged}
use Rattle.rules.specs.Stands.{Stand, Verdict, refused, granted, ordered, finish, after_account}
use Rattle.rules.specs.Outcomes.{answer_of, blank_answer, verdict_number, account_reply}
use Rattle.rules.specs.MarketCalls.{aged, market_answer}
use Rattle.isolation.specs.Runs.{after, reply}
use Rattle.isolation.specs.Views.{View, constituent_view, restriction_of_house, concerns}
use Rattle.isolation.proofs.Steps.{house_after, constituent_after, market_after, house_verdict, constituent_verdict, constituent_steps, constituent_replies, account_cases, Rests, rests_after, length_after}
use Rattle.isolation.proofs.Unwinding.{Unwound}

abbrev look : MarketState → Bool → Book → View Bool
look k r b = record { market = k; figure = r; own = b }

pub beq_is : (a b : Bool) → beq a b ≡ true → a ≡ b
beq_is true true p = refl
beq_is true false p = sym p
beq_is false true p = p
beq_is false false p = refl

module _ (m : Meaning) where
  -- what an order on the own account, and a market call, leave in the view; r is the restriction after it
  abbrev by_order : View Bool → Bool → Verdict Book → View Bool
  by_order v r (refused e) = v
  by_order v r (granted b) = look v.market r (reflagged r b)

  abbrev by_market : View Bool → Bool → MarketCall → Result (Unit {0}) Refusal → View Bool
  by_market v r c a = decided a (look (market_changed c v.market) r (reflagged r (settled m (market_changed c v.market) 0 (aged c v.own)))) (λ e. v)

  abbrev by_call : View Bool → Event → Bool → View Bool
  by_call v (WrongTables c) r = v
  by_call v (RightTables (Account c)) r = by_order v r (ordered m v.market false 0 v.own c.call)
  by_call v (RightTables (Market c)) r = by_market v r c (first_no (market_questions m.sets v.market c))

  abbrev by_turn : View Bool → Bool → View Bool
  by_turn v r = look v.market r (reflagged r v.own)

  abbrev says : View Bool → View Bool → Event → Reply
  says v w (WrongTables (Account c)) = AccountReply (blank_answer (number_of Tables))
  says v w (WrongTables (Market c)) = MarketReply (market_answer (number_of Tables) v.market)
  says v w (RightTables (Account c)) = AccountReply (answer_of (verdict_number (ordered m v.market false 0 v.own c.call)) w.own.row)
  says v w (RightTables (Market c)) = MarketReply (market_answer (result_number (first_no (market_questions m.sets v.market c))) w.market)

  -- what constituent j sees when a stand is settled
  finished : (j : ℕ) (s : Stand) (b : Book) → j < length s.constituents → slice_index_or s.constituents j no_book ≡ b
      → constituent_view j (finish m s) ≡ look s.market (restriction_of_house (finish m s)) (reflagged (restriction_of_house (finish m s)) b)
  finished j s b l e =
      let r = restriction_of_house (finish m s) in
      ap (look s.market r) (get_or-map (reflagged r) s.constituents j no_book no_book l ∙ ap (reflagged r) e)

  -- a stand at rest: the second flag of constituent j rests
  pub flag_rests : (j : ℕ) (s : Stand) → Rests m s → j < length s.constituents → by_turn (constituent_view j s) (restriction_of_house s) ≡ constituent_view j s
  flag_rests j s k l =
      let r = restriction_of_house (finish m s) in
      let same : r ≡ restriction_of_house s = ap restriction_of_house k in
      ap (λ (x : Bool). look s.market (restriction_of_house s) (reflagged x (slice_index_or s.constituents j no_book))) (sym same)
      ∙ ap (look s.market (restriction_of_house s)) (sym (get_or-map (reflagged r) s.constituents j no_book no_book l) ∙ ap (λ (t : Stand). slice_index_or t.constituents j no_book) k)

  module _ (j : ℕ) where
    own_goes : (s : Stand) (v : Verdict Book) → j < length s.constituents
        → constituent_view j (constituent_after m s j v) ≡ by_order (constituent_view j s) (restriction_of_house (constituent_after m s j v)) v
    own_goes s (refused e) l = refl
    own_goes s (granted b) l =
        finished j (record { market = s.market; house = s.house; constituents = slice_set s.constituents j b }) b
        (subst (λ (n : ℕ). j < n) (sym (length-set s.constituents j b)) l) (get_or-set_same s.constituents j b no_book l)

    market_goes : (s : Stand) (c : MarketCall) (a : Result (Unit {0}) Refusal) → j < length s.constituents
        → constituent_view j (market_after m s c a) ≡ by_market (constituent_view j s) (restriction_of_house (market_after m s c a)) c a
    market_goes s c (Err e) l = refl
    market_goes s c (Ok x) l =
        let k = market_changed c s.market in
        let f : Book → Book = λ b. settled m k 0 (aged c b) in
        finished j (record { market = k; house = aged c s.house; constituents = map f s.constituents }) (f (slice_index_or s.constituents j no_book))
        (subst (λ (n : ℕ). j < n) (sym (length-map s.constituents f)) l) (get_or-map f s.constituents j no_book no_book l)

    -- a call on the house, or on another constituent
    house_goes : (s : Stand) (v : Verdict Book) → Rests m s → j < length s.constituents
        → constituent_view j (house_after m s v) ≡ by_turn (constituent_view j s) (restriction_of_house (house_after m s v))
    house_goes s (refused e) k l = sym (flag_rests j s k l)
    house_goes s (granted b) k l = finished j (record { market = s.market; house = b; constituents = s.constituents }) (slice_index_or s.constituents j no_book) l refl

    other_goes : (s : Stand) (i : ℕ) (v : Verdict Book) → Rests m s → j < length s.constituents → (j ≡ i → ⊥)
        → constituent_view j (constituent_after m s i v) ≡ by_turn (constituent_view j s) (restriction_of_house (constituent_after m s i v))
    other_goes s i (refused e) k l ne = sym (flag_rests j s k l)
    other_goes s i (granted b) k l ne =
        finished j (record { market = s.market; house = s.house; constituents = slice_set s.constituents i b }) (slice_index_or s.constituents j no_book)
        (subst (λ (n : ℕ). j < n) (sym (length-set s.constituents i b)) l) (get_or-set_other s.constituents i j b no_book ne)

    abbrev Kept : Stand → Type 0
    Kept s = Rests m s × (j < length s.constituents)

    pub on_answer : (s : Stand) (e : Event) → Kept s → concerns (suc j) e ≡ true → reply m s e ≡ says (constituent_view j s) (constituent_view j (after m s e)) e
    on_answer s (WrongTables (Account c)) k p = refl
    on_answer s (WrongTables (Market c)) k p = refl
    on_answer s (RightTables (Market c)) k p = refl
    on_answer s (RightTables (Account c)) k p =
        let same : c.account ≡ suc j = eqb-true c.account (suc j) p in
        ap AccountReply (ap (λ (i : ℕ). account_reply m s i c.call) same ∙ constituent_replies m s c.call j k.1
        ∙ ap (λ (i : ℕ). answer_of (verdict_number (constituent_verdict m s j c.call)) (slice_index_or (after_account m s i c.call).constituents j no_book).row) (sym same))

    pub on_call : (s : Stand) (e : Event) → Kept s → concerns (suc j) e ≡ true → constituent_view j (after m s e) ≡ by_call (constituent_view j s) e (restriction_of_house (after m s e))
    on_call s (WrongTables c) k p = refl
    on_call s (RightTables (Market c)) k p = market_goes s c (first_no (market_questions m.sets s.market c)) k.1
    on_call s (RightTables (Account c)) k p =
        let same : c.account ≡ suc j = eqb-true c.account (suc j) p in
        let is : after_account m s c.account c.call ≡ constituent_after m s j (constituent_verdict m s j c.call) =
        ap (λ (i : ℕ). after_account m s i c.call) same ∙ constituent_steps m s c.call j k.1 in
        subst (λ (t : Stand). constituent_view j t ≡ by_order (constituent_view j s) (restriction_of_house t) (constituent_verdict m s j c.call)) (sym is) (own_goes s (constituent_verdict m s j c.call) k.1)

    account_turns : (s : Stand) (i : ℕ) (c : AccountCall) → Kept s → (i ≡ suc j → ⊥) → constituent_view j (after_account m s i c) ≡ by_turn (constituent_view j s) (restriction_of_house (after_account m s i c))
    account_turns s i c k ne =
        account_cases m s i c (λ (t : Stand). constituent_view j t ≡ by_turn (constituent_view j s) (restriction_of_house t)) (sym (flag_rests j s k.0 k.1))
        (λ e. house_goes s (house_verdict m s c) k.0 k.1) (λ o e l. other_goes s o (constituent_verdict m s o c) k.0 k.1 (λ z. ne (e ∙ ap suc (sym z))))

    pub on_other : (s : Stand) (e : Event) → Kept s → concerns (suc j) e ≡ false → constituent_view j (after m s e) ≡ by_turn (constituent_view j s) (restriction_of_house (after m s e))
    on_other s (WrongTables c) k p = sym (flag_rests j s k.0 k.1)
    on_other s (RightTables (Market c)) k p = absurd (true≢false p)
    on_other s (RightTables (Account c)) k p = account_turns s c.account c.call k (eqb-false c.account (suc j) p)

    abbrev pub constituent_unwound : Unwound restriction_of_house beq m (suc j) (constituent_view j)
    constituent_unwound = record {
      Kept = Kept;
      says = says;
      by_call = by_call;
      by_turn = by_turn;
      same_is = beq_is;
      keeps = λ s e k. (rests_after m s e k.0, subst (λ (n : ℕ). j < n) (sym (length_after m s e)) k.1);
      on_answer = on_answer;
      on_call = on_call;
      on_other = on_other;
      rests = λ s k. flag_rests j s k.0 k.1;
    }

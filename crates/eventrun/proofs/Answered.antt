-- Account calls one after the other, as events of a list: the replies are the answers.
use Rattle.std.proofs.Common.{◌≡◌, ℕ, suc, ◌≤◌, Bool, true, false, cond, List, [], ◌∷◌, map, length, take, sym, refl, ap, ◌∙◌, subst, ap₂, arith}
use Rattle.models.specs.Meaning.{Meaning}
use Rattle.tables.specs.Books.{Book}
use Rattle.market.specs.declared.state.MarketState.{MarketState}
use Rattle.rules.specs.declared.call.AccountCall.{AccountCall}
use Rattle.rules.specs.declared.call.Answer.{Answer}
use Rattle.rules.specs.declared.call.NamedCall.{NamedCall}
use Rattle.rules.specs.declared.call.Reply.{Reply}
use Rattle.rules.specs.declared.call.Reply.TheVariants.{Account as AccountReply}
use Rattle.rules.specs.Stands.{Stand, Verdict, refused, granted, rows_of, trades_of, verdict, concluded, after_account}
use Rattle.rules.specs.Outcomes.{Outcome, account_reply, account_outcome}
use Rattle.rules.specs.Runs.{lent_after, answer_to, answers_run}
use Rattle.isolation.specs.Runs.{run, replies}
use Rattle.house.proofs.Acting.{outcome_kept}
use Rattle.engine.specs.Promises.{HeldBy}
use Rattle.eventrun.specs.Calls.{event_of}
use Rattle.eventrun.specs.Files.{answer_in}

pub answers_back : (os : List Answer) → map answer_in (map AccountReply os) ≡ os
answers_back [] = refl
answers_back (o ∷ os) = ap (λ (l : List Answer). o ∷ l) (answers_back os)

-- an account call leaves the market as it is
concluded_market : (m : Meaning) (s : Stand) (i : ℕ) (v : Verdict Book) → (concluded m s i v).market ≡ s.market
concluded_market m s i (refused e) = refl
concluded_market m s i (granted b) = refl

either_market : (b : Bool) (t s : Stand) → t.market ≡ s.market → (cond b t s).market ≡ s.market
either_market true t s e = e
either_market false t s e = refl

market_left : (m : Meaning) (s : Stand) (i : ℕ) (c : AccountCall) → (after_account m s i c).market ≡ s.market
market_left m s i c = either_market _ (concluded m s i (verdict m s i c)) s (concluded_market m s i (verdict m s i c))

module _ (m : Meaning) (n : ℕ) where
  -- the stand that the tables hold, answered by them
  outcome_of : (s : Stand) (i : ℕ) (c : AccountCall) → HeldBy n s
      → account_outcome m s.market n (rows_of s) (trades_of s) i c ≡ record { answer = account_reply m s i c; rows = rows_of (after_account m s i c); trades = trades_of (after_account m s i c) }
  outcome_of s i c h =
      outcome_kept m s.market n (rows_of s) (trades_of s) i c h.keeps
      ∙ ap (λ (t : Stand). let o : Outcome = record { answer = account_reply m t i c; rows = rows_of (after_account m t i c); trades = trades_of (after_account m t i c) } in o) h.stands

  pub replies_answers : (k : MarketState) (s : Stand) (cs : List NamedCall) → s.market ≡ k
      → ((i : ℕ) → i ≤ length cs → HeldBy n (run m s (take i (map event_of cs))))
      → replies m s (map event_of cs) ≡ map AccountReply (answers_run m k n (rows_of s, trades_of s) cs)
  unfolding lent_after answer_to
  replies_answers k s [] ek h = refl
  replies_answers k s (c ∷ cs) ek h =
      let t = after_account m s c.account c.call in
      let e : account_outcome m k n (rows_of s) (trades_of s) c.account c.call ≡ record { answer = account_reply m s c.account c.call; rows = rows_of t; trades = trades_of t } =
      subst (λ (x : MarketState). account_outcome m x n (rows_of s) (trades_of s) c.account c.call ≡ record { answer = account_reply m s c.account c.call; rows = rows_of t; trades = trades_of t }) ek (outcome_of s c.account c.call (h 0 (omega arith))) in
      ap₂ (λ (x : Reply) (xs : List Reply). x ∷ xs)
      (ap (λ (o : Outcome). AccountReply o.answer) (sym e))
      (replies_answers k t cs (market_left m s c.account c.call ∙ ek) (λ i le. h (suc i) (omega (arith, le)))
      ∙ ap (λ (o : Outcome). map AccountReply (answers_run m k n (o.rows, o.trades) cs)) (sym e))

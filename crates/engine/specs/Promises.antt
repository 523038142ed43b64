-- What the calls that answer, replay and play promise.
-- OthersOf: what a call leaves of the accounts that it does not name. AnswersCall: one call, on any tables.
-- Past: an accepted opening and a list of events that led to a stand. first_stand: the stand that its opening left.
-- IsolatedRun: the isolation of a run from a stand, whatever past led there. HeldBy: tables within their limits that hold a stand. Replays: a list of events, from where a house stands.
-- Day, Nothing: an accepted and a refused opening. PlaysDay: an opening, and a list of events after it.
use Rattle.std.specs.Prelude.{◌≡◌, ◌≢◌, ℕ, ◌≤◌, min, true, false, if◌then◌else◌, List, ◌++◌, length, take, drop, Ok, Err, Result}
use Rattle.models.specs.Meaning.{Meaning}
use Rattle.refusals.specs.declared.refusal.Refusal.{Refusal}
use Rattle.refusals.specs.Refusals.{first_no}
use Rattle.tables.specs.declared.row.AccountRow.{AccountRow}
use Rattle.tables.specs.declared.row.TradeRow.{TradeRow}
use Rattle.tables.specs.Limits.{tables_keep}
use Rattle.market.specs.declared.state.MarketState.{MarketState}
use Rattle.rules.specs.declared.call.Call.{Call}
use Rattle.rules.specs.declared.call.Call.TheVariants.{Account, Market}
use Rattle.rules.specs.declared.call.Event.{Event}
use Rattle.rules.specs.declared.call.Event.TheVariants.{RightTables, WrongTables}
use Rattle.rules.specs.declared.call.Reply.{Reply}
use Rattle.rules.specs.declared.call.Reply.TheVariants.{Account as AccountReply, Market as MarketReply}
use Rattle.rules.specs.Opening.{opening_questions}
use Rattle.rules.specs.Stands.{Stand, standing, rows_of, trades_of, AtRest}
use Rattle.rules.specs.Outcomes.{OthersLeft}
use Rattle.rules.specs.Calls.{outcome, reply_number}
use Rattle.isolation.specs.Runs.{after, reply, run, replies, opened}
use Rattle.isolation.specs.Isolation.{Isolated, Isolation}

-- what an account call leaves of the accounts that it does not name; it is answered as an account call, and a market call names none
abbrev pub OthersOf : Meaning → MarketState → ℕ → List AccountRow → List AccountRow → List TradeRow → List TradeRow → Call → Reply → Type 0
OthersOf m k n rs us ts vs (Account c) (AccountReply a) = OthersLeft m k n rs us ts vs c.account a
OthersOf m k n rs us ts vs (Account c) (MarketReply a) = Unit {0}
OthersOf m k n rs us ts vs (Market c) a = Unit {0}

-- n accounts; market k, records rs and places ts before, l, us and vs after; the call c was answered a
pub record AnswersCall (m : Meaning) (k l : MarketState) (n : ℕ) (rs us : List AccountRow) (ts vs : List TradeRow) (c : Call) (a : Reply) : Type 0 where
  -- the reply, the market and both whole tables are what the rules make of the call
  pub replied : a ≡ (outcome m k n rs ts c).reply
  pub market : l ≡ (outcome m k n rs ts c).market
  pub rows : us ≡ (outcome m k n rs ts c).rows
  pub trades : vs ≡ (outcome m k n rs ts c).trades
  -- limits stay kept, and after an accepted call settling once more changes nothing
  pub keeps : tables_keep n us vs ≡ tables_keep n rs ts
  pub rests : reply_number a ≡ 0 → AtRest m l us vs
  -- a refused call changes nothing
  pub refused : reply_number a ≢ 0 → (l ≡ k) × (us ≡ rs) × (vs ≡ ts)
  -- every account that an account call does not name keeps its places, a constituent its record but for the second flag, and the
  -- house is settled at the cover
  pub others : OthersOf m k n rs us ts vs c a
  -- as an event of a list: with the house's own tables
  pub right_is : tables_keep n rs ts ≡ true → a ≡ reply m (standing k rs ts) (RightTables c)
  pub right_stands : tables_keep n rs ts ≡ true → standing l us vs ≡ after m (standing k rs ts) (RightTables c)
  -- and with tables that fail question 1, whatever its own tables qs and xs are
  pub wrong_is : tables_keep n rs ts ≡ false → (qs : List AccountRow) (xs : List TradeRow) → a ≡ reply m (standing k qs xs) (WrongTables c)
  pub wrong_stands : tables_keep n rs ts ≡ false → (qs : List AccountRow) (xs : List TradeRow) → standing l qs xs ≡ after m (standing k qs xs) (WrongTables c)
  -- the law of lists of such calls
  pub isolated : Isolation m

-- the house was opened with n accounts in a month, and these events led to the stand s
pub record Past (m : Meaning) (s : Stand) : Type 0 where
  pub month : ℕ
  pub accounts : ℕ
  pub some : 1 ≤ accounts
  pub events : List Event
  pub leads : run m (opened month accounts) events ≡ s

abbrev pub first_stand : {m : Meaning} {s : Stand} → Past m s → Stand
first_stand p = opened p.month p.accounts

-- a run from s that played es, answered os and ended at t: whatever past led to s, past and run are isolated, as one list from the opening
abbrev pub IsolatedRun : Meaning → Stand → List Event → List Reply → Stand → Type 0
IsolatedRun m s es os t = (p : Past m s) → Isolated m p.month p.accounts (p.events ++ es) (replies m (first_stand p) p.events ++ os) t

-- the tables of n accounts that a stand is keep their limits, and the stand is what they hold
pub record HeldBy (n : ℕ) (s : Stand) : Type 0 where
  pub keeps : tables_keep n (rows_of s) (trades_of s) ≡ true
  pub stands : standing s.market (rows_of s) (trades_of s) ≡ s

-- the first r of the events es were played, and of the places os for replies, which became ps, the first r were filled
pub record Replays (m : Meaning) (k l : MarketState) (n : ℕ) (rs us : List AccountRow) (ts vs : List TradeRow) (es : List Event) (os ps : List Reply) (r : ℕ) : Type 0 where
  -- as many as there is room for, and none where the tables fail question 1
  pub played : r ≡ (if tables_keep n rs ts then min (length es) (length os) else 0)
  pub replied : take r ps ≡ replies m (standing k rs ts) (take r es)
  pub rest : drop r ps ≡ drop r os
  -- market and both whole tables are what the rules make of the list
  pub stands : standing l us vs ≡ run m (standing k rs ts) (take r es)
  pub tables : tables_keep n rs ts ≡ true → (us ≡ rows_of (run m (standing k rs ts) (take r es))) × (vs ≡ trades_of (run m (standing k rs ts) (take r es)))
  pub wrong : tables_keep n rs ts ≡ false → (l ≡ k) × (us ≡ rs) × (vs ≡ ts)
  pub keeps : tables_keep n us vs ≡ tables_keep n rs ts
  -- limits stay kept at every event
  pub throughout : tables_keep n rs ts ≡ true → (i : ℕ) → i ≤ r → HeldBy n (run m (standing k rs ts) (take i es))
  pub isolated : IsolatedRun m (standing k rs ts) (take r es) (take r ps) (standing l us vs)

-- what an accepted opening and the first r of the events made
pub record Day (m : Meaning) (month n : ℕ) (l : MarketState) (us : List AccountRow) (vs : List TradeRow) (es : List Event) (os ps : List Reply) (r : ℕ) : Type 0 where
  pub played : r ≡ min (length es) (length os)
  pub replied : take r ps ≡ replies m (opened month n) (take r es)
  pub rest : drop r ps ≡ drop r os
  pub stands : standing l us vs ≡ run m (opened month n) (take r es)
  pub rows : us ≡ rows_of (run m (opened month n) (take r es))
  pub trades : vs ≡ trades_of (run m (opened month n) (take r es))
  pub keeps : tables_keep n us vs ≡ true
  pub throughout : (i : ℕ) → i ≤ r → HeldBy n (run m (opened month n) (take i es))
  -- of this very run: there is no past to speak of
  pub isolated : Isolated m month n (take r es) (take r ps) (standing l us vs)

-- a refused opening leaves everything as it was, and nothing is played
pub record Nothing (k l : MarketState) (h h' : ℕ) (rs us : List AccountRow) (ts vs : List TradeRow) (os ps : List Reply) : Type 0 where
  pub accounts : h' ≡ h
  pub market : l ≡ k
  pub rows : us ≡ rs
  pub trades : vs ≡ ts
  pub replied : ps ≡ os

-- h accounts before, h' after; the opening was accepted and d events played, or refused for the first question that was answered no
abbrev pub PlaysDay : Meaning → ℕ → ℕ → MarketState → MarketState → ℕ → ℕ → List AccountRow → List AccountRow → List TradeRow → List TradeRow → List Event → List Reply → List Reply → Result ℕ Refusal → Type 0
PlaysDay m month n k l h h' rs us ts vs es os ps (Ok d) =
    (first_no (opening_questions n month rs ts) ≡ Ok tt) × (h' ≡ n) × Day m month n l us vs es os ps d
PlaysDay m month n k l h h' rs us ts vs es os ps (Err e) =
    (first_no (opening_questions n month rs ts) ≡ Err e) × Nothing k l h h' rs us ts vs os ps

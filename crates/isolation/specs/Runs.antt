-- Lists of calls.
-- after, reply: what an event makes of a stand, and what it is answered. run, replies: the same of a list of events.
-- after_call, call_reply: the same of a call on tables that keep their limits. wrong_reply: the reply to a call whose tables fail question 1.
-- opened: the stand that an accepted opening with n accounts in a month leaves.
-- moved_by, moved: what a call, and an event, moves for one account, by some measure of a call.
-- accepted: what the accepted calls of a list move for it.
use Rattle.std.specs.Prelude.{ℕ, ◌+◌, if◌then◌else◌, List, [], ◌∷◌, ◌==◌}
use Rattle.models.specs.Meaning.{Meaning}
use Rattle.refusals.specs.declared.refusal.Refusal.TheVariants.{Tables}
use Rattle.refusals.specs.Refusals.{number_of}
use Rattle.market.specs.declared.state.MarketState.{MarketState}
use Rattle.rules.specs.declared.call.AccountCall.{AccountCall}
use Rattle.rules.specs.declared.call.Call.{Call}
use Rattle.rules.specs.declared.call.Call.TheVariants.{Account, Market}
use Rattle.rules.specs.declared.call.Event.{Event}
use Rattle.rules.specs.declared.call.Event.TheVariants.{RightTables, WrongTables}
use Rattle.rules.specs.declared.call.Reply.{Reply}
use Rattle.rules.specs.declared.call.Reply.TheVariants.{Account as AccountReply, Market as MarketReply}
use Rattle.rules.specs.Opening.{opened_market, opened_rows, opened_trades}
use Rattle.rules.specs.Stands.{Stand, standing, after_account}
use Rattle.rules.specs.Outcomes.{account_reply, blank_answer}
use Rattle.rules.specs.MarketCalls.{after_market, market_reply, market_answer}
use Rattle.rules.specs.Calls.{reply_number}

abbrev pub after_call : Meaning → Stand → Call → Stand
after_call m s (Account c) = after_account m s c.account c.call
after_call m s (Market c) = after_market m s c

-- a call that brings wrong tables changes nothing
abbrev pub after : Meaning → Stand → Event → Stand
after m s (RightTables c) = after_call m s c
after m s (WrongTables c) = s

abbrev pub call_reply : Meaning → Stand → Call → Reply
call_reply m s (Account c) = AccountReply (account_reply m s c.account c.call)
call_reply m s (Market c) = MarketReply (market_reply m s c)

abbrev pub wrong_reply : MarketState → Call → Reply
wrong_reply k (Account c) = AccountReply (blank_answer (number_of Tables))
wrong_reply k (Market c) = MarketReply (market_answer (number_of Tables) k)

abbrev pub reply : Meaning → Stand → Event → Reply
reply m s (RightTables c) = call_reply m s c
reply m s (WrongTables c) = wrong_reply s.market c

abbrev pub run : Meaning → Stand → List Event → Stand
run m s [] = s
run m s (e ∷ es) = run m (after m s e) es

abbrev pub replies : Meaning → Stand → List Event → List Reply
replies m s [] = []
replies m s (e ∷ es) = reply m s e ∷ replies m (after m s e) es

-- the tables that an opening leaves, read as a stand
unfoldable pub opened : ℕ → ℕ → Stand
opened month n = standing (opened_market month) (opened_rows n) (opened_trades n)

-- what a call of account i moves; a market call moves nothing
abbrev pub moved_by : (AccountCall → ℕ) → ℕ → Call → ℕ
moved_by f i (Account c) = if c.account == i then f c.call else 0
moved_by f i (Market c) = 0

abbrev pub moved : (AccountCall → ℕ) → ℕ → Event → ℕ
moved f i (RightTables c) = moved_by f i c
moved f i (WrongTables c) = 0

-- accepted calls are those that are answered 0
abbrev pub accepted : (AccountCall → ℕ) → ℕ → List Event → List Reply → ℕ
accepted f i [] os = 0
accepted f i (e ∷ es) [] = 0
accepted f i (e ∷ es) (o ∷ os) = (if reply_number o == 0 then moved f i e else 0) + accepted f i es os

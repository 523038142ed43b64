-- Examples of the law, by computation: a house with two constituents, opened in month 300, on a model whose rates, tick values and changes are 0.
-- Account 1 is C. C's and the house's own trades owe 5,000,000 each; C has 5,400,000 and then 5,900,000, the house 5,100,000.
-- still: that model. swap, back: a trade, and its opposite. by: a call of an account. lodges, trades, adds, looks: what C asks.
-- quiet: C is under its second flag since the house is restricted. turning: between two of C's calls the restriction goes and comes, and C is released.
-- busy: turning, with other calls of the house and of account 2 in the place of the house's.
-- told, answers: what C is told, and how it is answered. says: such an answer. told_house, answers_house: the like for the house.
-- at_calls: what is told at the events that concern a holder, without the changes between them.
-- level, swelling, shared: the like for the house, which owes 5,000,000 and has 5,400,000. level: no other calls. swelling: between two of
-- its calls account 1 ends one of two opposite trades, owes 5,000,000, and lodges it. shared: account 2 does so, and account 1 does other things.
-- Examples: what holds of all these.
use Rattle.std.specs.Prelude.{◌≡◌, ℕ, Bool, true, false, List, [], ◌∷◌, ◌≢◌, pos}
use Rattle.models.specs.Meaning.{Meaning}
use Rattle.tables.specs.declared.row.TradeRow.{TradeRow}
use Rattle.rules.specs.declared.call.AccountCall.{AccountCall}
use Rattle.rules.specs.declared.call.AccountCall.TheVariants.{Trade, End, LodgeCash, DrawCash, Show}
use Rattle.rules.specs.declared.call.Call.TheVariants.{Account}
use Rattle.rules.specs.declared.call.Event.{Event}
use Rattle.rules.specs.declared.call.Event.TheVariants.{RightTables, WrongTables}
use Rattle.rules.specs.declared.call.Reply.{Reply}
use Rattle.rules.specs.declared.call.Reply.TheVariants.{Account as AccountReply}
use Rattle.isolation.specs.Runs.{replies, opened}
use Rattle.isolation.specs.Views.{Told, called, turned, constituent_trace, house_trace, own_replies}

abbrev pub still : Meaning
still = record { sets = 1; scenarios = 1; rate = λ s b r. 0; tick = λ s b r. 0; change = λ s b r j. pos 0 }

abbrev pub swap : TradeRow
swap = record { number = 7; benchmark = 0; side = 0; maturity = 312; notional = 100; rate = 0 }

abbrev pub by : ℕ → AccountCall → Event
by i c = RightTables (Account (record { account = i; call = c }))

-- what C asks
abbrev pub lodges : Event
lodges = by 1 (LodgeCash 5400000)

abbrev pub trades : Event
trades = by 1 (Trade swap)

abbrev pub adds : Event
adds = by 1 (LodgeCash 500000)

abbrev pub looks : Event
looks = by 1 Show

abbrev pub quiet : List Event
quiet = lodges ∷ trades ∷ by 0 (LodgeCash 5100000) ∷ by 0 (Trade swap) ∷ adds ∷ looks ∷ []

abbrev pub turning : List Event
turning = lodges ∷ trades ∷ by 0 (LodgeCash 5100000) ∷ by 0 (Trade swap) ∷ adds ∷ by 0 (LodgeCash 900000) ∷ by 0 (DrawCash 900000) ∷ looks ∷ []

-- a call with wrong tables, one on an account that is not there, and calls of account 2
abbrev pub busy : List Event
busy =
    by 2 (LodgeCash 7000000) ∷ lodges ∷ WrongTables (Account (record { account = 0; call = LodgeCash 1 })) ∷ trades ∷ by 0 (LodgeCash 5200000)
    ∷ by 2 (Trade swap) ∷ by 0 (Trade swap) ∷ adds ∷ by 9 Show ∷ by 0 (LodgeCash 2000000) ∷ by 2 Show ∷ by 0 (DrawCash 2100000) ∷ looks ∷ []

abbrev pub told : List Event → List (Told Bool)
told es = constituent_trace still 0 (opened 300 3) es

abbrev pub at_calls : {B : Type 0} → List (Told B) → List (Told B)
at_calls [] = []
at_calls (called e b ∷ is) = called e b ∷ at_calls is
at_calls (turned b ∷ is) = at_calls is

abbrev pub answers : List Event → List Reply
answers es = own_replies 1 es (replies still (opened 300 3) es)

abbrev pub says : ℕ → ℕ → ℕ → Reply
says obligation available restriction = AccountReply (record { number = 0; restriction = restriction; obligation = obligation; available = available; shortfall = 0 })

-- the house
abbrev pub back : TradeRow
back = record { number = 8; benchmark = 0; side = 1; maturity = 312; notional = 100; rate = 0 }

abbrev pub level : List Event
level = by 0 (LodgeCash 5400000) ∷ by 0 (Trade swap) ∷ by 0 Show ∷ []

abbrev pub swelling : List Event
swelling =
    by 1 (LodgeCash 5000000) ∷ by 1 (Trade swap) ∷ by 1 (Trade back) ∷ by 1 (DrawCash 5000000) ∷ by 0 (LodgeCash 5400000) ∷ by 0 (Trade swap)
    ∷ by 1 (End 8) ∷ by 1 (LodgeCash 5000000) ∷ by 0 Show ∷ []

abbrev pub shared : List Event
shared =
    by 1 (LodgeCash 9000000) ∷ by 2 (LodgeCash 5000000) ∷ by 2 (Trade swap) ∷ by 2 (Trade back) ∷ by 0 (LodgeCash 5400000) ∷ by 2 (DrawCash 5000000)
    ∷ by 0 (Trade swap) ∷ by 1 (Trade swap) ∷ by 2 (End 7) ∷ by 1 Show ∷ by 2 (LodgeCash 6000000) ∷ by 0 Show ∷ []

abbrev pub told_house : List Event → List (Told ℕ)
told_house es = house_trace still (opened 300 3) es

abbrev pub answers_house : List Event → List Reply
answers_house es = own_replies 0 es (replies still (opened 300 3) es)

pub record Examples : Type 0 where
  -- what C is told
  pub told_quiet : told quiet ≡ (called lodges false ∷ called trades false ∷ turned true ∷ called adds true ∷ called looks true ∷ [])
  pub told_turning : told turning ≡ (called lodges false ∷ called trades false ∷ turned true ∷ called adds true ∷ turned false ∷ turned true ∷ called looks true ∷ [])
  -- two lists that differ in the others' calls, and agree for C
  pub told_alike : told turning ≡ told busy
  pub heard_alike : answers turning ≡ answers busy
  -- the restriction that goes and comes between two of C's calls releases C; without the two changes it stays restricted
  pub released : answers turning ≡ (says 0 5400000 0 ∷ says 5000000 5400000 0 ∷ says 5000000 5900000 2 ∷ says 5000000 5900000 0 ∷ [])
  pub held_back : answers quiet ≡ (says 0 5400000 0 ∷ says 5000000 5400000 0 ∷ says 5000000 5900000 2 ∷ says 5000000 5900000 2 ∷ [])
  -- so the changes between calls have to be told: C's calls and the bit after each are the same in these two, the answers are not
  pub same_calls : at_calls (told quiet) ≡ at_calls (told turning)
  pub told_apart : told quiet ≢ told turning
  pub heard_apart : answers quiet ≢ answers turning
  -- what the house is told
  pub told_level : told_house level ≡ (called (by 0 (LodgeCash 5400000)) 0 ∷ called (by 0 (Trade swap)) 0 ∷ called (by 0 Show) 0 ∷ [])
  pub told_swelling : told_house swelling ≡ (called (by 0 (LodgeCash 5400000)) 0 ∷ called (by 0 (Trade swap)) 0 ∷ turned 5000000 ∷ turned 0 ∷ called (by 0 Show) 0 ∷ [])
  -- whoever lacks it, and whatever else they do, the house is answered the same
  pub told_alike_house : told_house swelling ≡ told_house shared
  pub heard_alike_house : answers_house swelling ≡ answers_house shared
  -- a cover that comes and goes between two of its calls leaves its own flag set; its calls and the cover after each are the same without
  pub flagged : answers_house swelling ≡ (says 0 5400000 0 ∷ says 5000000 5400000 0 ∷ says 5000000 5400000 1 ∷ [])
  pub free : answers_house level ≡ (says 0 5400000 0 ∷ says 5000000 5400000 0 ∷ says 5000000 5400000 0 ∷ [])
  pub same_calls_house : at_calls (told_house level) ≡ at_calls (told_house swelling)
  pub told_apart_house : told_house level ≢ told_house swelling
  pub heard_apart_house : answers_house level ≢ answers_house swelling

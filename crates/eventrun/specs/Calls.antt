-- The account calls of an event file.
-- call_of: the account call that a record stands for; an opening is none. calls_in: the account calls of the records.
-- event_of: a call as an event of a list, with the house's own tables.
use Rattle.std.specs.Prelude.{List, Some, None, Option}
use Rattle.std.specs.List.{filter_map}
use Rattle.events.specs.declared.event.Event.{Event}
use Rattle.events.specs.declared.event.Event.TheVariants.{Open, Trade, LodgeCash, DrawCash}
use Rattle.rules.specs.declared.call.AccountCall.TheVariants.{Trade as NewTrade, LodgeCash as Lodge, DrawCash as Draw}
use Rattle.rules.specs.declared.call.Call.TheVariants.{Account}
use Rattle.rules.specs.declared.call.Event.{Event as ListedEvent}
use Rattle.rules.specs.declared.call.Event.TheVariants.{RightTables}
use Rattle.rules.specs.declared.call.NamedCall.{NamedCall}

abbrev pub call_of : Event → Option NamedCall
call_of (Open accounts month) = None
call_of (Trade account number benchmark side maturity notional rate) =
    Some (record { account = account; call = NewTrade (record { number = number; benchmark = benchmark; side = side; maturity = maturity; notional = notional; rate = rate }) })
call_of (LodgeCash account amount) = Some (record { account = account; call = Lodge amount })
call_of (DrawCash account amount) = Some (record { account = account; call = Draw amount })

abbrev pub calls_in : List Event → List NamedCall
calls_in es = filter_map call_of es

abbrev pub event_of : NamedCall → ListedEvent
event_of c = RightTables (Account c)

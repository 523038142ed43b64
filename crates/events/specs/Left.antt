-- What a reader has still to read.
--   events_left    the events from its place on
--   fault_left     the fault from its place on, if there is one
--   Handed         it handed out this step, and what it had left before became what it has left after
use Rattle.std.specs.Prelude.{◌≡◌, ◌+◌, ◌-◌, List, [], ◌∷◌, length, Some, None, Ok, Err, Option}
use Rattle.events.specs.Files.{events_from, fault_from}
use Rattle.events.specs.Steps.{Step}
use Rattle.events.specs.declared.event.Event.{Event}
use Rattle.events.specs.declared.fault.Fault.{Fault}
use Rattle.events.specs.declared.reader.Reader.{Reader}

abbrev pub events_left : Reader → List Event
events_left r = events_from (length r.bytes.now + 1 - r.count) r.bytes.now r.place r.count

abbrev pub fault_left : Reader → Option Fault
fault_left r = fault_from (length r.bytes.now + 1 - r.count) r.bytes.now r.place r.count

abbrev pub Handed : Step → Reader → Reader → Type 0
Handed (Ok None) before after = (events_left before ≡ []) × (fault_left before ≡ None)
Handed (Err f) before after = (events_left before ≡ []) × (fault_left before ≡ Some f)
Handed (Ok (Some e)) before after = (events_left before ≡ e ∷ events_left after) × (fault_left before ≡ fault_left after)

-- The kinds of record.
--   kind_of      the kind of a code, if there is one
--   Decodes      a conversion gives the kind of its code, or that no kind has this code
--   code_of      the code of a kind
--   length_of    the length of a whole record of a kind, in bytes
--   opens        whether a kind opens the house: it stands first in a file, and nowhere else
--   event_kind   the kind of the record that says an event
use Rattle.std.specs.Prelude.{◌≡◌, ℕ, Bool, true, false, if◌then◌else◌, Some, None, Ok, Err, Option, Result, ◌==◌}
use Rattle.events.specs.declared.event.Event.{Event}
use Rattle.events.specs.declared.event.Event.TheVariants as events
use Rattle.events.specs.declared.event.Kind.{Kind}
use Rattle.events.specs.declared.event.Kind.TheVariants.{Open, Trade, LodgeCash, DrawCash}
use Rattle.events.specs.declared.event.UnknownKind.{UnknownKind}

abbrev pub kind_of : ℕ → Option Kind
kind_of code =
    (if code == 1 then Some Open else (if code == 10 then Some Trade else (if code == 12 then Some LodgeCash else (if code == 13 then Some DrawCash else None))))

abbrev pub Decodes : ℕ → Result Kind UnknownKind → Type 0
Decodes code (Ok k) = kind_of code ≡ Some k
Decodes code (Err e) = (kind_of code ≡ None) × (e.0 ≡ code)

abbrev pub code_of : Kind → ℕ
code_of Open = 1
code_of Trade = 10
code_of LodgeCash = 12
code_of DrawCash = 13

abbrev pub length_of : Kind → ℕ
length_of Open = 7
length_of Trade = 21
length_of LodgeCash = 13
length_of DrawCash = 13

abbrev pub opens : Kind → Bool
opens Open = true
opens Trade = false
opens LodgeCash = false
opens DrawCash = false

abbrev pub event_kind : Event → Kind
event_kind (events.Open accounts month) = Open
event_kind (events.Trade account number benchmark side maturity notional rate) = Trade
event_kind (events.LodgeCash account amount) = LodgeCash
event_kind (events.DrawCash account amount) = DrawCash

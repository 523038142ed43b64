-- What stands at a place of a file.
--   in_turn      whether a record of a kind may stand first, or later
--   head_at      the kind of the record that begins at a place, or the first reason for which it has a fault
--   head_by      the same once its kind is known, or known to be none: its length, then whether all of it is there, then its turn
--   Step         a record, the end or a fault, as a reader gives it
--   step_at      what stands at a place after so many records: the end, a fault or a record
--   step_by      the record or the fault of a head
--   size_of      the bytes that are passed: those of a record, and none at the end or a fault
--   records_in   the records that are passed: one or none
use Rattle.std.specs.Prelude.{ℕ, ◌+◌, Bool, if◌then◌else◌, not, List, length, Some, None, Ok, Err, Option, Result, ◌==◌, nat_lt}
use Rattle.events.specs.Numbers.{u16_at}
use Rattle.events.specs.Kinds.{kind_of, length_of, opens, event_kind}
use Rattle.events.specs.Faults.{too_long}
use Rattle.events.specs.Record.{event_at}
use Rattle.events.specs.declared.event.Kind.{Kind}
use Rattle.events.specs.declared.event.Event.{Event}
use Rattle.events.specs.declared.fault.Fault.{Fault}
use Rattle.events.specs.declared.fault.FaultReason.{FaultReason}
use Rattle.events.specs.declared.fault.FaultReason.TheVariants.{Cut, UnknownKind, WrongLength, OutOfPlace}

abbrev pub in_turn : Bool → Kind → Bool
in_turn first k = if first then opens k else not (opens k)

abbrev pub head_by : List ℕ → ℕ → Bool → Option Kind → Result Kind FaultReason
head_by bs i first None = Err UnknownKind
head_by bs i first (Some k) =
    (if u16_at bs i == length_of k
    then (if nat_lt (length bs) (i + length_of k) then Err Cut else (if in_turn first k then Ok k else Err OutOfPlace))
    else Err WrongLength)

abbrev pub head_at : List ℕ → ℕ → Bool → Result Kind FaultReason
head_at bs i first = if nat_lt (length bs) (i + 4) then Err Cut else head_by bs i first (kind_of (u16_at bs (i + 2)))

abbrev pub Step : Type 0
Step = Result (Option Event) Fault

abbrev pub step_by : List ℕ → ℕ → ℕ → Result Kind FaultReason → Step
step_by bs i n (Ok k) = Ok (Some (event_at bs i k))
step_by bs i n (Err w) = Err (record { ordinal = n + 1; reason = w; offset = i })

abbrev pub step_at : List ℕ → ℕ → ℕ → Step
step_at bs i n =
    (if nat_lt 65536 (length bs) then Err too_long else (if i == length bs then Ok None else step_by bs i n (head_at bs i (n == 0))))

abbrev pub size_of : Step → ℕ
size_of (Ok None) = 0
size_of (Err f) = 0
size_of (Ok (Some e)) = length_of (event_kind e)

abbrev pub records_in : Step → ℕ
records_in (Ok None) = 0
records_in (Err f) = 0
records_in (Ok (Some e)) = 1

-- The bytes of events, and that reading them gives the events back.
--   bytes_2, bytes_4, bytes_8    a number in so many bytes, the lowest first, before what follows
--   fields       the fields of an event after length and kind, before what follows
--   encoded      the record of an event, before what follows
--   encode_all   the file of a list of events
--   Fits         every field of an event is within its width
--   Later        none of a list of events is an opening
--   Opened       a list of events is empty, or its first is an opening and no other is
--   WrittenInBytes       an encoded file is made of bytes
--   RecordReadBack       a record that is encoded at a place, in its turn, is read as its event
--   FileReadBack         a file that is encoded from events in turn is read as those events, with no fault
--   EventsEncodeFile     a file with no fault is the encoding of its events, which are in turn and within their widths
--   EventsReachFault     the bytes before a fault are the encoding of the events, and the fault has the record number after theirs
use Rattle.std.specs.Prelude.{◌≡◌, ℕ, ◌+◌, ◌/◌, ◌%◌, ◌<◌, ◌≤◌, true, false, List, [], ◌∷◌, length, take, drop, Some, None, Ok, All, ◌==◌}
use Rattle.events.specs.Kinds.{code_of, length_of, opens, event_kind}
use Rattle.events.specs.Steps.{step_at, in_turn}
use Rattle.events.specs.Files.{events_of, fault_of}
use Rattle.events.specs.declared.event.Event.{Event}
use Rattle.events.specs.declared.event.Event.TheVariants.{Open, Trade, LodgeCash, DrawCash}
use Rattle.events.specs.declared.fault.Fault.{Fault}

abbrev pub bytes_2 : ℕ → List ℕ → List ℕ
bytes_2 n r = n % 256 ∷ n / 256 % 256 ∷ r

abbrev pub bytes_4 : ℕ → List ℕ → List ℕ
bytes_4 n r = n % 256 ∷ n / 256 % 256 ∷ n / 65536 % 256 ∷ n / 16777216 % 256 ∷ r

abbrev pub bytes_8 : ℕ → List ℕ → List ℕ
bytes_8 n r = bytes_4 (n % 4294967296) (bytes_4 (n / 4294967296) r)

abbrev pub fields : Event → List ℕ → List ℕ
fields (Open a m) r = a % 256 ∷ bytes_2 m r
fields (Trade a n b s m c t) r = a % 256 ∷ bytes_4 n (b % 256 ∷ s % 256 ∷ bytes_2 m (bytes_4 c (bytes_4 t r)))
fields (LodgeCash a m) r = a % 256 ∷ bytes_8 m r
fields (DrawCash a m) r = a % 256 ∷ bytes_8 m r

abbrev pub encoded : Event → List ℕ → List ℕ
encoded e r = bytes_2 (length_of (event_kind e)) (bytes_2 (code_of (event_kind e)) (fields e r))

abbrev pub encode_all : List Event → List ℕ
encode_all [] = []
encode_all (e ∷ es) = encoded e (encode_all es)

abbrev pub Fits : Event → Type 0
Fits (Open a m) = (a < 256) × (m < 65536)
Fits (Trade a n b s m c t) = (a < 256) × (n < 4294967296) × (b < 256) × (s < 256) × (m < 65536) × (c < 4294967296) × (t < 4294967296)
Fits (LodgeCash a m) = (a < 256) × (m < 18446744073709551616)
Fits (DrawCash a m) = (a < 256) × (m < 18446744073709551616)

abbrev pub Later : List Event → Type 0
Later es = All (λ e. opens (event_kind e) ≡ false) es

abbrev pub Opened : List Event → Type 0
Opened [] = Unit {0}
Opened (e ∷ es) = (opens (event_kind e) ≡ true) × Later es

abbrev pub WrittenInBytes : Type 0
WrittenInBytes = (es : List Event) → All (λ b. b < 256) (encode_all es)

abbrev pub RecordReadBack : Type 0
RecordReadBack =
    (bs : List ℕ) (i n : ℕ) (e : Event) (rest : List ℕ) → length bs ≤ 65536 → drop i bs ≡ encoded e rest → Fits e → in_turn (n == 0) (event_kind e) ≡ true
    → (step_at bs i n ≡ Ok (Some e)) × (drop (i + length_of (event_kind e)) bs ≡ rest) × (i + length_of (event_kind e) ≤ length bs)

abbrev pub FileReadBack : Type 0
FileReadBack =
    (es : List Event) → Opened es → All Fits es → length (encode_all es) ≤ 65536 → (events_of (encode_all es) ≡ es) × (fault_of (encode_all es) ≡ None)

abbrev pub EventsEncodeFile : Type 0
EventsEncodeFile =
    (bs : List ℕ) → All (λ b. b < 256) bs → fault_of bs ≡ None → (encode_all (events_of bs) ≡ bs) × Opened (events_of bs) × All Fits (events_of bs)

abbrev pub EventsReachFault : Type 0
EventsReachFault =
    (bs : List ℕ) (f : Fault) → All (λ b. b < 256) bs → length bs ≤ 65536 → fault_of bs ≡ Some f
    → (encode_all (events_of bs) ≡ take f.offset bs) × (f.offset ≤ length bs) × (f.ordinal ≡ length (events_of bs) + 1)

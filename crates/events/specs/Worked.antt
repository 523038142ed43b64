-- Worked files.
--   opening, lodging, trade    the bytes of an opening of 2 accounts in month 300, of a lodging and of a trade, before what follows
--   draws            the bytes of two draws, of 1,500,000 and 1,000,000
--   five             the file of these five records
--   fault            a fault of a record, a reason and a first byte
--   WorkedFile       a file of five records is read as five events, with no fault, and is the encoding of these events
--   WorkedFaults     small files, and the fault of each: its record, reason and first byte
use Rattle.std.specs.Prelude.{◌≡◌, ℕ, List, [], ◌∷◌, take, Some, None, Option}
use Rattle.events.specs.Files.{events_of, fault_of}
use Rattle.events.specs.Encoded.{encode_all}
use Rattle.events.specs.declared.event.Event.TheVariants.{Open, Trade, LodgeCash, DrawCash}
use Rattle.events.specs.declared.fault.Fault.{Fault}
use Rattle.events.specs.declared.fault.FaultReason.{FaultReason}
use Rattle.events.specs.declared.fault.FaultReason.TheVariants.{Cut, UnknownKind, WrongLength, OutOfPlace}

abbrev pub opening : List ℕ → List ℕ
opening r = 7 ∷ 0 ∷ 1 ∷ 0 ∷ 2 ∷ 44 ∷ 1 ∷ r

abbrev pub lodging : List ℕ → List ℕ
lodging r = 13 ∷ 0 ∷ 12 ∷ 0 ∷ 1 ∷ 128 ∷ 141 ∷ 91 ∷ 0 ∷ 0 ∷ 0 ∷ 0 ∷ 0 ∷ r

abbrev pub trade : List ℕ → List ℕ
trade r = 21 ∷ 0 ∷ 10 ∷ 0 ∷ 1 ∷ 7 ∷ 0 ∷ 0 ∷ 0 ∷ 0 ∷ 0 ∷ 56 ∷ 1 ∷ 100 ∷ 0 ∷ 0 ∷ 0 ∷ 0 ∷ 0 ∷ 0 ∷ 0 ∷ r

abbrev pub draws : List ℕ
draws =
    13 ∷ 0 ∷ 13 ∷ 0 ∷ 1 ∷ 96 ∷ 227 ∷ 22 ∷ 0 ∷ 0 ∷ 0 ∷ 0 ∷ 0 ∷ 13 ∷ 0 ∷ 13 ∷ 0 ∷ 1 ∷ 64 ∷ 66 ∷ 15 ∷ 0 ∷ 0 ∷ 0 ∷ 0 ∷ 0 ∷ []

abbrev pub five : List ℕ
five = opening (lodging (trade draws))

abbrev pub WorkedFile : Type 0
WorkedFile =
    (events_of five ≡ Open 2 300 ∷ LodgeCash 1 6000000 ∷ Trade 1 7 0 0 312 100 0 ∷ DrawCash 1 1500000 ∷ DrawCash 1 1000000 ∷ [])
    × (fault_of five ≡ None)
    × (encode_all (events_of five) ≡ five)

abbrev pub fault : ℕ → FaultReason → ℕ → Option Fault
fault n w i = Some (record { ordinal = n; reason = w; offset = i })

abbrev pub WorkedFaults : Type 0
WorkedFaults =
    (fault_of [] ≡ None)
    × (fault_of (0 ∷ 0 ∷ 0 ∷ []) ≡ fault 1 Cut 0)
    × (fault_of (opening (0 ∷ 0 ∷ 0 ∷ [])) ≡ fault 2 Cut 7)
    × (fault_of (opening (9 ∷ 0 ∷ 11 ∷ 0 ∷ 0 ∷ 0 ∷ 0 ∷ 0 ∷ 0 ∷ [])) ≡ fault 2 UnknownKind 7)
    × (fault_of (opening (12 ∷ 0 ∷ 12 ∷ 0 ∷ 0 ∷ 0 ∷ 0 ∷ 0 ∷ 0 ∷ 0 ∷ 0 ∷ 0 ∷ [])) ≡ fault 2 WrongLength 7)
    × (fault_of (opening (take 10 (lodging []))) ≡ fault 2 Cut 7)
    × (fault_of (opening (opening [])) ≡ fault 2 OutOfPlace 7)
    × (fault_of (lodging []) ≡ fault 1 OutOfPlace 0)
    × (fault_of (take 10 (trade [])) ≡ fault 1 Cut 0)

-- The faults of a file.
--   number_of    the number of a fault
--   too_long     the fault of a file of more than 65,536 bytes
use Rattle.std.specs.Prelude.{ℕ}
use Rattle.events.specs.declared.fault.Fault.{Fault}
use Rattle.events.specs.declared.fault.FaultReason.{FaultReason}
use Rattle.events.specs.declared.fault.FaultReason.TheVariants.{Cut, UnknownKind, WrongLength, OutOfPlace, TooLong}

abbrev pub number_of : FaultReason → ℕ
number_of Cut = 1
number_of UnknownKind = 2
number_of WrongLength = 3
number_of OutOfPlace = 4
number_of TooLong = 5

abbrev pub too_long : Fault
too_long = record { ordinal = 0; reason = TooLong; offset = 0 }

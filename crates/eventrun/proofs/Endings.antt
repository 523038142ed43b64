-- How a reading ends that has room for all events.
use Rattle.std.proofs.Common.{◌≡◌, Some, None, Option, refl}
use Rattle.events.specs.Readings.{ending_of}
use Rattle.events.specs.declared.fault.Fault as faults
use Rattle.events.specs.declared.reading.Ending.{Ending}
use Rattle.events.specs.declared.reading.Ending.TheVariants.{End, Fault, NoRoom}
use Rattle.eventrun.specs.Endings.{fault_in}

pub has_room : (f : Option faults.Fault) → ending_of f ≡ NoRoom → ⊥
has_room None e = cc
has_room (Some f) e = cc

pub told : (f : Option faults.Fault) → fault_in (ending_of f) ≡ f
told None = refl
told (Some f) = refl

-- How the reading of a file ended. Assumes nothing.
--   fault_in    the fault that it ended at, if it did
use Rattle.std.specs.Prelude.{Some, None, Option}
use Rattle.events.specs.declared.fault.Fault as faults
use Rattle.events.specs.declared.reading.Ending.{Ending}
use Rattle.events.specs.declared.reading.Ending.TheVariants.{End, Fault, NoRoom}

abbrev pub fault_in : Ending → Option faults.Fault
fault_in End = None
fault_in (Fault f) = Some f
fault_in NoRoom = None

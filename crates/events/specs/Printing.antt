-- What a fault prints.
--   fault_text   the number of the record, the word "fault", its number and its place, with a blank (byte 32) between two
use Rattle.std.specs.Prelude.{ℕ, List, [], ◌∷◌, codes}
use Rattle.std.specs.List.{join_with_byte}
use Rattle.std.specs.Fmt.{decimal}
use Rattle.events.specs.declared.fault.Fault.{Fault}
use Rattle.events.specs.Faults.{number_of}

abbrev pub fault_text : Fault → List ℕ
fault_text f = join_with_byte 32 (decimal f.ordinal ∷ codes "fault" ∷ decimal (number_of f.reason) ∷ decimal f.offset ∷ [])

-- What a whole file says.
--   events_from, fault_from    the records from a place on, after so many records, and the fault that ends them; at most so many steps
--   events_with, fault_with    a step, and what follows it if it is a record
--   events_of    the events of a file: its records up to the end or the first fault
--   fault_of     the first fault of a file, if it has one
use Rattle.std.specs.Prelude.{ℕ, zero, suc, ◌+◌, List, [], ◌∷◌, length, Some, None, Ok, Err, Option}
use Rattle.events.specs.Steps.{Step, step_at, size_of}
use Rattle.events.specs.declared.event.Event.{Event}
use Rattle.events.specs.declared.fault.Fault.{Fault}

abbrev pub events_with : Step → List Event → List Event
events_with (Ok None) more = []
events_with (Err f) more = []
events_with (Ok (Some e)) more = e ∷ more

abbrev pub fault_with : Step → Option Fault → Option Fault
fault_with (Ok None) more = None
fault_with (Err f) more = Some f
fault_with (Ok (Some e)) more = more

abbrev pub events_from : ℕ → List ℕ → ℕ → ℕ → List Event
events_from zero bs i n = []
events_from (suc steps) bs i n = events_with (step_at bs i n) (events_from steps bs (i + size_of (step_at bs i n)) (n + 1))

abbrev pub fault_from : ℕ → List ℕ → ℕ → ℕ → Option Fault
fault_from zero bs i n = None
fault_from (suc steps) bs i n = fault_with (step_at bs i n) (fault_from steps bs (i + size_of (step_at bs i n)) (n + 1))

-- a file has fewer records than bytes, so that one step more than it has bytes always reaches its end or fault
abbrev pub events_of : List ℕ → List Event
events_of bs = events_from (length bs + 1) bs 0 0

abbrev pub fault_of : List ℕ → Option Fault
fault_of bs = fault_from (length bs + 1) bs 0 0

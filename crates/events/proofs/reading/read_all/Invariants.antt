use Rattle.std.proofs.Common.{◌≡◌, ◌≤◌, ◌++◌, length, take, drop}
use Rattle.events.specs.Files.{events_of, fault_of}
use Rattle.events.specs.Left.{events_left, fault_left}
use Rattle.events.proofs.reading.read_all.Given as goal

abbrev pub invariant-loop-event : goal.invariant-loop-event
invariant-loop-event l =
    (events_of l.bytes ≡ take l.count l.room ++ events_left l.reader)
    × (fault_of l.bytes ≡ fault_left l.reader)
    × (drop l.count l.room ≡ drop l.count l.initial.room)
    × (l.count ≤ length l.room)
    × (length l.room ≡ length l.initial.room)

abbrev pub decreases-loop-event : goal.decreases-loop-event
decreases-loop-event l = length (events_left l.reader)

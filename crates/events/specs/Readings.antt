-- A whole file, read into a room for events.
--   ending_of    how a reading ends that has room for all events
--   ReadInto     what a reading says, and what it makes of the room
use Rattle.std.specs.Prelude.{◌≡◌, ◌≢◌, ℕ, ◌+◌, ◌<◌, ◌≤◌, min, if◌then◌else◌, List, length, take, drop, Some, None, Option, All, nat_lt}
use Rattle.events.specs.Encoded.{encode_all, Fits, Opened}
use Rattle.events.specs.Faults.{too_long}
use Rattle.events.specs.Files.{events_of, fault_of}
use Rattle.events.specs.declared.event.Event.{Event}
use Rattle.events.specs.declared.fault.Fault as faults
use Rattle.events.specs.declared.reading.Ending.{Ending}
use Rattle.events.specs.declared.reading.Ending.TheVariants.{End, Fault, NoRoom}
use Rattle.events.specs.declared.reading.Reading.{Reading}

abbrev pub ending_of : Option faults.Fault → Ending
ending_of None = End
ending_of (Some f) = Fault f

pub record ReadInto (bytes : List ℕ) (before after : List Event) (r : Reading) : Type 0 where
  -- as many events as the file has, or as the room holds if that is less
  pub counted : r.count ≡ min (length before) (length (events_of bytes))
  -- they stand in the front of the room, in their order
  pub front : take r.count after ≡ take r.count (events_of bytes)
  -- the rest of the room is as it was
  pub rest : drop r.count after ≡ drop r.count before
  -- it ends for want of room exactly if the file has more events, and else as the file does
  pub ended : r.ending ≡ (if nat_lt (length before) (length (events_of bytes)) then NoRoom else ending_of (fault_of bytes))
  -- all events are there, unless the room was too small
  pub whole : r.ending ≢ NoRoom → take r.count after ≡ events_of bytes
  -- a file has at most 5,041 events, so that a room for those is never too small
  pub most : length (events_of bytes) ≤ 5041
  pub suffices : 5041 ≤ length before → r.ending ≡ ending_of (fault_of bytes)
  -- of a file that is too long nothing is read
  pub overlong : 65536 < length bytes → (r.count ≡ 0) × (r.ending ≡ Fault too_long)
  -- a file that is encoded from events is read as those events
  pub decodes : (es : List Event) → bytes ≡ encode_all es → Opened es → All Fits es → length bytes ≤ 65536 → r.ending ≢ NoRoom
      → (take r.count after ≡ es) × (r.ending ≡ End)
  -- what was read to the end of a file encodes to the file
  pub encodes : r.ending ≡ End → encode_all (take r.count after) ≡ bytes
  -- what was read before a fault encodes to the bytes before it
  pub reaches : (f : faults.Fault) → r.ending ≡ Fault f → length bytes ≤ 65536
      → (encode_all (take r.count after) ≡ take f.offset bytes) × (f.ordinal ≡ r.count + 1)

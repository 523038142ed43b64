use Rattle.std.proofs.Common.{ℕ, ◌<◌, get_or, None, Some, ◌∙◌, arith}
use Rattle.events.specs.Left.{events_left}
use Rattle.events.proofs.Fills.{all_read, room_full}
use Rattle.events.proofs.reading.read_all.Goals as goal

pub returns-in-Ok-None : goal.returns-in-Ok-None
returns-in-Ok-None c =
    let l = c.loop-event in
    let byte : (k : ℕ) → get_or c.args.bytes.now k 0 < 256 = λ k. omega (arith, c.type_inv.bytes k) in
    let h = rw c.in-Ok-None.field-0-is at c.in-Ok-None.ensures.left in
    all_read c.args.bytes.now c.args.room.now l.room l.count (events_left l.reader) l.invariant.0 l.invariant.2 l.invariant.3 l.invariant.4 byte None h.0 (l.invariant.1 ∙ h.1)

pub returns-in-Err : goal.returns-in-Err
returns-in-Err c =
    let l = c.loop-event in
    let byte : (k : ℕ) → get_or c.args.bytes.now k 0 < 256 = λ k. omega (arith, c.type_inv.bytes k) in
    let h = c.in-Err.ensures.left in
    all_read c.args.bytes.now c.args.room.now l.room l.count (events_left l.reader) l.invariant.0 l.invariant.2 l.invariant.3 l.invariant.4 byte (Some c.in-Err.fault) h.0 (l.invariant.1 ∙ h.1)

pub returns-then-count-room : goal.returns-then-count-room
returns-then-count-room c =
    let l = c.loop-event in
    let byte : (k : ℕ) → get_or c.args.bytes.now k 0 < 256 = λ k. omega (arith, c.type_inv.bytes k) in
    let h = rw c.in-Ok-Some.field-0-is at c.in-Ok-Some.ensures.left in
    room_full c.args.bytes.now c.args.room.now l.room l.count (events_left l.reader) l.invariant.0 l.invariant.2 l.invariant.3 l.invariant.4 byte c.in-Ok-Some.event _ h.0 (omega arith)

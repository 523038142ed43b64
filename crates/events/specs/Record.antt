-- The fields of a record.
--   event_at     the event of the record of a kind that begins at a place
use Rattle.std.specs.Prelude.{ℕ, ◌+◌, List}
use Rattle.events.specs.Numbers.{u8_at, u16_at, u32_at, u64_at}
use Rattle.events.specs.declared.event.Kind.{Kind}
use Rattle.events.specs.declared.event.Kind.TheVariants as kinds
use Rattle.events.specs.declared.event.Event.{Event}
use Rattle.events.specs.declared.event.Event.TheVariants.{Open, Trade, LodgeCash, DrawCash}

abbrev pub event_at : List ℕ → ℕ → Kind → Event
event_at bs i kinds.Open = Open (u8_at bs (i + 4)) (u16_at bs (i + 5))
event_at bs i kinds.Trade =
    Trade (u8_at bs (i + 4)) (u32_at bs (i + 5)) (u8_at bs (i + 9)) (u8_at bs (i + 10)) (u16_at bs (i + 11)) (u32_at bs (i + 13)) (u32_at bs (i + 17))
event_at bs i kinds.LodgeCash = LodgeCash (u8_at bs (i + 4)) (u64_at bs (i + 5))
event_at bs i kinds.DrawCash = DrawCash (u8_at bs (i + 4)) (u64_at bs (i + 5))

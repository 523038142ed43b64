-- What meets the premises of `RecordReadBack`, by computation: the second record of the file of five.
use Rattle.std.proofs.Common.{◌≡◌, ◌<◌, ◌≤◌, true, length, drop, refl, arith}
use Rattle.std.specs.Prelude.{◌==◌}
use Rattle.events.specs.Kinds.{event_kind}
use Rattle.events.specs.Steps.{in_turn}
use Rattle.events.specs.Encoded.{encoded, Fits}
use Rattle.events.specs.Worked.{five, trade, draws}
use Rattle.events.specs.declared.event.Event.TheVariants.{LodgeCash}

pub record_met : (length five ≤ 65536) × (drop 7 five ≡ encoded (LodgeCash 1 6000000) (trade draws)) × Fits (LodgeCash 1 6000000) × (in_turn (1 == 0) (event_kind (LodgeCash 1 6000000)) ≡ true)
record_met = (omega arith, refl, (omega arith, omega arith), refl)

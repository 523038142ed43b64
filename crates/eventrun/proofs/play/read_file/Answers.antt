use Rattle.std.proofs.Common.{◌≡◌, ◌≤◌, List, length, take, ap, ◌∙◌, sym, arith}
use Rattle.std.proofs.lemmas.List.{with_items_is}
use Rattle.events.specs.Files.{fault_of}
use Rattle.events.specs.declared.event.Event.{Event}
use Rattle.events.specs.declared.reading.Ending.TheVariants.{NoRoom}
use Rattle.eventrun.specs.Endings.{fault_in}
use Rattle.eventrun.proofs.Endings.{has_room, told}
use Rattle.eventrun.proofs.play.read_file.Goals as goal

pub returns : goal.returns
returns c =
    let e = c.read_all-reading.ensures in
    let made = c.in_ok-events.ensures.len in
    let lent = c.deref_mut.ensures in
    let long = c.read_all-reading.auto.room in
    let room : 5041 ≤ length c.deref_mut.result.now = omega (arith, made, lent.len) in
    let ended = e.suffices room in
    let fits : c.read_all-reading.result.ending ≡ NoRoom → ⊥ = λ full. has_room (fault_of c.args.bytes.now) (sym ended ∙ full) in (
      c.truncate.ensures.items
          ∙ ap (λ (l : List Event). take c.read_all-reading.result.count l) (with_items_is c.in_ok-events.events c.read_all-reading.new.room (long ∙ lent.len))
          ∙ e.whole fits,
      c.fault_in.ensures ∙ ap fault_in ended ∙ told (fault_of c.args.bytes.now),
    )

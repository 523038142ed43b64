use Rattle.std.proofs.Common.{map, sym, refl, ap, ◌∙◌}
use Rattle.std.proofs.lemmas.List.{with_items_is}
use Rattle.eventrun.specs.Calls.{event_of}
use Rattle.eventrun.specs.Files.{answer_in}
use Rattle.eventrun.proofs.Opened.{accepted}
use Rattle.eventrun.proofs.play.play_opened.Goals as goal

pub returns-in-Ok : goal.returns-in-Ok
returns-in-Ok g c =
    let room = c.in_ok-replies.ensures.len in
    let kept = c.play-day.auto.answers in
    accepted (g.M.MarginModel.meaning c.args.model.now) c.args.accounts c.args.month c.args.later.now
    c.deref_mut.result.now c.play-day.new.records c.deref_mut-2.result.now c.play-day.new.trades
    c.unopened-house.result.market.state c.play-day.new.house.market.state c.unopened-house.result.accounts c.play-day.new.house.accounts
    c.as_slice-2.result.now c.deref_mut-3.result.now c.play-day.new.answers _
    (c.deref_mut.ensures.len ∙ c.in_ok-rows.ensures.len) (c.deref_mut-2.ensures.len ∙ c.in_ok-places.ensures.len)
    c.in-Ok.field-0 c.in-Ok.ensures
    (c.as_slice-2.ensures.value ∙ c.in_ok-events.ensures ∙ ap (map event_of) (c.as_slice.ensures.value ∙ c.in_ok-calls.ensures))
    (c.deref_mut-3.ensures.len ∙ room ∙ c.len.ensures ∙ sym c.as_slice-2.ensures.len) kept
    refl
    (c.in_ok-answers_of-in-Ok.ensures ∙ ap (map answer_in) (c.as_slice-in-Ok.ensures.value ∙ with_items_is c.in_ok-replies.replies c.play-day.new.answers (kept ∙ c.deref_mut-3.ensures.len)))

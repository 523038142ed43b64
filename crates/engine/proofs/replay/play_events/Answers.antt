use Rattle.std.proofs.Common.{◌≡◌, ℕ, ◌+◌, ◌<◌, true, List, length, take, drop, sym, refl, ap, ◌∙◌, subst, arith, length-take, take_all}
use Rattle.std.proofs.lemmas.List.{take-take}
use Rattle.tables.specs.Limits.{no_trade, tables_keep}
use Rattle.rules.specs.declared.call.AccountCall.TheVariants.{Trade}
use Rattle.rules.specs.declared.call.Call.TheVariants.{Account}
use Rattle.rules.specs.declared.call.Event.{Event}
use Rattle.rules.specs.declared.call.Event.TheVariants.{RightTables}
use Rattle.rules.specs.Stands.{Stand, standing}
use Rattle.isolation.specs.Runs.{run, replies}
use Rattle.engine.specs.Promises.{HeldBy}
use Rattle.house.proofs.Runs.{rest_more}
use Rattle.engine.proofs.Played.{held_by, up_to_more, run_more, replies_more}
use Rattle.engine.proofs.replay.play_events.Goals as goal

-- what `get_or` gives past the end
no_event : Event
no_event = RightTables (Account (record { account = 0; call = Trade no_trade }))

pub loop-i-preserved : goal.loop-i-preserved
unfolding no_event
loop-i-preserved g c =
    let m = g.M.MarginModel.meaning c.args.model.now in
    let s : Stand = standing c.args.house.now.market.state c.args.records.now c.args.trades.now in
    let t : Stand = standing c.loop-i.house.market.state c.loop-i.records c.loop-i.trades in
    let u : Stand = standing c.play_event-said.new.house.market.state c.play_event-said.new.records c.play_event-said.new.trades in
    let es = take c.min-count.result c.args.events.now in
    let i = c.loop-i.i in
    let e = c.play_event-said.ensures in
    let lt : i < length es = c.loop-i-test.true in
    let la : i < length c.loop-i.answers = omega (arith, c.min-count.ensures, lt, length-take c.min-count.result c.args.events.now) in
    let n = c.args.house.now.accounts in
    let l = c.play_event-said.new.house.market.state in
    let us = c.play_event-said.new.records in
    let vs = c.play_event-said.new.trades in
    let keeps : tables_keep n us vs ≡ true = ap (λ (x : ℕ). tables_keep x us vs) (sym (e.accounts ∙ c.loop-i.invariant.0)) ∙ e.keeps in
    let stands : u ≡ run m s (take (i + 1) es) = run_more m s es i no_event lt t u c.loop-i.invariant.2 e.stands in (
      e.accounts ∙ c.loop-i.invariant.0,
      e.keeps,
      stands,
      replies_more m s es i no_event lt t c.loop-i.answers c.play_event-said.result la c.loop-i.invariant.2 c.loop-i.invariant.3 e.answer,
      rest_more c.loop-i.answers c.args.answers.now i c.play_event-said.result c.loop-i.invariant.4,
      up_to_more (λ (j : ℕ). HeldBy n (run m s (take j es))) i c.loop-i.invariant.5 (subst (HeldBy n) stands (held_by l n us vs c.args.house.now.some keeps)),
    )

pub loop-i-init : goal.loop-i-init
loop-i-init g c =
    let n = c.args.house.now.accounts in
    let k = c.args.house.now.market.state in
    let rs = c.args.records.now in
    let ts = c.args.trades.now in
    let m = g.M.MarginModel.meaning c.args.model.now in
    let first = held_by k n rs ts c.args.house.now.some c.requires in
    (refl, c.requires, refl, refl, refl, λ j le. let z : 0 ≡ j = omega arith in subst (λ (x : ℕ). HeldBy n (run m (standing k rs ts) (take x (take c.min-count.result c.args.events.now)))) z first)

pub returns : goal.returns
returns g c =
    let m = g.M.MarginModel.meaning c.args.model.now in
    let s : Stand = standing c.args.house.now.market.state c.args.records.now c.args.trades.now in
    let n : ℕ = c.min-count.result in
    let es = take n c.args.events.now in
    let whole : length es ≡ n = omega (arith, c.min-count.ensures, length-take n c.args.events.now) in
    let end : c.loop-i.i ≡ n = omega (arith, c.loop-i-test.false, whole) in
    let all : take n es ≡ es = take_all n es (omega (arith, whole)) in
    record {
      accounts = c.loop-i.invariant.0;
      value = omega (arith, c.min-count.ensures);
      answers = subst (λ (xs : List Event). take n c.loop-i.answers ≡ replies m s xs) all (subst (λ (r : ℕ). take r c.loop-i.answers ≡ replies m s (take r es)) end c.loop-i.invariant.3);
      rest = subst (λ (r : ℕ). drop r c.loop-i.answers ≡ drop r c.args.answers.now) end c.loop-i.invariant.4;
      stands = c.loop-i.invariant.2 ∙ ap (λ (r : ℕ). run m s (take r es)) end ∙ ap (run m s) all;
      keeps = ap (λ (n : ℕ). tables_keep n c.loop-i.records c.loop-i.trades) (sym c.loop-i.invariant.0) ∙ c.loop-i.invariant.1;
      throughout = λ j le. subst (λ (xs : List Event). HeldBy c.args.house.now.accounts (run m s xs)) (take-take j n c.args.events.now le) (c.loop-i.invariant.5 j (omega arith));
    }

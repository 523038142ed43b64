use Rattle.std.proofs.Common.{arith, subst, refl, ◌∙◌, sym, IfSome, ◌≤◌}
use Rattle.std.proofs.lemmas.List.{nil_from_length}
use Rattle.tail.specs.Tail.{count_at_least}
use Rattle.tail.proofs.Kths.{holds_push}
use Rattle.tail.proofs.Thresholds.{Kept, kept_none, kept_from, kept_more, kept_all}
use Rattle.tail.proofs.keeper.Keeper.of.Goals as goal

pub loop-bar-init : goal.loop-bar-init
loop-bar-init g c = (refl, refl, kept_none g.T.Ranked.reaches c.threshold-bar.result c.args.entries.now c.args.places.now)

pub loop-bar-preserved : goal.loop-bar-preserved
loop-bar-preserved g c =
    let ge = g.T.Ranked.reaches in
    let t = c.threshold-bar.result in
    let xs = c.args.entries.now in
    let old = c.loop-bar.keeper in
    let new = c.put.new.self in
    let put = c.put.ensures in
    let before = c.loop-bar.invariant in
    let left = c.skip.result.now in
    let here = kept_from ge t xs c.loop-bar.left.now old.filled old.places.now left c.skip.ensures before.2 in (
      put.same ∙ before.0,
      put.len ∙ before.1,
      kept_more ge t xs left c.x-item.result old.filled new.filled old.places.now new.places.now c.in-len1-up.len_at_least c.x-item.is
          (λ ys h. holds_push ge ys old.places.now new.places.now old.filled new.filled c.x-item.result put.len put.filled put.places h) here,
    )

pub returns-clause-holds : goal.returns-clause-holds
returns-clause-holds g c =
    let ge = g.T.Ranked.reaches in
    let t = c.threshold-bar.result in
    let xs = c.args.entries.now in
    let old = c.loop-bar.keeper in
    let before = c.loop-bar.invariant in
    let left = c.skip.result.now in
    let here = kept_from ge t xs c.loop-bar.left.now old.filled old.places.now left c.skip.ensures before.2 in
    kept_all g.met.T.Ranked.orders xs t old.filled old.places.now (subst (λ k. IfSome t (λ l. k ≤ count_at_least ge l xs)) (sym before.1) c.threshold-bar.ensures)
    (subst (λ u. Kept ge t xs u old.filled old.places.now) (nil_from_length left (omega (arith, c.in_default.len_below))) here)

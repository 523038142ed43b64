use Rattle.std.proofs.Common.{◌≡◌, ◌<◌, length, get_or, pos, filter, refl, sym, ap, subst, ◌∙◌, arith, rules, take, take_all}
use Rattle.std.proofs.lemmas.Grind.{common_steps}
use Rattle.risk.specs.declared.grouping.Grouping.TheVariants.{ByHalfYear}
use Rattle.risk.specs.Groups.{key_of, in_group, group_trades}
use Rattle.risk.specs.Losses.{var_of}
use Rattle.risk.proofs.Apart.{standing}
use Rattle.risk.proofs.Alones.{Known, known_first, known_all, group_none}
use Rattle.risk.proofs.Parts.{none_lost, all_lost, group_small, group_more}
use Rattle.risk.proofs.quotes.Quotes.buckets.Goals as goal

pub loop-trade-init : goal.loop-trade-init
loop-trade-init g c =
    let q = c.args.self.now in
    let m = g.M.MarginModel.meaning q.model.now in
    let ts = c.args.trades.trades.now in (
      omega arith,
      refl,
      λ k. known_first (key_of ByHalfYear q.day) (λ n. var_of m q.day (group_trades ByHalfYear q.day n ts)) 121 k,
      λ j h. none_lost m q.day ByHalfYear ts 121 1000 c.scenarios.result j,
    )

pub bucket_risk-requires-clause-small : goal.bucket_risk-requires-clause-small
bucket_risk-requires-clause-small g c = λ j.
    let q = c.args.self.now in
    group_small (g.M.MarginModel.meaning q.model.now) q.day ByHalfYear c.args.trades.trades.now c.loop-trade.risks c.key-key.result c.gather-group.result.trades.now (omega (arith, c.loop-trade.invariant.1, c.key-key.ensures)) (sym c.is_some.ensures ∙ c.if-is_some.false) c.gather-group.ensures
    c.loop-trade.all (g.M.MarginModel.lawful q.model.now) (standing c.args.trades.trades.now c.args.trades.stand) c.loop-trade.invariant.3 j

pub loop-trade-preserved : goal.loop-trade-preserved
loop-trade-preserved g c =
    let q = c.args.self.now in (
      omega arith,
      search rules,
      λ k. grind (arith, common_steps, c.loop-trade.invariant.2 k),
      λ j h.
          let lt : j < length c.loop-trade.all = omega (arith, c.bucket_risk.auto.all) in
          group_more (g.M.MarginModel.meaning q.model.now) q.day ByHalfYear c.args.trades.trades.now c.loop-trade.risks c.key-key.result c.gather-group.result.trades.now (omega (arith, c.loop-trade.invariant.1, c.key-key.ensures)) (sym c.is_some.ensures ∙ c.if-is_some.false) c.gather-group.ensures
          c.bucket_risk.result j (get_or c.loop-trade.all j (pos 0)) (get_or c.bucket_risk.new.all j (pos 0)) (c.loop-trade.invariant.3 j lt) (c.bucket_risk.ensures.losses j lt),
    )

pub returns-clause-risks : goal.returns-clause-risks
returns-clause-risks g c = λ k.
    let q = c.args.self.now in
    let m = g.M.MarginModel.meaning q.model.now in
    let same : c.rows-trade-items.result.now ≡ c.args.trades.trades.now = c.rows-trade-items.ensures.value in
    known_all (key_of ByHalfYear q.day) (λ n. var_of m q.day (group_trades ByHalfYear q.day n c.args.trades.trades.now))
    c.loop-trade.risks c.rows-trade-items.result.now c.loop-trade.trade-index k c.loop-trade-test.false
    (λ none. group_none m q.day ByHalfYear c.args.trades.trades.now k (sym (ap (filter (in_group ByHalfYear q.day k)) same) ∙ none)) (c.loop-trade.invariant.2 k)

pub returns-clause-whole : goal.returns-clause-whole
returns-clause-whole g c =
    let q = c.args.self.now in
    let m = g.M.MarginModel.meaning q.model.now in
    let ts = c.args.trades.trades.now in
    let all : take c.loop-trade.trade-index c.rows-trade-items.result.now ≡ ts = take_all c.loop-trade.trade-index c.rows-trade-items.result.now c.loop-trade-test.false ∙ c.rows-trade-items.ensures.value in
    c.risk_of_losses.ensures m q.day ts
    (all_lost m q.day ByHalfYear ts c.loop-trade.risks c.loop-trade.all (search rules)
    (λ k. subst (λ ys. Known (key_of ByHalfYear q.day) (λ n. var_of m q.day (group_trades ByHalfYear q.day n ts)) c.loop-trade.risks ys k) all (c.loop-trade.invariant.2 k))
    c.loop-trade.invariant.3)

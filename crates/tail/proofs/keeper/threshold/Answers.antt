use Rattle.std.proofs.Common.{◌≡◌, ◌+◌, ◌/◌, ◌<◌, length, subst, sym, ap, ◌∙◌, arith, rules, Some, MatchOption, ◌++◌, ◌∷◌, []}
use Rattle.std.specs.List.{ContainsAt}
use Rattle.std.proofs.lemmas.List.{length_push}
use Rattle.tail.proofs.Thresholds.{Reached, reached_first, reached_more, reached_all}
use Rattle.tail.proofs.keeper.threshold.Goals as goal

pub loop-chunk-init : goal.loop-chunk-init
loop-chunk-init g c =
    let same = c.into_iter-chunk-iterator.ensures.into_iter_gives in
    let made = c.chunks_exact-chunk-items.ensures in
    let split = c.split_at.ensures in
    let was : c.highest.result ≡ Some c.in_ok-least.least = search rules in
    let at = subst (λ o. MatchOption o (length c.split_at.result.0.now ≡ 0) (ContainsAt c.split_at.result.0.now)) was c.highest.ensures in (
      ap (λ s. s.size) same ∙ made.size,
      subst (λ r. Reached g.T.Ranked.reaches c.args.entries.now c.in_ok-size.size 1 r c.in_ok-least.least) (sym (ap (λ s. s.rest.now) same ∙ made.rest))
          (reached_first g.met.T.Ranked.orders c.args.entries.now c.split_at.result.1.now c.split_at.result.0.now c.in_ok-size.size c.in_ok-least.least split.by_index.0 split.front_len at),
    )

pub loop-chunk-preserved : goal.loop-chunk-preserved
loop-chunk-preserved g c =
    let step = c.in-Some.ensures.steps in
    let before = c.loop-chunk.invariant in
    let n = length c.loop-chunk.yielded + 1 in
    let x = c.in_ok-highest.field-0 in
    let was : c.highest-in-loop-chunk.result ≡ Some x = search rules in
    let at = subst (λ o. MatchOption o (length c.in-Some.chunk.now ≡ 0) (ContainsAt c.in-Some.chunk.now)) was c.highest-in-loop-chunk.ensures in
    let count : n + 1 ≡ length (c.loop-chunk.yielded ++ c.in-Some.chunk ∷ []) + 1 = omega (arith, length_push c.loop-chunk.yielded c.in-Some.chunk) in (
      step.0 ∙ before.0,
      subst (λ m. Reached g.T.Ranked.reaches c.args.entries.now c.in_ok-size.size m c.next.new.self.rest.now c.lower-least.result) count
          (reached_more g.met.T.Ranked.orders c.args.entries.now c.loop-chunk.chunk-iterator.rest.now c.next.new.self.rest.now c.in-Some.chunk.now c.in_ok-size.size n c.loop-chunk.least x c.lower-least.result
          step.1.0 (step.1.1 ∙ before.0) at c.lower-least.ensures before.1),
    )

pub returns : goal.returns
returns g c =
    let end = c.in-None.ensures.steps in
    let before = c.loop-chunk.invariant in
    let size : c.in_ok-size.size ≡ length c.args.entries.now / c.args.k = search rules in
    let few : length c.loop-chunk.chunk-iterator.rest.now < c.in_ok-size.size = omega (arith, end.1.0, before.0) in
    reached_all g.met.T.Ranked.orders c.args.entries.now c.loop-chunk.chunk-iterator.rest.now c.args.k c.in_ok-size.size (length c.loop-chunk.yielded + 1) c.loop-chunk.least size few before.1

use Rattle.std.proofs.Common.{ℕ, length, get_or, sym, ap, ap₂, ◌∙◌, arith}
use Rattle.std.proofs.lemmas.List.{length_push}
use Rattle.std.proofs.lemmas.Slice.Zip.{zip_turn, zip_end}
use Rattle.tables.specs.Numbers.{sum_below}
use Rattle.tables.specs.Collateral.{lots_value}
use Rattle.tables.specs.Limits.{no_security}
use Rattle.tables.proofs.Numbers.{sum_next}
use Rattle.margins.specs.Figures.{securities_of}
use Rattle.margins.proofs.collateral.securities_value.Goals as goal

pub loop-count-preserved : goal.loop-count-preserved
loop-count-preserved c =
    let lots = c.args.lots.now in
    let securities = c.args.securities.now in
    let n = length c.loop-count.yielded in
    let turn = zip_turn lots securities c.loop-count.yielded c.into_iter-count-iterator.result c.loop-count.count-iterator c.next.new.self c.next.result (cc) (cc) c.loop-count.yielded_by (c.in-Some.count, c.in-Some.row) c.in-Some.is c.next.ensures.steps in
    let value : ℕ → ℕ = λ i. lots_value (get_or lots i 0) (get_or securities i no_security) in
    let one = c.row_value-sum.ensures.value ∙ ap₂ lots_value (turn.2 0) (turn.3 no_security) in
    let few = c.requires.lots n 0 turn.0 in
    let more = length_push c.loop-count.yielded (c.in-Some.count, c.in-Some.row) in
    let count = turn.2 0 in (
      sum_next value c.loop-count.sum n c.row_value-sum.result c.loop-count.invariant.0 one ∙ ap (sum_below value) (sym more),
      omega (arith, c.row_value-sum.ensures.bound, c.loop-count.invariant.1),
    )

pub returns-clause-value : goal.returns-clause-value
unfolding securities_of
returns-clause-value c =
    let lots = c.args.lots.now in
    let securities = c.args.securities.now in
    let ended = zip_end lots securities c.loop-count.yielded c.into_iter-count-iterator.result c.loop-count.count-iterator c.next.new.self c.next.result (cc) (cc) c.loop-count.yielded_by c.in-None.is c.next.ensures.steps in
    let value : ℕ → ℕ = λ i. lots_value (get_or lots i 0) (get_or securities i no_security) in
    c.loop-count.invariant.0 ∙ ap (sum_below value) (omega (arith, ended))

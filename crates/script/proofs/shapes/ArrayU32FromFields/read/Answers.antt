use Rattle.std.proofs.Common.{◌+◌, ◌-◌, ◌<◌, ◌∙◌, length, replicate, ap, sym, arith, length-set}
use lib.ListN.{length-replicate}
use Rattle.std.proofs.lemmas.List.{take_more_set}
use Rattle.script.specs.Fields.{bits32, then, fields_of}
use Rattle.script.proofs.Chains.{stops, prefixed, none_read, one_fails, one_more_read, all_read}
use Rattle.script.proofs.shapes.ArrayU32FromFields.read.Goals as goal

pub loop-x-init : goal.loop-x-init
loop-x-init g c = (length-replicate g.row.N 0, none_read bits32 g.row.N c.args.scan.now.rest.now)

pub returns-in_err-x : goal.returns-in_err-x
returns-in_err-x g c = stops _ _ _ _ _ _ c.from_residual.ensures.1 (one_fails _ g.row.N c.loop-x.x-index _ _ _ _ c.loop-x-test.true c.loop-x.invariant.1 c.in_err-x.ensures)

pub loop-x-preserved : goal.loop-x-preserved
loop-x-preserved g c =
    let l : c.loop-x.x-index < length c.loop-x.x-items = omega (arith, c.loop-x-test.true, c.loop-x.invariant.0) in (
      length-set c.loop-x.x-items c.loop-x.x-index c.in_ok-x.field-0 ∙ c.loop-x.invariant.0,
      one_more_read _ g.row.N c.loop-x.x-index _ _ _ _ _ c.loop-x-test.true c.loop-x.invariant.1 c.in_ok-x.ensures
          ∙ ap (λ ys. then (fields_of (replicate (g.row.N - (c.loop-x.x-index + 1)) bits32) c.read.new.scan.rest.now) (prefixed ys)) (sym (take_more_set c.loop-x.x-items c.loop-x.x-index c.in_ok-x.field-0 l)),
    )

pub returns : goal.returns
returns g c = all_read _ g.row.N c.loop-x.x-index _ _ _ c.loop-x-test.false c.loop-x.invariant.0 c.loop-x.invariant.1

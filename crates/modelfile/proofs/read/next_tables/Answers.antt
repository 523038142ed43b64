use Rattle.std.proofs.Common.{vec_items}
use Rattle.modelfile.proofs.Forms.{tables_are}
use Rattle.modelfile.proofs.read.next_tables.Goals as goal

pub returns : goal.returns
returns c =
    tables_are c.args.head.kind c.args.head.sets c.args.head.scenarios _ _ c.sizes-size.result.0 c.sizes-size.result.1 c.args.scan.now.rest.now
    c.next_numbers.new.scan.rest.now c.next_numbers-2.new.scan.rest.now c.next_numbers-3.new.scan.rest.now
    (vec_items c.in_ok-rates.rates) (vec_items c.in_ok-ticks.ticks) (vec_items c.in_ok-changes.changes)
    c.sizes-size.ensures.0 c.sizes-size.ensures.1
    c.in_ok-rates.ensures.0 c.in_ok-rates.ensures.1 c.in_ok-ticks.ensures.0 c.in_ok-ticks.ensures.1
    c.in_ok-changes.ensures.0 c.in_ok-changes.ensures.1

use Rattle.std.proofs.Common.{ℕ, ◌≤◌, length, pos, ◌*ℤ◌, nat_abs, arith}
use Rattle.knots.specs.Interpolation.{floor}
use Rattle.knots.specs.KnotTable.{shock_at}
use Rattle.knots.specs.KnotTableLaws.{shock_most}
use Rattle.knots.proofs.Casts.{same}
use Rattle.knots.proofs.Runs.{moved_is, change_is, writes_more}
use Rattle.knots.proofs.rows.changes.Goals as goal

pub change_of-requires : goal.change_of-requires
change_of-requires c =
    let xs = c.args.shocks.now in
    let is = moved_is xs c.args.row c.args.runs (length c.args.room.now) c.loop-scenario.scenario c.args.residual c.neighbours-p.result.0 c.neighbours-p.result.1 c.value-moved.result c.requires.sizes (omega arith) c.neighbours-p.ensures.low c.neighbours-p.ensures.high c.value-moved.ensures in
    let size : nat_abs c.value-moved.result ≤ 20000 = rw is (shock_most xs c.args.row c.args.runs c.loop-scenario.scenario c.args.residual c.requires.sizes c.requires.scenario.1) in
    let back = same c.value-moved.result (omega arith) in
    (c.requires.tick, simp back size)

pub loop-scenario-preserved : goal.loop-scenario-preserved
loop-scenario-preserved c =
    let xs = c.args.shocks.now in
    let i = c.loop-scenario.scenario in
    let f = λ (k : ℕ). floor (pos c.args.tick *ℤ shock_at xs c.args.row c.args.runs k c.args.residual) 1000 in
    let is = moved_is xs c.args.row c.args.runs (length c.args.room.now) i c.args.residual c.neighbours-p.result.0 c.neighbours-p.result.1 c.value-moved.result c.requires.sizes (omega arith) c.neighbours-p.ensures.low c.neighbours-p.ensures.high c.value-moved.ensures in
    let size : nat_abs c.value-moved.result ≤ 20000 = rw is (shock_most xs c.args.row c.args.runs i c.args.residual c.requires.sizes c.requires.scenario.1) in
    writes_more f c.loop-scenario.room i _ (omega arith)
    (change_is c.args.tick c.change_of.result c.value-moved.result (shock_at xs c.args.row c.args.runs i c.args.residual) (record { sfits = c.change_of.type_inv }) c.change_of.ensures is size)
    c.loop-scenario.invariant

use Rattle.std.proofs.Common.{◌≡◌, rules}
use Rattle.tail.proofs.Thresholds.{best_among}
use Rattle.tail.proofs.keeper.highest.Goals as goal

pub returns : goal.returns
returns g c =
    let xs = c.args.chunk.now in
    let run = c.reduce.ensures.runs in
    let items : run.0.items ≡ xs = search rules in
    best_among g.T.Ranked.reaches _ xs run.0.items run.0.len c.reduce.result items run.0.long (search rules) run.3

use Rattle.std.proofs.Common.{◌≡◌, ◌∙◌, length, arith}
use Rattle.risk.proofs.Products.{lanes_long, lane_is}
use Rattle.risk.proofs.adding.plus_products.Goals as goal

pub returns-clause-len : goal.returns-clause-len
returns-clause-len c =
    let l : length c.args.losses ≡ 4 = search in
    let w : length c.args.weights ≡ 4 = search in
    let h : length c.args.changes ≡ 4 = search in
    lanes_long c.args.losses c.args.weights c.args.changes (omega arith) (omega arith) ∙ l

pub returns-clause-value : goal.returns-clause-value
returns-clause-value c j lt =
    let l : length c.args.losses ≡ 4 = search in
    let w : length c.args.weights ≡ 4 = search in
    let h : length c.args.changes ≡ 4 = search in
    lane_is c.args.losses c.args.weights c.args.changes j (omega arith) (omega arith) (omega arith) (c.requires.losses j lt) (c.requires.weights j lt) (c.requires.changes j lt)

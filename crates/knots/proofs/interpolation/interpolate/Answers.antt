use Rattle.knots.proofs.Casts.{sum_is}
use Rattle.knots.proofs.interpolation.interpolate.Goals as goal

pub overflow_add-result : goal.overflow_add-result
overflow_add-result c =
    (sum_is c.args.low c.args.high c.args.part c.args.whole c.requires.sizes.0 c.requires.sizes.1 c.requires.parts.0 c.requires.parts.1.0 c.requires.parts.1.1
    c.scaled.result c.floored.result (record { sfits = c.scaled.type_inv }) (record { sfits = c.floored.type_inv }) c.scaled.ensures c.floored.ensures.value).0

pub returns : goal.returns
returns c =
    (sum_is c.args.low c.args.high c.args.part c.args.whole c.requires.sizes.0 c.requires.sizes.1 c.requires.parts.0 c.requires.parts.1.0 c.requires.parts.1.1
    c.scaled.result c.floored.result (record { sfits = c.scaled.type_inv }) (record { sfits = c.floored.type_inv }) c.scaled.ensures c.floored.ensures.value).1

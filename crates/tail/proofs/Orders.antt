-- Losses are ordered by their size.
use Rattle.std.proofs.Common.{arith}
use Rattle.std.proofs.lemmas.Int.{ints}
use Rattle.tail.specs.Tail.{Orders, reaches_loss}

pub loss_orders : Orders reaches_loss
loss_orders = record {
  any_two = λ x y h. grind (arith, ints);
  chain = λ x y z h k. grind (arith, ints);
}

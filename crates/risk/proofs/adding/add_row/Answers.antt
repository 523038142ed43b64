use Rattle.std.proofs.Common.{◌≡◌, ℕ, ◌+◌, ◌*◌, ◌/◌, ◌<◌, ◌≤◌, length, get_or, pos, ◌+ℤ◌, ◌*ℤ◌, nat_abs, ap, ◌∙◌, arith, w32, to_z, of_z}
use Rattle.std.proofs.lemmas.Int.{to_z-of_z}
use Rattle.risk.proofs.Products.{read_64, read_32, weight_is, sum_small, fours_below, fours_above, all_added}
use Rattle.risk.proofs.adding.add_row.Goals as goal

pub plus_products-requires-clause-losses : goal.plus_products-requires-clause-losses
plus_products-requires-clause-losses c j lt =
    let i = 4 * c.loop-four.four in
    let same = c.loop-four.invariant.1 (i + j) (omega arith) in
    let small : nat_abs (get_or c.loop-four.losses (i + j) (pos 0)) ≤ 126000000000000 = omega (arith, ap nat_abs same, c.requires.losses (i + j)) in
    omega (arith, small, ap nat_abs (read_64 c.loop-four.losses i j lt small))

pub plus_products-requires-clause-changes : goal.plus_products-requires-clause-changes
plus_products-requires-clause-changes c j lt =
    let i = 4 * c.loop-four.four in
    let small = c.requires.changes (i + j) in
    omega (arith, small, ap nat_abs (read_32 c.args.row.now i j lt small))

pub loop-four-preserved : goal.loop-four-preserved
loop-four-preserved c =
    let i = 4 * c.loop-four.four in
    let back = to_z-of_z w32 c.args.weight c.ranges.weight in
    let w = to_z w32 (of_z w32 c.args.weight) in
    let few : nat_abs w ≤ 1000000 = omega (arith, ap nat_abs back, c.requires.weight) in
    let xs = c.args.losses.now in
    let ys = c.loop-four.losses in
    let row = c.args.row.now in
    let sums = c.plus_products.result in
    let room : i + 4 ≤ length ys = omega (arith, c.loop-four.auto.losses, c.requires.lengths, c.loop-four-test.true) in
    let small : (j : ℕ) → nat_abs (get_or ys (i + j) (pos 0)) ≤ 126000000000000 = λ j. omega (arith, ap nat_abs (c.loop-four.invariant.1 (i + j) (omega arith)), c.requires.losses (i + j)) in
    let is : (j : ℕ) → j < 4 → get_or sums j (pos 0) ≡ get_or ys (i + j) (pos 0) +ℤ w *ℤ get_or row (i + j) (pos 0) =
    λ j lt. c.plus_products.ensures.value j lt ∙ (λ k. read_64 ys i j lt (small j) k +ℤ weight_is w j lt k *ℤ read_32 row i j lt (c.requires.changes (i + j)) k)
    in
    let near : (j : ℕ) → j < 4 → nat_abs (get_or sums j (pos 0)) ≤ 128000000000000 =
    λ j lt. omega (arith, ap nat_abs (is j lt), sum_small (get_or ys (i + j) (pos 0)) w (get_or row (i + j) (pos 0)) (small j) few (c.requires.changes (i + j)))
    in (
      λ j lt. fours_below xs ys row sums w i room c.plus_products.ensures.len is near c.loop-four.invariant.0 c.loop-four.invariant.1 j (omega arith),
      λ j le. fours_above xs ys row sums w i room c.plus_products.ensures.len c.loop-four.invariant.1 j (omega arith),
    )

pub returns : goal.returns
returns c j lt =
    let i = 4 * (length c.args.row.now / 4) in
    let xs = c.args.losses.now in
    let ys = c.loop-four.losses in
    let row = c.args.row.now in
    let w = to_z w32 (of_z w32 c.args.weight) in
    let end : length ys ≡ length xs = c.loop-four.auto.losses in
    let same : length row ≡ length ys = omega (arith, end, c.requires.lengths) in
    let within : i ≤ length ys = omega (arith, same) in
    let below : (k : ℕ) → k < i → get_or ys k (pos 0) ≡ get_or xs k (pos 0) +ℤ w *ℤ get_or row k (pos 0) = λ k few. c.loop-four.invariant.0 k (omega (arith, few, c.loop-four-test.false)) in
    let above : (k : ℕ) → i ≤ k → get_or ys k (pos 0) ≡ get_or xs k (pos 0) = λ k past. c.loop-four.invariant.1 k (omega (arith, past, c.loop-four.auto.four-end)) in
    all_added xs ys row c.add_each.new.losses w i within same c.add_each.auto.losses below above c.add_each.ensures j (omega (arith, end, lt))
    ∙ ap (λ z. get_or xs j (pos 0) +ℤ z *ℤ get_or row j (pos 0)) (to_z-of_z w32 c.args.weight c.ranges.weight)

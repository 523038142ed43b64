use Rattle.std.proofs.Common.{w64}
use Rattle.std.proofs.lemmas.Int.{to_z-of_z}
use Rattle.risk.proofs.Sizes.{times_most, product_most, product_fits, cast_times}
use Rattle.risk.proofs.trade.Trade.times.Goals as goal

pub returns : goal.returns
returns c =
    let n = c.args.self.row.now.notional in
    let few = c.args.self.fits.0 in
    let cast = cast_times n c.args.each few c.ranges.each in
    let back = to_z-of_z w64 _ (product_fits n c.args.each few c.ranges.each) in
    record {
      value = simp (cast, back);
      bound = simp (cast, back) (times_most n c.args.each few);
      fits = simp (cast, back) (product_most n c.args.each few c.ranges.each);
    }

use Rattle.std.proofs.Common.{ap}
use Rattle.rules.specs.Rows.{with_trades}
use Rattle.rules.specs.MarketCalls.{matured_out}
use Rattle.house.proofs.maturing.mature_account.Goals as goal

pub returns : goal.returns
unfolding matured_out
returns c =
    record { row = ap (with_trades c.args.row.now) c.mature_places-row.ensures.value; places = c.mature_places-row.ensures.places }

use Rattle.std.proofs.Common.{sym, ap, ◌∙◌}
use Rattle.market.specs.States.{market_keeps}
use Rattle.market.proofs.Changes.{changed_keeps, changeable}
use Rattle.market.proofs.market.Market.take.Goals as goal

pub change-requires : goal.change-requires
change-requires c = changeable c.args.sets c.args.self.now.state c.args.call c.args.self.now.keeps (sym c.ask_market.ensures ∙ c.in_ok-ask_market.was)

pub invariant_of-self : goal.invariant_of-self
invariant_of-self c = record {
  keeps =
      ap market_keeps c.change.ensures
      ∙ changed_keeps c.args.sets c.args.self.now.state c.args.call c.args.self.now.keeps (sym c.ask_market.ensures ∙ c.in_ok-ask_market.was);
}

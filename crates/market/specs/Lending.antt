-- The state of one family, lent out of a market state.
-- LendsFamily: the market state ends with that family as it was left, and the rest as it was.
use Rattle.std.specs.Borrow.{Lends, MutBor, Fml}
use Rattle.tables.specs.declared.codes.Family.{Family}
use Rattle.market.specs.declared.state.FamilyState.{FamilyState}
use Rattle.market.specs.declared.state.MarketState.{MarketState}
use Rattle.market.specs.contracts.state.MarketState.{the_row}
use Rattle.market.specs.contracts.state.FamilyState.{the_row as family_row}
use Rattle.market.specs.Calls.{with_family}

abbrev pub LendsFamily : MutBor MarketState → Family → MutBor FamilyState → Fml
LendsFamily k f lent = Lends the_row family_row k lent (λ s. with_family f s k.now)

use Rattle.std.proofs.Common.{◌≡◌, ℕ, map, None, sym, refl, ap, ◌∙◌}
use Rattle.market.specs.declared.call.MarketCall.{MarketCall}
use Rattle.market.specs.declared.call.MarketCall.TheVariants.{Set, Price, StepUp, Averages, Thresholds, Volatility, Close, Month}
use Rattle.tables.specs.Books.{books_of}
use Rattle.rules.specs.MarketCalls.{new_month, aged}
use Rattle.house.proofs.Announced.{unaged}
use Rattle.house.proofs.market_calls.age.Goals as goal

-- a call that is no month begins none
unbegun : (call : MarketCall) → ((month : ℕ) → call ≡ Month month → ⊥) → new_month call ≡ None
unbegun (Set s) other = refl
unbegun (Price q) other = refl
unbegun (StepUp n) other = refl
unbegun (Averages family a) other = refl
unbegun (Thresholds family t) other = refl
unbegun (Volatility check) other = refl
unbegun Close other = refl
unbegun (Month month) other = absurd (other month refl)

pub returns-in-Month-clause-books : goal.returns-in-Month-clause-books
returns-in-Month-clause-books c =
    let bs = books_of c.args.records.now c.args.trades.now in
    c.mature_all.ensures.books ∙ ap (λ (call : MarketCall). map (aged call) bs) (sym c.in-Month.is)

pub returns-in_default : goal.returns-in_default
returns-in_default c = record {
  books = unaged (new_month c.args.call) (books_of c.args.records.now c.args.trades.now) (unbegun c.args.call c.in_default.not-Month);
  keeps = c.requires;
}

use Rattle.std.proofs.Common.{◌≡◌, List, map, ap, ap₂, ◌∙◌, le-leb}
use Rattle.std.proofs.lemmas.Bool.{and_from}
use Rattle.std.specs.List.{list_all}
use Rattle.tables.specs.declared.row.SecurityRow.{SecurityRow}
use Rattle.market.specs.declared.state.FamilyState.{FamilyState}
use Rattle.market.specs.declared.state.MarketState.{MarketState}
use Rattle.market.specs.States.{market_keeps}
use Rattle.crows.specs.declared.row.CFamily.{CFamily}
use Rattle.crows.specs.declared.row.CSecurity.{CSecurity}
use Rattle.crows.specs.Rows.{family_of, security_of, security_numbers, security_fits}
use Rattle.crows.proofs.Back.{securities_back, securities_fit_back}
use Rattle.crows.proofs.houses.house_numbers.Goals as goal

same_state : (s : MarketState) (o f : CFamily) (rows : List CSecurity) → family_of o ≡ s.overnight → family_of f ≡ s.forward → rows ≡ map security_numbers s.securities
    → record s { overnight = family_of o; forward = family_of f; securities = map security_of rows } ≡ s
same_state s o f rows eo ef er =
    ap₂ (λ (a b : FamilyState). record s { overnight = a; forward = b; securities = map security_of rows }) eo ef
    ∙ ap (λ (l : List SecurityRow). record s { securities = l }) (ap (map security_of) er ∙ securities_back s.securities)

pub returns-clause-market : goal.returns-clause-market
returns-clause-market c =
    same_state c.state-state.result.now c.family_numbers.result c.family_numbers-2.result c.securities_numbers.result c.family_numbers.ensures.same c.family_numbers-2.ensures.same c.securities_numbers.ensures ∙ c.state-state.ensures.value

pub returns-clause-keeps : goal.returns-clause-keeps
returns-clause-keeps c =
    let s : MarketState = c.state-state.result.now in
    let same = same_state s c.family_numbers.result c.family_numbers-2.result c.securities_numbers.result c.family_numbers.ensures.same c.family_numbers-2.ensures.same c.securities_numbers.ensures in
    let flags = and_from _ _ c.family_numbers.ensures.fits (and_from _ _ c.family_numbers-2.ensures.fits (ap (list_all security_fits) c.securities_numbers.ensures ∙ securities_fit_back s.securities)) in
    and_from _ _ (le-leb 1 _ c.args.house.now.some) (and_from _ _ (le-leb _ 32 c.args.house.now.few) (and_from _ _ flags (ap market_keeps same ∙ c.state-state.ensures.keeps)))

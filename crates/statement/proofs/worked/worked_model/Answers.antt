use Rattle.std.proofs.Common.{ap, ◌∙◌, vec_items}
use Rattle.owned.specs.Owned.{owned}
use Rattle.owned.specs.declared.owned_model.OwnedNumbers.{OwnedNumbers}
use Rattle.statement.proofs.Figures.{tables_are}
use Rattle.statement.proofs.worked.worked_model.Goals as goal

pub returns : goal.returns
returns c =
    ap (λ (n : OwnedNumbers). owned n) c.in-Ok.ensures.1
    ∙ tables_are (vec_items c.in_ok-rates.rates) (vec_items c.in_ok-ticks.ticks) (vec_items c.in_ok-changes.changes)
    (c.in_ok-rates.ensures.items_if_clones_equal (λ y e. e)) (c.in_ok-ticks.ensures.items_if_clones_equal (λ y e. e)) (c.in_ok-changes.ensures.items_if_clones_equal (λ y e. e))

use Rattle.std.proofs.Common.{[], ◌∷◌, ℤ, pos, nat_abs, to_z, of_z, w64, ap, ◌∙◌}
use Rattle.statement.proofs.Figures.{second_of}
use Rattle.statement.proofs.worked.second_loss.Goals as goal

pub returns : goal.returns
returns c =
    c.unsigned_abs.ensures.value
    ∙ ap (λ (z : ℤ). nat_abs (to_z w64 (of_z w64 z)))
    (second_of c.kth_highest.result c.in_ok-loss.loss (pos 9 ∷ pos 9 ∷ pos 5 ∷ []) c.in_ok-loss.ensures c.kth_highest.ensures.value)

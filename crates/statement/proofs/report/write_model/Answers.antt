use Rattle.std.proofs.Common.{[], ◌∷◌, refl, ap}
use Rattle.std.specs.Prelude.{codes}
use Rattle.std.specs.Fmt.{decimal}
use Rattle.statement.proofs.Appended.{three_words}
use Rattle.statement.proofs.report.write_model.Goals as goal

pub returns : goal.returns
returns g c =
    three_words _ _ (codes "model ") _ (codes " sets ") _ (codes " scenarios ") _ (10 ∷ []) _ _ _ c.in_ok-writeln.ensures.bytes
    refl (ap decimal c.sets.ensures) (ap decimal c.scenarios.ensures)

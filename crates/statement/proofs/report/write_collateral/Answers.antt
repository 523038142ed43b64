use Rattle.std.proofs.Common.{[], ◌∷◌, refl}
use Rattle.std.specs.Prelude.{codes}
use Rattle.statement.proofs.Appended.{three_words}
use Rattle.statement.proofs.report.write_collateral.Goals as goal

pub returns : goal.returns
returns c =
    three_words _ _ (codes "collateral cash ") _ (codes " securities ") _ (codes " total ") _ (10 ∷ []) _ _ _ c.in_ok-writeln.ensures.bytes
    refl refl refl

use Rattle.std.proofs.Common.{[], ◌∷◌, ◌+◌, ◌*◌, ap, ap₂, ◌∙◌}
use Rattle.std.specs.Prelude.{codes}
use Rattle.std.specs.Fmt.{decimal}
use Rattle.statement.proofs.Appended.{three_words}
use Rattle.statement.proofs.report.write_flags.Goals as goal

pub returns : goal.returns
returns c =
    three_words _ _ (codes "own-flag ") _ (codes " second-flag ") _ (codes " restriction ") _ (10 ∷ []) _ _ _ c.in_ok-writeln.ensures.bytes
    (ap decimal c.from-first.ensures) (ap decimal c.from-other.ensures)
    (ap₂ (λ x y. decimal (x + 2 * y)) (c.from.ensures ∙ c.from-first.ensures) (c.from-2.ensures ∙ c.from-other.ensures))

use Rattle.std.proofs.Common.{ℕ, List, ◌++◌, ap, ap₂, ◌∙◌}
use Rattle.models.specs.Table.{table}
use Rattle.models.specs.Tables.{Tables}
use Rattle.statement.specs.Worked.{model_lines, rule_lines}
use Rattle.statement.proofs.worked.worked_text.Goals as goal

pub returns : goal.returns
returns c =
    c.in_ok-write_rules.ensures
    ∙ ap (λ (x : List ℕ). x ++ rule_lines) c.in_ok-write_on_model.ensures
    ∙ ap₂ (λ (x : List ℕ) (t : Tables). (x ++ model_lines (table t)) ++ rule_lines) c.new-text.ensures.bytes c.in_ok-model.ensures

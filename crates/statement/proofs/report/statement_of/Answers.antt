use Rattle.std.proofs.Common.{ℕ, List, [], ◌++◌, ap, ap₂, ◌∙◌}
use Rattle.margins.specs.Figures.{figures_of}
use Rattle.margins.specs.declared.figures.Figures.{Figures}
use Rattle.scan.specs.Texts.{line}
use Rattle.statement.specs.Printing.{model_line, figures_text}
use Rattle.statement.proofs.report.statement_of.Goals as goal

pub returns : goal.returns
returns g c =
    let m = g.M.MarginModel.meaning c.args.model.now in
    let input = c.args.input.now in
    c.in_ok-write_statement.ensures
    ∙ ap₂ (λ (x : List ℕ) (f : Figures). x ++ (model_line c.args.name.now m ++ figures_text input.row input.restricted f ++ line []))
    c.new-text.ensures.bytes (c.in_ok-f.ensures ∙ ap (figures_of m input.state input.row) c.as_slice.ensures.value)

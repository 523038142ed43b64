use Rattle.std.proofs.Common.{[], ◌∷◌, ◌++◌, string_bytes}
use Rattle.std.specs.Prelude.{codes}
use Rattle.margins.specs.Printing.{family_text}
use Rattle.scan.specs.Texts.{line}
use Rattle.statement.specs.Printing.{family_heading}
use Rattle.statement.proofs.Appended.{and_then}
use Rattle.statement.proofs.report.write_families.Goals as goal

pub returns : goal.returns
returns c =
    let o = string_bytes c.args.text.now in
    let first = line (codes "0" ∷ family_text c.args.f.now.overnight ∷ []) in
    let second = line (codes "1" ∷ family_text c.args.f.now.forward ∷ []) in
    and_then o (family_heading ++ first) second _ _ (and_then o family_heading first _ _ c.in_ok-writeln.ensures.bytes c.in_ok-writeln-2.ensures.bytes) c.in_ok-writeln-3.ensures.bytes

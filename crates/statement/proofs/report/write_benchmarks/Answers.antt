use Rattle.std.proofs.Common.{[], ◌∷◌, ◌++◌, string_bytes}
use Rattle.std.specs.Prelude.{codes}
use Rattle.margins.specs.Printing.{benchmark_text}
use Rattle.scan.specs.Texts.{line}
use Rattle.statement.specs.Printing.{benchmark_heading}
use Rattle.statement.proofs.Appended.{and_then}
use Rattle.statement.proofs.report.write_benchmarks.Goals as goal

pub returns : goal.returns
returns c =
    let o = string_bytes c.args.text.now in
    let f = c.args.f.now in
    let first = line (codes "0" ∷ benchmark_text f.overnight.first ∷ []) in
    let second = line (codes "1" ∷ benchmark_text f.overnight.second ∷ []) in
    let third = line (codes "2" ∷ benchmark_text f.forward.first ∷ []) in
    let fourth = line (codes "3" ∷ benchmark_text f.forward.second ∷ []) in
    and_then o (benchmark_heading ++ first ++ second ++ third) fourth _ _
    (and_then o (benchmark_heading ++ first ++ second) third _ _
    (and_then o (benchmark_heading ++ first) second _ _
    (and_then o benchmark_heading first _ _ c.in_ok-writeln.ensures.bytes c.in_ok-writeln-2.ensures.bytes)
    c.in_ok-writeln-3.ensures.bytes) c.in_ok-writeln-4.ensures.bytes) c.in_ok-writeln-5.ensures.bytes

use Rattle.std.proofs.Common.{true, false, ◌++◌, string_bytes}
use Rattle.std.specs.Prelude.{codes}
use Rattle.statement.specs.Worked.{flag_line}
use Rattle.statement.proofs.Appended.{and_then}
use Rattle.statement.proofs.worked.write_flags.Goals as goal

pub returns : goal.returns
returns c =
    let o = string_bytes c.args.text.now in
    let first = flag_line (codes "own-flag-95-of-100") false 95 0 in
    let second = flag_line (codes "own-flag-96-of-100") false 96 1 in
    let third = flag_line (codes "own-flag-stays-at-90") true 90 1 in
    let fourth = flag_line (codes "own-flag-clears-at-89") true 89 0 in
    and_then o (first ++ second ++ third) fourth _ _
    (and_then o (first ++ second) third _ _ (and_then o first second _ _ c.in_ok-write_flag.ensures c.in_ok-write_flag-2.ensures) c.in_ok-write_flag-3.ensures)
    c.in_ok-write_flag-4.ensures

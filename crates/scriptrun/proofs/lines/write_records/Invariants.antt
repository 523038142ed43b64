use Rattle.std.proofs.Common.{◌≡◌, ◌++◌, drop, string_bytes}
use Rattle.scriptrun.specs.Lines.{record_lines}
use Rattle.scriptrun.proofs.lines.write_records.Given as goal

-- the rows so far and those of what is left are all the rows
abbrev pub invariant-loop-account : goal.invariant-loop-account
invariant-loop-account l = string_bytes l.text ++ record_lines l.account (drop l.account l.rows) ≡ string_bytes l.fn.text ++ record_lines 0 l.rows

use Rattle.std.proofs.Common.{◌≡◌, map, length, take}
use Rattle.crows.specs.Rows.{account_numbers}
use Rattle.ccalls.proofs.rows.write_accounts.Given as goal

abbrev pub invariant-loop-i : goal.invariant-loop-i
invariant-loop-i l = (length l.into ≡ length l.from) × (take l.i l.into ≡ map account_numbers (take l.i l.from))

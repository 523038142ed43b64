use Rattle.std.proofs.Common.{◌≡◌, map, length, take}
use Rattle.crows.specs.Rows.{account_of}
use Rattle.ccalls.proofs.rows.read_accounts.Given as goal

abbrev pub invariant-loop-i : goal.invariant-loop-i
invariant-loop-i l = (length l.into ≡ length l.from) × (take l.i l.into ≡ map account_of (take l.i l.from))
